use Rattle.std.proofs.Common.{sym, ap, ◌∙◌}
use Rattle.std.proofs.lemmas.Result.{on_ok_weaker}
use Rattle.sve_directive.specs.declared.directive.Refusal.{Refusal}
use Rattle.sve_prep.specs.Step.{refuse_directive}
use Rattle.sve_prep.specs.View.{view}
use Rattle.sve_prep.proofs.work.Work.refuse_directive.Goals as goal

pub returns-in-Keywords : goal.returns-in-Keywords
returns-in-Keywords c = on_ok_weaker c.refuse.result (λ h. λ asked. h asked ∙ ap (λ (x : Refusal). refuse_directive x c.args.count (view c.args.self.now asked)) (sym c.in-Keywords.is)) c.refuse.ensures

pub returns-in-Malformed : goal.returns-in-Malformed
returns-in-Malformed c = on_ok_weaker c.refuse-in-Malformed.result (λ h. λ asked. h asked ∙ ap (λ (x : Refusal). refuse_directive x c.args.count (view c.args.self.now asked)) (sym c.in-Malformed.is)) c.refuse-in-Malformed.ensures

pub returns-in-LongUse : goal.returns-in-LongUse
returns-in-LongUse c = on_ok_weaker c.refuse-in-LongUse.result (λ h. λ asked. h asked ∙ ap (λ (x : Refusal). refuse_directive x c.args.count (view c.args.self.now asked)) (sym c.in-LongUse.is)) c.refuse-in-LongUse.ensures
