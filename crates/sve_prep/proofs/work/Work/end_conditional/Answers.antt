use Rattle.std.proofs.Common.{◌∙◌, reverse}
use Rattle.std.proofs.lemmas.Result.{on_ok_weaker}
use Rattle.sve_prep.specs.View.{view}
use Rattle.sve_prep.proofs.Cases.{end_alone, no_conditions}
use Rattle.sve_prep.proofs.work.Work.end_conditional.Goals as goal

pub returns-in-None : goal.returns-in-None
returns-in-None c =
    let old = c.args.self.now.conditions in
    let new = c.pop.new.self in
    on_ok_weaker c.refuse_alone.result (λ h. λ asked. h asked ∙ end_alone c.args.count (view c.args.self.now asked) (reverse old.items) (reverse new.items) (no_conditions old.items old.len old.ok.0 c.in-None.ensures.cases.0) (no_conditions new.items new.len new.ok.0 c.in-None.ensures.cases.1)) c.refuse_alone.ensures
