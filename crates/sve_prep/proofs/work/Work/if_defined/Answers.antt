use Rattle.std.proofs.Common.{Bool, ap, ◌∙◌}
use Rattle.std.proofs.lemmas.Result.{on_ok_weaker}
use Rattle.sve_prep.specs.Conditionals.{open_conditional}
use Rattle.sve_prep.specs.View.{view}
use Rattle.sve_prep.proofs.work.Work.if_defined.Goals as goal

pub returns : goal.returns
returns c = on_ok_weaker c.open_conditional.result (λ h. λ asked. h asked ∙ ap (λ (b : Bool). open_conditional b c.args.count (view c.args.self.now asked)) (c.is_defined-holds.ensures asked)) c.open_conditional.ensures
