use Rattle.std.proofs.Common.{ap, ◌∙◌, ◌∷◌}
use Rattle.std.proofs.lemmas.Result.{on_ok_weaker}
use Rattle.sve_prep.specs.declared.condition.Condition.{Condition}
use Rattle.sve_prep.specs.State.{forward}
use Rattle.sve_prep.specs.View.{view}
use Rattle.sve_prep.proofs.work.Work.open_conditional.Goals as goal

pub returns : goal.returns
returns c =
    on_ok_weaker c.push_condition.result (λ h. λ asked. h asked
    ∙ ap (λ (k : Condition). forward c.args.count (record (view c.args.self.now asked) { conditions = k ∷ (view c.args.self.now asked).conditions })) (c.in_ok-condition.ensures asked)) c.push_condition.ensures
