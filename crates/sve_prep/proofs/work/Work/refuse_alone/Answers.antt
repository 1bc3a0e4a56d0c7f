use Rattle.std.proofs.Common.{List, ℕ, Some, ap, ◌∙◌}
use Rattle.std.proofs.lemmas.Result.{on_ok_weaker}
use Rattle.sve_diag.specs.declared.code.Code.TheVariants.{P10}
use Rattle.sve_prep.specs.State.{refuse}
use Rattle.sve_prep.specs.View.{view}
use Rattle.sve_prep.proofs.work.Work.refuse_alone.Goals as goal

pub returns : goal.returns
returns c =
    on_ok_weaker c.refuse.result (λ h. λ asked. h asked
    ∙ ap (λ (w : List ℕ). refuse P10 (Some w) c.args.count (view c.args.self.now asked)) c.in_ok-name.ensures) c.refuse.ensures
