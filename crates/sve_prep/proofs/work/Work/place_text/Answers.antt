use Rattle.std.proofs.Common.{ℕ, true, refl, ap, ◌∙◌, ◌+◌}
use Rattle.std.proofs.lemmas.Result.{on_ok_weaker}
use Rattle.sve_prep.specs.View.{view}
use Rattle.sve_prep.proofs.Cases.{same_place}
use Rattle.sve_prep.proofs.work.Work.place_text.Goals as goal

pub returns : goal.returns
returns c =
    on_ok_weaker c.replace.result (λ h. λ asked. h asked
    ∙ same_place c.args.count c.args.text.value true (view c.args.self.now asked) refl refl refl (c.in_ok-macros.ensures ∙ c.macros.ensures) (ap (λ (k : ℕ). k + 1) c.level-level.ensures)) c.replace.ensures
