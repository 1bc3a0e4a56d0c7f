use Rattle.std.proofs.Common.{◌≡◌, false, refl, arith}
use Rattle.std.specs.Prelude.{◌==◌}
use Rattle.std.proofs.lemmas.Bool.Decides.{nat_tests}
use Rattle.sve_run.proofs.step.enter.Goals as goal

pub returns-else-top-eq512 : goal.returns-else-top-eq512
returns-else-top-eq512 c =
    let below : (c.args.top.depth == 512) ≡ false = grind (arith, nat_tests) in
    λ rest ms. (ms, rw (c.requires, ← c.opens_here.ensures, c.if-not-opens_here.false, below, c.of.ensures.part, c.of.ensures.depth, c.replacement.ensures) refl)
