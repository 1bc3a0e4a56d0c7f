use Rattle.std.proofs.Common.{◌≡◌, ℕ, length, subst, arith}
use Rattle.sve_macro.specs.Numbers.{Gathers}
use Rattle.sve_macro.proofs.piece_numbers.gather.Goals as goal

pub returns : goal.returns
returns c =
    let e : c.loop-place.place ≡ length c.args.actuals.now = omega arith in
    subst (λ (n : ℕ). Gathers c.args.numbers.now c.args.actuals.now n c.loop-place.gathered.items) e c.loop-place.invariant
