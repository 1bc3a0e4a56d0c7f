use mir.Val.{SFits}
use Rattle.std.proofs.Common.{◌≡◌, ◌≤◌, ◌<◌, ◌^◌, ◌*ℤ◌, arith, rules, lit<, pos, unsigned_abs, w64, FitsSigned}
use Rattle.std.proofs.lemmas.Int.{ints, fits_signed_mul, fits_signed_from_abs, to_z-of_z}
use Rattle.sve_select.proofs.Windows.{abs_within}
use Rattle.sve_select.proofs.select.lowest.Goals as goal

pub overflow_mul-result : goal.overflow_mul-result
overflow_mul-result c =
    let e : c.from.result ≡ pos c.args.each = first_of (cc, search rules, grind (arith, ints)) in
    let p : unsigned_abs c.args.place ≤ 128 = abs_within c.args.place c.requires.low c.requires.high in
    let q : unsigned_abs c.from.result ≤ 128 = rw e (omega (arith, ints)) in
    let r : unsigned_abs c.from.result < 2 ^ 63 = omega (arith, q) in
    let g : FitsSigned w64 (c.args.place *ℤ c.from.result) = fits_signed_mul w64 c.args.place c.from.result 128 128 p q (lit< tt) in
    let f : SFits w64 c.args.place = c.ranges.place in
    let h : SFits w64 c.from.result = fits_signed_from_abs w64 c.from.result r in
    simp to_z-of_z g
