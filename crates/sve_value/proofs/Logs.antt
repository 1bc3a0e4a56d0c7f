-- The ceiling of a logarithm, by the powers that lie below a number.
use Rattle.std.proofs.Common.{◌≡◌, ℕ, zero, suc, ◌+◌, ◌-◌, ◌<◌, ◌≤◌, ◌^◌, nat_lt, if◌then◌else◌, refl, ◌∙◌, arith, lit<}
use Rattle.std.specs.Int.Count.{count_leading_zeros}
use Rattle.std.proofs.lemmas.Nat.{leading_top}
use Rattle.std.proofs.lemmas.Bool.Decides.{nat_tests}
use Rattle.std.proofs.Math.Nat.{pow-le-pow_right}
use Rattle.sve_value.specs.Arithmetic.{powers_below, IsCeilingOfLog}
use Rattle.sve_value.proofs.Places.{by_order}

count_more : (p n k m : ℕ) → p < n → k ≡ m → k + (if nat_lt p n then 1 else 0) ≡ suc m
count_more p n k m h e = grind (arith, nat_tests)

count_same : (p n k m : ℕ) → n ≤ p → k ≡ m → k + (if nat_lt p n then 1 else 0) ≡ m
count_same p n k m h e = grind (arith, nat_tests)

all_below : (n width : ℕ) → ((j : ℕ) → j < width → 2 ^ j < n) → powers_below n width ≡ width
unfolding powers_below
all_below n zero f = refl
all_below n (suc width) f = count_more (2 ^ width) n (powers_below n width) width (f width (omega arith)) (all_below n width (λ j l. f j (omega (arith, l))))

pub powers-ceiling : (n k width : ℕ) → k ≤ width → IsCeilingOfLog n k → powers_below n width ≡ k
unfolding powers_below
powers-ceiling n k zero h c = omega arith
powers-ceiling n k (suc width) h c = by_order width k
    (λ l. let e : suc width ≡ k = omega arith in
    count_more (2 ^ width) n (powers_below n width) width (c.1 width l) (all_below n width (λ j i. c.1 j (omega (arith, i)))) ∙ e)
    (λ l. let up : 2 ^ k ≤ 2 ^ width = pow-le-pow_right (lit< tt) l in
    count_same (2 ^ width) n (powers_below n width) k (omega (arith, c.0, up)) (powers-ceiling n k width l c))

-- a number of so many digits has no greater logarithm
pub ceiling_within : (n k width : ℕ) → n < 2 ^ width → IsCeilingOfLog n k → k ≤ width
ceiling_within n k width h c = by_order width k (λ l. absurd (omega (arith, c.1 width l, h))) (λ l. l)

from_top : (n z : ℕ) → 1 < n → (j : ℕ) × (z + suc j ≡ 128) × (2 ^ j ≤ n - 1) × (n - 1 < 2 ^ suc j) → IsCeilingOfLog n (128 - z)
from_top n z g t =
    let k : 128 - z ≡ suc t.0 = omega (arith, t.1) in
    rw k ((omega (arith, t.3)), (λ j l. let e : 2 ^ j ≤ 2 ^ t.0 = pow-le-pow_right (lit< tt) (omega (arith, l)) in omega (arith, t.2, e)))

pub ceiling_large : (n : ℕ) → 1 < n → n < 2 ^ 128 → IsCeilingOfLog n (128 - count_leading_zeros 128 (n - 1))
ceiling_large n g h = from_top n (count_leading_zeros 128 (n - 1)) g (leading_top 128 (n - 1) (omega arith) (omega arith))

pub ceiling_small : (n : ℕ) → n ≤ 1 → IsCeilingOfLog n 0
ceiling_small n h = (omega arith, (λ j l. absurd (omega (arith, l))))
