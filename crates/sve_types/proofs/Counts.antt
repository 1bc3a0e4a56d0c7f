-- Counting to a limit: a part may be cut before it is added or multiplied.
use Rattle.std.proofs.Common.{◌≡◌, ℕ, zero, suc, ◌+◌, ◌-◌, ◌*◌, ◌^◌, ◌≤◌, ◌<◌, ◌⊎◌, inl, inr, min, refl, sym, List, length, get_or, drop, drop-cons, add-one, arith}
use Rattle.std.proofs.Math.ListN.{drop_of_length-le}
use Rattle.std.proofs.Math.Nat.{mul_assoc}
use Rattle.sve_types.specs.declared.ty.Range.{Range}
use Rattle.sve_types.specs.Dimensions.{place_count, element_count}
use Rattle.sve_types.specs.Widths.{counted}

at_least : (n m : ℕ) → n ≤ n * suc m
at_least n m = grind arith

over : (n m k : ℕ) → k ≤ n → min (min n k * m) k ≡ min (n * m) k
over n zero k h = grind arith
over n (suc m) k h =
    let a : min n k ≡ k = omega arith in
    let b : k ≤ k * suc m = at_least k m in
    let c : n ≤ n * suc m = at_least n m in
    let d : min (k * suc m) k ≡ k = omega (arith, b) in
    let e : min (n * suc m) k ≡ k = omega (arith, c, h) in
    rw (a, d, e) refl

under : (n m k : ℕ) → n ≤ k → min (min n k * m) k ≡ min (n * m) k
under n m k h = let a : min n k ≡ n = omega arith in rw a refl

either : (n k : ℕ) → (n ≤ k) ⊎ (k ≤ n)
either zero k = inl (omega arith)
either (suc n) zero = inr (omega arith)
either (suc n) (suc k) = elim (either n k) [ inl h ↦ inl (omega (arith, h)) | inr h ↦ inr (omega (arith, h)) ]

min-min_mul : (n m k : ℕ) → min (min n k * m) k ≡ min (n * m) k
min-min_mul n m k = elim (either n k) [ inl h ↦ under n m k h | inr h ↦ over n m k h ]

pub counted_of_counted_mul : (n m : ℕ) → counted (counted n * m) ≡ counted (n * m)
counted_of_counted_mul n m = min-min_mul n m (2 ^ 64 - 1)

-- one more dimension
pub repeated_more : (rs : List Range) (d : Range) (i total places next whole : ℕ) → i < length rs → places ≡ place_count (get_or rs i d) → next ≡ counted (total * places) → counted (total * element_count (drop i rs)) ≡ whole → counted (next * element_count (drop (i + 1) rs)) ≡ whole
repeated_more rs d i total places next whole h p n e =
    let rest : ℕ = element_count (drop (suc i) rs) in
    let a : counted (total * (place_count (get_or rs i d) * rest)) ≡ whole = rw (drop-cons rs i d h) at e in
    let b : counted (total * places) ≡ next = sym n in
    rw (n, add-one, counted_of_counted_mul (total * places) rest, mul_assoc, p) a

-- all of them
pub repeated_all : (rs : List Range) (i total width bits : ℕ) → length rs ≤ i → total ≤ 2 ^ 64 - 1 → width ≡ counted bits → counted (total * element_count (drop i rs)) ≡ counted (width * element_count rs) → total ≡ counted (bits * element_count rs)
repeated_all rs i total width bits h l w e =
    let a : counted (total * 1) ≡ counted (width * element_count rs) = rw (drop_of_length-le rs h) at e in
    let b : counted (width * element_count rs) ≡ counted (bits * element_count rs) = rw w (counted_of_counted_mul bits (element_count rs)) in
    let c : counted total ≡ total = omega arith in
    omega (arith, a, b, c)
