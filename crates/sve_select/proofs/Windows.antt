-- Parts of a value that lie wholly outside, and how many bits a part has.
use Rattle.std.proofs.Common.{◌≡◌, ℕ, zero, suc, ◌-◌, ◌*◌, ◌/◌, ◌<◌, ◌≤◌, Bool, false, length, ap, arith, ℤ, pos, negsuc, neg_ℤ, ◌*ℤ◌, ◌≤ℤ◌, unsigned_abs}
use Rattle.std.proofs.lemmas.Int.{ints}
use Rattle.std.proofs.Math.IntN.{negsuc-*ℤ-pos}
use Rattle.sve_value.specs.Vector.{Vector}
use Rattle.sve_value.specs.Moves.{filled_of, outside_bit, select_of}
use Rattle.sve_value.proofs.Windows.{window_past, window_before}

at_least : (n m : ℕ) → 1 ≤ m → n ≤ n * m
at_least n (suc m) h = grind arith
at_least n zero h = absurd (omega arith)

pub not_empty : (count each : ℕ) → 1 ≤ count → 1 ≤ each → 1 ≤ count * each
not_empty count each h k = omega (arith, at_least count each k)

-- more than 128 places have more than 128 bits
pub too_wide : (count each : ℕ) → 128 < count → 1 ≤ each → 128 < count * each
too_wide count each h k = omega (arith, at_least count each k)

pub far_above : (v : Vector) (z : ℤ) (each width : ℕ) (two_states : Bool) → 1 ≤ each → pos (length v.bits) ≤ℤ z →
    filled_of width false (outside_bit two_states) ≡ select_of v (z *ℤ pos each) width two_states
far_above v (pos n) each width two_states e h =
    let k : length v.bits ≤ n = omega (arith, ints) in
    ap (λ bs. record { signed = false; bits = bs }) (window_past (n * each) width v.bits (outside_bit two_states) (omega (arith, at_least n each e)))
far_above v (negsuc n) each width two_states e h = absurd (omega (arith, ints))

before_all : (v : Vector) (m k width : ℕ) (two_states : Bool) → m ≡ suc k → width ≤ m →
    filled_of width false (outside_bit two_states) ≡ select_of v (neg_ℤ (pos m)) width two_states
before_all v m k width two_states e h =
    rw e (ap (λ bs. record { signed = false; bits = bs }) (window_before (suc k) width v.bits (outside_bit two_states) (omega (arith, e, h))))

pub far_below : (v : Vector) (z : ℤ) (each width : ℕ) (two_states : Bool) → width ≤ 128 → 1 ≤ each → z ≤ℤ neg_ℤ (pos 128) →
    filled_of width false (outside_bit two_states) ≡ select_of v (z *ℤ pos each) width two_states
far_below v (pos n) each width two_states l e h = absurd (omega (arith, ints))
far_below v (negsuc n) each width two_states l e h =
    let k : 128 ≤ suc n = omega (arith, ints) in
    let m : suc n ≤ suc n * each = at_least (suc n) each e in
    rw (negsuc-*ℤ-pos n each) (before_all v (suc n * each) (suc n * each - 1) width two_states (omega (arith, m, k)) (omega (arith, m, k)))

div_le : (n d : ℕ) → n / d ≤ n
div_le n d = grind arith

pub quotient_below : (n d : ℕ) → n / d ≤ n
quotient_below n d = div_le n d

-- a whole number between two bounds is no larger than they are
pub abs_within : (z : ℤ) → neg_ℤ (pos 128) ≤ℤ z → z ≤ℤ pos 128 → unsigned_abs z ≤ 128
abs_within (pos n) h k = omega (arith, ints)
abs_within (negsuc n) h k = omega (arith, ints)
