-- The list of bits gives back the words that it was made from, so that a value can be copied.
use Rattle.std.proofs.Common.{◌≡◌, ℕ, zero, suc, ◌/◌, ◌%◌, ◌<◌, ◌^◌, ◌⊎◌, length, refl, ap, arith, inl, inr}
use Rattle.std.proofs.Math.Nat.{pow-suc}
use Rattle.sve_value.specs.Planes.{bit_of, planes, ones_digit, unknowns_digit, ones_word, unknowns_word}

pub length-planes : (width ones unknowns : ℕ) → length (planes width ones unknowns) ≡ width
unfolding planes
length-planes zero ones unknowns = refl
length-planes (suc width) ones unknowns = ap suc (length-planes width (ones / 2) (unknowns / 2))

-- a number of one more digit loses it by halving
pub half_below : (width n : ℕ) → n < 2 ^ suc width → n / 2 < 2 ^ width
half_below width n h = omega (arith, pow-suc 2 width)

below_two : (n : ℕ) → n < 2 → (n ≡ 0) ⊎ (n ≡ 1)
below_two zero h = inl refl
below_two (suc zero) h = inr refl
below_two (suc (suc n)) h = absurd (omega arith)

pub is_digit : (n : ℕ) → (n % 2 ≡ 0) ⊎ (n % 2 ≡ 1)
is_digit n = below_two (n % 2) (omega arith)

ones_digit-bit_of : (o u : ℕ) → ones_digit (bit_of (o % 2) (u % 2)) ≡ o % 2
ones_digit-bit_of o u = elim (is_digit o) [
  | inl p ↦ elim (is_digit u) [ inl q ↦ rw (p, q) refl | inr q ↦ rw (p, q) refl ]
  | inr p ↦ elim (is_digit u) [ inl q ↦ rw (p, q) refl | inr q ↦ rw (p, q) refl ]
]

unknowns_digit-bit_of : (o u : ℕ) → unknowns_digit (bit_of (o % 2) (u % 2)) ≡ u % 2
unknowns_digit-bit_of o u = elim (is_digit o) [
  | inl p ↦ elim (is_digit u) [ inl q ↦ rw (p, q) refl | inr q ↦ rw (p, q) refl ]
  | inr p ↦ elim (is_digit u) [ inl q ↦ rw (p, q) refl | inr q ↦ rw (p, q) refl ]
]

pub ones_word-planes : (width ones unknowns : ℕ) → ones < 2 ^ width → ones_word (planes width ones unknowns) ≡ ones
unfolding planes ones_word
ones_word-planes zero ones unknowns h = omega arith
ones_word-planes (suc width) ones unknowns h =
    rw (ones_digit-bit_of ones unknowns, ones_word-planes width (ones / 2) (unknowns / 2) (half_below width ones h)) (omega arith)

pub unknowns_word-planes : (width ones unknowns : ℕ) → unknowns < 2 ^ width → unknowns_word (planes width ones unknowns) ≡ unknowns
unfolding planes unknowns_word
unknowns_word-planes zero ones unknowns h = omega arith
unknowns_word-planes (suc width) ones unknowns h =
    rw (unknowns_digit-bit_of ones unknowns, unknowns_word-planes width (ones / 2) (unknowns / 2) (half_below width unknowns h)) (omega arith)
