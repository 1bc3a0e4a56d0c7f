-- Formulas over four words, those of two operands. Two formulas, for the words of a result, are an operator that goes
-- bit by bit, wherever they agree with its truth table on single bits.
use Rattle.std.proofs.Common.{◌≡◌, ℕ, zero, suc, ◌-◌, ◌/◌, ◌%◌, ◌<◌, ◌≤◌, ◌^◌, ◌∷◌, refl, ap, ◌∙◌, arith, inl, inr, bit_and, bit_or, bit_xor}
use Rattle.std.proofs.lemmas.Nat.{and_mod, or_mod, xor_mod, and_shr, or_shr, xor_shr, and_le_l, or_lt, xor_lt, pow_pos}
use Rattle.std.proofs.Math.Nat.{pow-suc}
use Rattle.sve_value.specs.declared.bit.Bit.{Bit}
use Rattle.sve_value.specs.Planes.{bit_of, planes}
use Rattle.sve_value.specs.Back.{is_digit, half_below}
use Rattle.sve_value.specs.Bitwise.{each, pairs}

pub data Gate : Type 0 where
  left_ones : Gate
  left_unknowns : Gate
  right_ones : Gate
  right_unknowns : Gate
  nothing : Gate
  meet : Gate → Gate → Gate
  join : Gate → Gate → Gate
  differ : Gate → Gate → Gate
  invert : Gate → Gate

-- the word of k digits that a formula makes of four words
abbrev pub word : ℕ → ℕ → ℕ → ℕ → ℕ → Gate → ℕ
word k p q r s left_ones = p
word k p q r s left_unknowns = q
word k p q r s right_ones = r
word k p q r s right_unknowns = s
word k p q r s nothing = 0
word k p q r s (meet g h) = bit_and (word k p q r s g) (word k p q r s h)
word k p q r s (join g h) = bit_or (word k p q r s g) (word k p q r s h)
word k p q r s (differ g h) = bit_xor (word k p q r s g) (word k p q r s h)
word k p q r s (invert g) = 2 ^ k - 1 - word k p q r s g

pub record Fit (k p q r s : ℕ) : Type 0 where
  pub first : p < 2 ^ k
  pub second : q < 2 ^ k
  pub third : r < 2 ^ k
  pub fourth : s < 2 ^ k

fits : (k p q r s : ℕ) → Fit k p q r s → (g : Gate) → word k p q r s g < 2 ^ k
fits k p q r s f left_ones = f.first
fits k p q r s f left_unknowns = f.second
fits k p q r s f right_ones = f.third
fits k p q r s f right_unknowns = f.fourth
fits k p q r s f nothing = pow_pos k
fits k p q r s f (meet g h) = omega (arith, and_le_l (word k p q r s g) (word k p q r s h), fits k p q r s f g)
fits k p q r s f (join g h) = or_lt k _ _ (fits k p q r s f g) (fits k p q r s f h)
fits k p q r s f (differ g h) = xor_lt k _ _ (fits k p q r s f g) (fits k p q r s f h)
fits k p q r s f (invert g) = omega (arith, pow_pos k)

halved : (k p q r s : ℕ) → Fit (suc k) p q r s → Fit k (p / 2) (q / 2) (r / 2) (s / 2)
halved k p q r s f = record {
  first = half_below k p f.first;
  second = half_below k q f.second;
  third = half_below k r f.third;
  fourth = half_below k s f.fourth;
}

-- a formula goes digit by digit: on the lowest digits, and on the rest
pub lowest : (k p q r s : ℕ) → Fit (suc k) p q r s → (g : Gate) → word (suc k) p q r s g % 2 ≡ word 1 (p % 2) (q % 2) (r % 2) (s % 2) g
lowest k p q r s f left_ones = refl
lowest k p q r s f left_unknowns = refl
lowest k p q r s f right_ones = refl
lowest k p q r s f right_unknowns = refl
lowest k p q r s f nothing = refl
lowest k p q r s f (meet g h) = and_mod (word (suc k) p q r s g) (word (suc k) p q r s h) 1 ∙ rw (lowest k p q r s f g, lowest k p q r s f h) refl
lowest k p q r s f (join g h) = or_mod (word (suc k) p q r s g) (word (suc k) p q r s h) 1 ∙ rw (lowest k p q r s f g, lowest k p q r s f h) refl
lowest k p q r s f (differ g h) = xor_mod (word (suc k) p q r s g) (word (suc k) p q r s h) 1 ∙ rw (lowest k p q r s f g, lowest k p q r s f h) refl
lowest k p q r s f (invert g) = rw (← lowest k p q r s f g) (omega (arith, pow-suc 2 k, fits (suc k) p q r s f g))

pub rest : (k p q r s : ℕ) → Fit (suc k) p q r s → (g : Gate) → word (suc k) p q r s g / 2 ≡ word k (p / 2) (q / 2) (r / 2) (s / 2) g
rest k p q r s f left_ones = refl
rest k p q r s f left_unknowns = refl
rest k p q r s f right_ones = refl
rest k p q r s f right_unknowns = refl
rest k p q r s f nothing = refl
rest k p q r s f (meet g h) = and_shr (word (suc k) p q r s g) (word (suc k) p q r s h) 1 ∙ rw (rest k p q r s f g, rest k p q r s f h) refl
rest k p q r s f (join g h) = or_shr (word (suc k) p q r s g) (word (suc k) p q r s h) 1 ∙ rw (rest k p q r s f g, rest k p q r s f h) refl
rest k p q r s f (differ g h) = xor_shr (word (suc k) p q r s g) (word (suc k) p q r s h) 1 ∙ rw (rest k p q r s f g, rest k p q r s f h) refl
rest k p q r s f (invert g) = rw (← rest k p q r s f g) (omega (arith, pow-suc 2 k, fits (suc k) p q r s f g))

-- a fact of each two digits
abbrev pub AtDigits : (ℕ → ℕ → Type 0) → Type 0
AtDigits P = P 0 0 × P 0 1 × P 1 0 × P 1 1

at_digits : (P : ℕ → ℕ → Type 0) → AtDigits P → (o u : ℕ) → P (o % 2) (u % 2)
at_digits P t o u = elim (is_digit o) [
  | inl p ↦ elim (is_digit u) [ inl q ↦ rw (p, q) t.0 | inr q ↦ rw (p, q) t.1 ]
  | inr p ↦ elim (is_digit u) [ inl q ↦ rw (p, q) t.2 | inr q ↦ rw (p, q) t.3 ]
]

-- a truth table is two formulas
abbrev pub IsTable : (Bit → Bit → Bit) → Gate → Gate → Type 0
IsTable table g h = AtDigits (λ o u. AtDigits (λ p v. table (bit_of o u) (bit_of p v) ≡ bit_of (word 1 o u p v g) (word 1 o u p v h)))

pub pairs-planes : (table : Bit → Bit → Bit) (g h : Gate) → IsTable table g h → (width k p q r s : ℕ) → width ≤ k → Fit k p q r s →
    pairs table (planes width p q) (planes width r s) ≡ planes width (word k p q r s g) (word k p q r s h)
unfolding planes pairs
pairs-planes table g h t zero k p q r s l f = refl
pairs-planes table g h t (suc width) zero p q r s l f = absurd (omega arith)
pairs-planes table g h t (suc width) (suc k) p q r s l f =
    rw (
      lowest k p q r s f g,
      lowest k p q r s f h,
      rest k p q r s f g,
      rest k p q r s f h,
      pairs-planes table g h t width k (p / 2) (q / 2) (r / 2) (s / 2) (omega arith) (halved k p q r s f),
    )
    (ap (λ b. b ∷ planes width (word k (p / 2) (q / 2) (r / 2) (s / 2) g) (word k (p / 2) (q / 2) (r / 2) (s / 2) h))
    (at_digits (λ p' v. table (bit_of (p % 2) (q % 2)) (bit_of p' v) ≡ bit_of (word 1 (p % 2) (q % 2) p' v g) (word 1 (p % 2) (q % 2) p' v h))
    (at_digits (λ o u. AtDigits (λ p' v. table (bit_of o u) (bit_of p' v) ≡ bit_of (word 1 o u p' v g) (word 1 o u p' v h))) t p q) r s))

-- likewise of one operand
abbrev pub IsColumn : (Bit → Bit) → Gate → Gate → Type 0
IsColumn table g h = AtDigits (λ o u. table (bit_of o u) ≡ bit_of (word 1 o u o u g) (word 1 o u o u h))

pub each-planes : (table : Bit → Bit) (g h : Gate) → IsColumn table g h → (width k p q : ℕ) → width ≤ k → Fit k p q p q →
    each table (planes width p q) ≡ planes width (word k p q p q g) (word k p q p q h)
unfolding planes each
each-planes table g h t zero k p q l f = refl
each-planes table g h t (suc width) zero p q l f = absurd (omega arith)
each-planes table g h t (suc width) (suc k) p q l f =
    rw (
      lowest k p q p q f g,
      lowest k p q p q f h,
      rest k p q p q f g,
      rest k p q p q f h,
      each-planes table g h t width k (p / 2) (q / 2) (omega arith) (halved k p q p q f),
    )
    (ap (λ b. b ∷ planes width (word k (p / 2) (q / 2) (p / 2) (q / 2) g) (word k (p / 2) (q / 2) (p / 2) (q / 2) h))
    (at_digits (λ o u. table (bit_of o u) ≡ bit_of (word 1 o u o u g) (word 1 o u o u h)) t p q))
