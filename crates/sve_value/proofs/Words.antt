-- Words of 128 digits and the bits that they stand for.
use Rattle.std.proofs.Common.{◌≡◌, ℕ, zero, suc, ◌+◌, ◌-◌, ◌*◌, ◌/◌, ◌%◌, ◌<◌, ◌≤◌, ◌^◌, Bool, true, false, ◌&&◌, ◌==◌, if◌then◌else◌, List, [], ◌∷◌, length, refl, ap, ◌∙◌, sym, subst, arith, add-one, bit_and, inl, inr, lit<}
use Rattle.std.proofs.lemmas.Nat.{and_mask, field_of}
use Rattle.std.proofs.lemmas.Nat.Bits.{ones_shr}
use Rattle.std.proofs.Math.Pow.{mod-mod-pow}
use Rattle.std.proofs.Math.Nat.{pow-suc, pow-le-pow_right}
use Rattle.sve_value.specs.declared.bit.Bit.{Bit}
use Rattle.sve_value.specs.declared.bit.Bit.TheVariants.{Zero, One, X, Z}
use Rattle.sve_value.specs.Planes.{bit_of, planes}
use Rattle.sve_value.specs.Back.{is_digit, half_below}
use Rattle.sve_value.specs.Numbers.{is_known, are_known, digit, natural, binary}

pub below_128 : (width n : ℕ) → width ≤ 128 → n < 2 ^ width → n < 2 ^ 128
below_128 width n h k = let e : 2 ^ width ≤ 2 ^ 128 = pow-le-pow_right (lit< tt) h in omega arith

pub low_digit-mod : (width n : ℕ) → n % 2 ^ suc width % 2 ≡ n % 2
low_digit-mod width n = rw (← add-one width) (mod-mod-pow n width 1)

half-mod : (width n : ℕ) → n % 2 ^ suc width / 2 ≡ n / 2 % 2 ^ width
half-mod width n = rw (← add-one width) (field_of n width 1)

pub planes-mod : (width o u : ℕ) → planes width (o % 2 ^ width) (u % 2 ^ width) ≡ planes width o u
unfolding planes
planes-mod zero o u = refl
planes-mod (suc width) o u = rw (low_digit-mod width o, low_digit-mod width u, half-mod width o, half-mod width u, planes-mod width (o / 2) (u / 2)) refl

pub mask_is : (width : ℕ) → width ≤ 128 → (2 ^ 128 - 1) / 2 ^ (128 - width) ≡ 2 ^ width - 1
mask_is width h = ones_shr 128 (128 - width) (omega arith) ∙ ap (λ n. 2 ^ n - 1) (let e : 128 - (128 - width) ≡ width = omega arith in e)

pub planes-masked : (width o u : ℕ) → planes width (bit_and o (2 ^ width - 1)) (bit_and u (2 ^ width - 1)) ≡ planes width o u
planes-masked width o u = rw (and_mask o width, and_mask u width) (planes-mod width o u)

-- ---- numbers

digit-low : (o : ℕ) → digit (bit_of (o % 2) 0) ≡ o % 2
digit-low o = elim (is_digit o) [ inl p ↦ rw p refl | inr p ↦ rw p refl ]

known-low : (o : ℕ) → is_known (bit_of (o % 2) 0) ≡ true
known-low o = elim (is_digit o) [ inl p ↦ rw p refl | inr p ↦ rw p refl ]

unknown-low : (o : ℕ) → is_known (bit_of (o % 2) 1) ≡ false
unknown-low o = elim (is_digit o) [ inl p ↦ rw p refl | inr p ↦ rw p refl ]

bit_of-low : (n : ℕ) → bit_of (n % 2) 0 ≡ (if n % 2 == 1 then One else Zero)
bit_of-low n = elim (is_digit n) [ inl p ↦ rw p refl | inr p ↦ rw p refl ]

and-false : (b : Bool) → (b && false) ≡ false
and-false true = refl
and-false false = refl

pub known-planes : (width o : ℕ) → are_known (planes width o 0) ≡ true
unfolding planes are_known
known-planes zero o = refl
known-planes (suc width) o = rw (known-low o, known-planes width (o / 2)) refl

pub unknown-planes : (width o u : ℕ) → u < 2 ^ width → 0 < u → are_known (planes width o u) ≡ false
unfolding planes are_known
unknown-planes zero o u h k = absurd (omega arith)
unknown-planes (suc width) o u h k = elim (is_digit u) [
  | inl p ↦ rw (unknown-planes width (o / 2) (u / 2) (half_below width u h) (omega arith)) (and-false (is_known (bit_of (o % 2) (u % 2))))
  | inr p ↦ rw (p, unknown-low o) refl
]

pub natural-planes : (width o : ℕ) → o < 2 ^ width → natural (planes width o 0) ≡ o
unfolding planes natural
natural-planes zero o h = omega arith
natural-planes (suc width) o h = rw (digit-low o, natural-planes width (o / 2) (half_below width o h)) (omega arith)

pub planes-binary : (width n : ℕ) → planes width n 0 ≡ binary width n
unfolding planes binary
planes-binary zero n = refl
planes-binary (suc width) n = rw (planes-binary width (n / 2)) (ap (λ b. b ∷ binary width (n / 2)) (bit_of-low n))

pub binary-same : (width m n : ℕ) → m % 2 ^ width ≡ n % 2 ^ width → binary width m ≡ binary width n
binary-same width m n e = rw (← planes-binary width m, ← planes-binary width n, ← planes-mod width m 0, ← planes-mod width n 0, e) refl

pub binary-mod : (width n : ℕ) → width ≤ 128 → binary width (n % 2 ^ 128) ≡ binary width n
binary-mod width n h = binary-same width (n % 2 ^ 128) n (
    let e : 128 - width + width ≡ 128 = omega arith in
    let P : ℕ → Type 0 = λ k. n % 2 ^ k % 2 ^ width ≡ n % 2 ^ width in
    subst P e (mod-mod-pow n (128 - width) width))

pub planes-wide : (width o u : ℕ) → width ≤ 128 → planes width (o % 2 ^ 128) (u % 2 ^ 128) ≡ planes width o u
planes-wide width o u h =
    let e : 128 - width + width ≡ 128 = omega arith in
    let P : ℕ → ℕ → Type 0 = λ n k. n % 2 ^ k % 2 ^ width ≡ n % 2 ^ width in
    sym (planes-mod width (o % 2 ^ 128) (u % 2 ^ 128)) ∙
    rw (subst (P o) e (mod-mod-pow o (128 - width) width), subst (P u) e (mod-mod-pow u (128 - width) width)) (planes-mod width o u)

pub length-binary : (width n : ℕ) → length (binary width n) ≡ width
unfolding binary
length-binary zero n = refl
length-binary (suc width) n = ap suc (length-binary width (n / 2))

digit_below : (b : Bit) (n k : ℕ) → n < k → digit b + 2 * n < k * 2
digit_below Zero n k h = omega arith
digit_below One n k h = omega arith
digit_below X n k h = omega arith
digit_below Z n k h = omega arith

pub natural-below : (bs : List Bit) → natural bs < 2 ^ length bs
unfolding natural
natural-below [] = lit< tt
natural-below (b ∷ bs) = rw (pow-suc 2 (length bs)) (digit_below b (natural bs) (2 ^ length bs) (natural-below bs))
