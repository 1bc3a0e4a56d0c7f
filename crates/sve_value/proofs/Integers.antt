-- Whole numbers and their lowest bits.
use Rattle.std.proofs.Common.{◌≡◌, ℕ, zero, suc, ◌+◌, ◌-◌, ◌*◌, ◌/◌, ◌%◌, ◌<◌, ◌≤◌, ◌^◌, Bool, true, false, not, ◌&&◌, ◌==◌, if◌then◌else◌, Some, None, List, [], ◌∷◌, length, refl, ap, ◌∙◌, sym, subst, arith, inl, inr, ℤ, pos, neg_ℤ, ◌+ℤ◌, ◌-ℤ◌, ◌*ℤ◌, unsigned_abs}
use Rattle.std.specs.Int.{int_pow}
use Rattle.std.specs.Bool.{beq}
use Rattle.std.proofs.lemmas.Int.{ints, int_rem_euclid_is}
use Rattle.std.proofs.lemmas.Nat.{pow_pos, pow-add}
use Rattle.std.proofs.Math.Nat.{mod-mod, mul_assoc, pow-suc}
use Rattle.sve_value.specs.declared.bit.Bit.{Bit}
use Rattle.sve_value.specs.declared.bit.Bit.TheVariants.{Zero, One, X, Z}
use Rattle.sve_value.specs.Vector.{Vector}
use Rattle.sve_value.specs.Back.{is_digit}
use Rattle.sve_value.specs.Numbers.{is_one, are_known, natural, leftmost, is_negative, integer, known_natural, known_integer, binary, low_bits, with_sign, value_of, number_of}
use Rattle.sve_value.specs.Arithmetic.{sum, difference, product, power, arithmetic_of}
use Rattle.sve_value.proofs.Words.{binary-same, binary-mod}

-- a whole number has the low bits of each number that lies a multiple of the modulus above it
pub low-shift : (width k n : ℕ) (z : ℤ) → z +ℤ pos (k * 2 ^ width) ≡ pos n → low_bits width z ≡ binary width n
low-shift width k n z e =
    ap (λ (i : ℤ). binary width (unsigned_abs i)) (int_rem_euclid_is z (pos (2 ^ width)) (2 ^ width) k n (pow_pos width) refl e) ∙
    binary-same width (n % 2 ^ width) n (mod-mod n (2 ^ width))

-- 2 ^ 128 is a multiple of the modulus
wide : (width : ℕ) → width ≤ 128 → 2 ^ 128 ≡ 2 ^ (128 - width) * 2 ^ width
wide width h =
    let e : 128 - width + width ≡ 128 = omega arith in
    let P : ℕ → Type 0 = λ k. 2 ^ k ≡ 2 ^ (128 - width) * 2 ^ width in
    subst P e (pow-add 2 (128 - width) width)

-- ---- sign and size

neg-below : (n m : ℕ) → n ≤ m → neg_ℤ (pos n) +ℤ pos m ≡ pos (m - n)
neg-below zero m h = omega (arith, ints)
neg-below (suc n) m h = omega (arith, ints)

pub low-size : (width n : ℕ) (s : Bool) → s ≡ false → binary width n ≡ low_bits width (with_sign s n)
low-size width n s e = rw e (sym (low-shift width 0 n (pos n) (omega (arith, ints))))

low-neg : (width k n : ℕ) → n ≤ k * 2 ^ width → low_bits width (neg_ℤ (pos n)) ≡ binary width (k * 2 ^ width - n)
low-neg width k n h = low-shift width k (k * 2 ^ width - n) (neg_ℤ (pos n)) (neg-below n (k * 2 ^ width) h)

pub low-neg-wide : (width n : ℕ) (s : Bool) → s ≡ true → width ≤ 128 → n < 2 ^ 128 → binary width ((0 + (2 ^ 128 - n)) % 2 ^ 128) ≡ low_bits width (with_sign s n)
low-neg-wide width n s e h l =
    let f : 0 + (2 ^ 128 - n) ≡ 2 ^ (128 - width) * 2 ^ width - n = omega (arith, wide width h) in
    rw e (binary-mod width (0 + (2 ^ 128 - n)) h ∙ ap (binary width) f ∙ sym (low-neg width (2 ^ (128 - width)) n (omega (arith, wide width h))))

-- a size may be cut to 128 digits
multiple : (w q n k : ℕ) → n ≤ k * w → neg_ℤ (pos (n + q * w)) +ℤ pos ((k + q) * w) ≡ pos (k * w - n)
multiple w q n k h =
    neg-below (n + q * w) ((k + q) * w) (omega arith) ∙ ap pos (let e : (k + q) * w - (n + q * w) ≡ k * w - n = omega arith in e)

pub low-cut : (width n : ℕ) (s : Bool) → width ≤ 128 → low_bits width (with_sign s (n % 2 ^ 128)) ≡ low_bits width (with_sign s n)
low-cut width n false h = sym (low-size width (n % 2 ^ 128) false refl) ∙ binary-mod width n h ∙ low-size width n false refl
low-cut width n true h =
    let f : n / 2 ^ 128 * 2 ^ 128 ≡ n / 2 ^ 128 * 2 ^ (128 - width) * 2 ^ width =
    ap (λ k. n / 2 ^ 128 * k) (wide width h) ∙ sym (mul_assoc (n / 2 ^ 128) (2 ^ (128 - width)) (2 ^ width)) in
    let e : n % 2 ^ 128 + n / 2 ^ 128 * 2 ^ (128 - width) * 2 ^ width ≡ n = omega (arith, f) in
    let l : n % 2 ^ 128 ≤ 2 ^ (128 - width) * 2 ^ width = omega (arith, wide width h) in
    let P : ℕ → Type 0 = λ m. neg_ℤ (pos m) +ℤ pos ((2 ^ (128 - width) + n / 2 ^ 128 * 2 ^ (128 - width)) * 2 ^ width) ≡ pos (2 ^ (128 - width) * 2 ^ width - n % 2 ^ 128) in
    low-neg width (2 ^ (128 - width)) (n % 2 ^ 128) l ∙
    sym (low-shift width (2 ^ (128 - width) + n / 2 ^ 128 * 2 ^ (128 - width)) (2 ^ (128 - width) * 2 ^ width - n % 2 ^ 128) (neg_ℤ (pos n))
    (subst P e (multiple (2 ^ width) (n / 2 ^ 128 * 2 ^ (128 - width)) (n % 2 ^ 128) (2 ^ (128 - width)) l)))

-- ---- what a value stands for

known_by : (k : Bool) (m n : ℕ) → Some n ≡ (if k then Some m else None) → n ≡ m
known_by true m n e = cc
known_by false m n e = cc

known_too : (k : Bool) (m n : ℕ) (z : ℤ) → Some n ≡ (if k then Some m else None) → Some z ≡ (if k then Some z else None)
known_too true m n z e = refl
known_too false m n z e = cc

leftmost_positive : (bs : List Bit) → is_one (leftmost bs) ≡ true → 0 < natural bs
unfolding leftmost natural
leftmost_positive [] e = cc
leftmost_positive (Zero ∷ []) e = cc
leftmost_positive (One ∷ []) e = omega arith
leftmost_positive (X ∷ []) e = cc
leftmost_positive (Z ∷ []) e = cc
leftmost_positive (b ∷ c ∷ bs) e = let h : 0 < natural (c ∷ bs) = leftmost_positive (c ∷ bs) e in omega (arith, h)

both_right : (a b : Bool) → (a && b) ≡ true → b ≡ true
both_right true b h = h
both_right false b h = cc

pub negative_positive : (v : Vector) (n : ℕ) → Some n ≡ known_natural v → is_negative v ≡ true → 0 < n
negative_positive v n e h =
    let f : 0 < natural v.bits = leftmost_positive v.bits (both_right v.signed (is_one (leftmost v.bits)) h) in
    let g : n ≡ natural v.bits = known_by (are_known v.bits) (natural v.bits) n e in
    omega (arith, f, g)

-- n is the number of the bits of v: its whole number, or the modulus above it
pub record Stands (v : Vector) (n : ℕ) : Type 0 where
  pub known : Some (integer v) ≡ known_integer v
  pub above : ℕ
  pub once : above ≤ 1
  pub is : integer v +ℤ pos (above * 2 ^ length v.bits) ≡ pos n

raised_by : (b : Bool) (n w : ℕ) → (if b then pos n -ℤ pos w else pos n) +ℤ pos ((if b then 1 else 0) * w) ≡ pos n
raised_by true n w = omega (arith, ints)
raised_by false n w = omega (arith, ints)

flag_small : (b : Bool) → (if b then 1 else 0) ≤ 1
flag_small true = omega arith
flag_small false = omega arith

pub stands : (v : Vector) (n : ℕ) → Some n ≡ known_natural v → Stands v n
stands v n e = record {
  known = known_too (are_known v.bits) (natural v.bits) n (integer v) e;
  above = if is_negative v then 1 else 0;
  once = flag_small (is_negative v);
  is = rw (known_by (are_known v.bits) (natural v.bits) n e) (raised_by (is_negative v) (natural v.bits) (2 ^ length v.bits));
}

added : (x y : ℤ) (j k w m n : ℕ) → x +ℤ pos (j * w) ≡ pos m → y +ℤ pos (k * w) ≡ pos n → (x +ℤ y) +ℤ pos ((j + k) * w) ≡ pos (m + n)
added x y j k w m n e f = omega (arith, ints)

pub sum_is : (a b : Vector) (m n : ℕ) → length a.bits ≤ 128 → length a.bits ≡ length b.bits → Some m ≡ known_natural a → Some n ≡ known_natural b →
    number_of (length a.bits) a.signed ((m + n) % 2 ^ 128) ≡ arithmetic_of sum a b
sum_is a b m n h same e f =
    let p = stands a m e in let q = stands b n f in
    let y : integer b +ℤ pos (q.above * 2 ^ length a.bits) ≡ pos n = rw same q.is in
    rw (← p.known, ← q.known) (ap (λ (bs : List Bit). record { signed = a.signed; bits = bs })
    (binary-mod (length a.bits) (m + n) h ∙
    sym (low-shift (length a.bits) (p.above + q.above) (m + n) (integer a +ℤ integer b) (added _ _ p.above q.above (2 ^ length a.bits) m n p.is y))))

taken : (x y : ℤ) (j k q d w m n : ℕ) → d + k ≡ j + q → n ≤ q * w → x +ℤ pos (j * w) ≡ pos m → y +ℤ pos (k * w) ≡ pos n → (x -ℤ y) +ℤ pos (d * w) ≡ pos (m + (q * w - n))
taken x y j k q d w m n a b e f =
    let g : (d + k) * w ≡ (j + q) * w = ap (λ t. t * w) a in
    omega (arith, ints, g)

pub difference_is : (a b : Vector) (m n : ℕ) → length a.bits ≤ 128 → length a.bits ≡ length b.bits → n < 2 ^ 128 → Some m ≡ known_natural a → Some n ≡ known_natural b →
    number_of (length a.bits) a.signed ((m + (2 ^ 128 - n)) % 2 ^ 128) ≡ arithmetic_of difference a b
difference_is a b m n h same l e f =
    let p = stands a m e in let q = stands b n f in
    let y : integer b +ℤ pos (q.above * 2 ^ length a.bits) ≡ pos n = rw same q.is in
    let big : 1 ≤ 2 ^ (128 - length a.bits) = pow_pos (128 - length a.bits) in
    rw (← p.known, ← q.known) (ap (λ (bs : List Bit). record { signed = a.signed; bits = bs })
    (binary-mod (length a.bits) (m + (2 ^ 128 - n)) h ∙
    rw (wide (length a.bits) h) (sym (low-shift (length a.bits) (p.above + 2 ^ (128 - length a.bits) - q.above) (m + (2 ^ (128 - length a.bits) * 2 ^ length a.bits - n)) (integer a -ℤ integer b)
    (taken _ _ p.above q.above (2 ^ (128 - length a.bits)) (p.above + 2 ^ (128 - length a.bits) - q.above) (2 ^ length a.bits) m n (omega (arith, big, q.once)) (omega (arith, wide (length a.bits) h)) p.is y)))))

-- ---- products

pub signed_product : (s t : Bool) (m n : ℕ) → with_sign s m *ℤ with_sign t n ≡ with_sign (not (beq s t)) (m * n)
signed_product false false m n = refl
signed_product false true m zero = let e : m * 0 ≡ 0 = omega arith in rw e refl
signed_product false true m (suc n) = refl
signed_product true false zero n = let e : 0 * n ≡ 0 = omega arith in rw e refl
signed_product true false (suc m) n = refl
signed_product true true zero zero = refl
signed_product true true zero (suc n) = let e : 0 * suc n ≡ 0 = omega arith in rw e refl
signed_product true true (suc m) zero = let e : suc m * 0 ≡ 0 = omega arith in rw e refl
signed_product true true (suc m) (suc n) = refl

pub product_is : (a b : Vector) (s t : Bool) (m n : ℕ) → length a.bits ≤ 128 → Some (with_sign s m) ≡ known_integer a → Some (with_sign t n) ≡ known_integer b →
    value_of (length a.bits) a.signed (Some (with_sign (not (beq s t)) ((m * n) % 2 ^ 128))) ≡ arithmetic_of product a b
product_is a b s t m n h e f = rw (← e, ← f) (ap (λ (bs : List Bit). record { signed = a.signed; bits = bs })
    (low-cut (length a.bits) (m * n) (not (beq s t)) h ∙ ap (low_bits (length a.bits)) (sym (signed_product s t m n))))

-- ---- powers

one_power : (n : ℕ) → 1 ^ n ≡ 1
one_power zero = refl
one_power (suc n) = rw (pow-suc 1 n, one_power n) refl

signed_power : (s : Bool) (m e : ℕ) → (s ≡ true → 0 < m) → int_pow (with_sign s m) e ≡ with_sign (s && (e % 2 == 1)) (m ^ e)
signed_power false m e h = refl
signed_power true zero e h = absurd (omega (arith, h refl))
signed_power true (suc m) e h = elim (is_digit e) [ inl p ↦ rw (p) refl | inr p ↦ rw (p) refl ]

pub power_up_is : (a b : Vector) (s t : Bool) (m e : ℕ) (z : ℤ) → length a.bits ≤ 128 → (s ≡ true → 0 < m) → t ≡ false → Some (with_sign s m) ≡ known_integer a → Some (with_sign t e) ≡ known_integer b →
    z ≡ with_sign (s && (e % 2 == 1)) (m ^ e % 2 ^ 128) → value_of (length a.bits) a.signed (Some z) ≡ arithmetic_of power a b
power_up_is a b s t m e z h g t_is p q is = rw (← p, ← q, is, t_is) (ap (λ (bs : List Bit). record { signed = a.signed; bits = bs })
    (low-cut (length a.bits) (m ^ e) (s && (e % 2 == 1)) h ∙ ap (low_bits (length a.bits)) (sym (signed_power s m e g))))

pub power_down_is : (s : Bool) (m e : ℕ) → m ≡ 1 → 0 < e → Some (with_sign (s && (e % 2 == 1)) 1) ≡ power (with_sign s m) (with_sign true e)
power_down_is s m zero h g = absurd (omega arith)
power_down_is false m (suc e) h g = rw h refl
power_down_is true m (suc e) h g = rw h (ap (λ z. Some z) (sym (signed_power true 1 (suc e) (λ _. omega arith) ∙ rw (one_power (suc e)) refl)))
