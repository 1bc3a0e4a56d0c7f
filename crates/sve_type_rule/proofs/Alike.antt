-- The test of two values says whether they are one.
use Rattle.std.proofs.Common.{◌≡◌, ℕ, ℤ, Option, Some, None, length, Bool, true, false, ◌&&◌, List, [], ◌∷◌, refl, sym, subst, IsTrue, ◌↔◌}
use Rattle.sve_value.specs.declared.bit.Bit.{Bit}
use Rattle.sve_value.specs.declared.bit.Bit.TheVariants.{Zero, One, X, Z}
use Rattle.sve_value.specs.Vector.{Vector}
use Rattle.sve_value.specs.Alike.{IsAlike}
use Rattle.sve_value.specs.Numbers.{number_of, value_of}
use Rattle.sve_value.proofs.Words.{length-binary}
use Rattle.sve_value.proofs.Widths.{length-value_of}
use Rattle.sve_type_rule.specs.Same.{same_bit, same_bits, same_sign, same_vector}
use Rattle.sve_type_rule.specs.Names.{next_of}

bit_same : (b : Bit) → same_bit b b ≡ true
bit_same Zero = refl
bit_same One = refl
bit_same X = refl
bit_same Z = refl

one_bit : (a b : Bit) → same_bit a b ≡ true → a ≡ b
one_bit Zero Zero e = refl
one_bit One One e = refl
one_bit X X e = refl
one_bit Z Z e = refl
one_bit a b e = cc

sign_same : (s : Bool) → same_sign s s ≡ true
sign_same true = refl
sign_same false = refl

one_sign : (a b : Bool) → same_sign a b ≡ true → a ≡ b
one_sign true true e = refl
one_sign false false e = refl
one_sign true false e = cc
one_sign false true e = cc

both_true : (a b : Bool) → a ≡ true → b ≡ true → (a && b) ≡ true
both_true true b p q = q
both_true false b p q = cc

left_true : (a b : Bool) → (a && b) ≡ true → a ≡ true
left_true true b e = refl
left_true false b e = e

right_true : (a b : Bool) → (a && b) ≡ true → b ≡ true
right_true true b e = e
right_true false b e = cc

bits_same : (bs : List Bit) → same_bits bs bs ≡ true
unfolding same_bits
bits_same [] = refl
bits_same (b ∷ bs) = both_true (same_bit b b) (same_bits bs bs) (bit_same b) (bits_same bs)

one_list : (as' bs : List Bit) → same_bits as' bs ≡ true → as' ≡ bs
unfolding same_bits
one_list [] [] e = refl
one_list [] (b ∷ bs) e = cc
one_list (a ∷ as') [] e = cc
one_list (a ∷ as') (b ∷ bs) e =
    let p : a ≡ b = one_bit a b (left_true (same_bit a b) (same_bits as' bs) e) in
    let q : as' ≡ bs = one_list as' bs (right_true (same_bit a b) (same_bits as' bs) e) in
    cc

vector_same : (v : Vector) → same_vector v v ≡ true
vector_same v = both_true (same_sign v.signed v.signed) (same_bits v.bits v.bits) (sign_same v.signed) (bits_same v.bits)

one_vector : (a b : Vector) → same_vector a b ≡ true → a ≡ b
one_vector a b e =
    let p : a.signed ≡ b.signed = one_sign a.signed b.signed (left_true (same_sign a.signed b.signed) (same_bits a.bits b.bits) e) in
    let q : a.bits ≡ b.bits = one_list a.bits b.bits (right_true (same_sign a.signed b.signed) (same_bits a.bits b.bits) e) in
    λ i. record { signed = p i; bits = q i }

not_true : (b : Bool) → (b ≡ true → false ≡ true) → false ≡ b
not_true true h = h refl
not_true false h = refl

pub test_is : (r : Bool) (a b : Vector) → (IsTrue r ↔ (a ≡ b)) → r ≡ same_vector a b
test_is true a b h =
    let P : Vector → Type 0 = λ (v : Vector). true ≡ same_vector a v in
    subst P (h.0 refl) (sym (vector_same a))
test_is false a b h = not_true (same_vector a b) (λ e. h.1 (one_vector a b e))

-- ---- values of one size and one sign

pub one_is_alike : (v : Vector) → IsAlike v (number_of (length v.bits) v.signed 1)
one_is_alike v = record { width = sym (length-binary (length v.bits) 1); sign = refl }

sign-value_of : (width : ℕ) (signed : Bool) (z : Option ℤ) → (value_of width signed z).signed ≡ signed
sign-value_of width signed (Some z) = refl
sign-value_of width signed None = refl

pub next_is_alike : (v : Vector) → IsAlike (next_of v) v
next_is_alike v = record { width = length-value_of (length v.bits) v.signed _; sign = sign-value_of (length v.bits) v.signed _ }
