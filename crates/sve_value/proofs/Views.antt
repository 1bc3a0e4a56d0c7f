-- From the words of a value to what contracts see of it.
use Rattle.std.proofs.Common.{◌≡◌, ℕ, ◌+◌, ◌*◌, ◌%◌, bit_or, false, IsTrue, nat_eq, ◌&&◌, ◌<◌, ◌≤◌, ◌^◌, Bool, Some, None, ◌∷◌, take, length, refl, ap, ◌∙◌, sym, arith}
use Rattle.std.specs.Bool.{beq}
use Rattle.std.proofs.lemmas.Bool.Decides.{nat_tests}
use Rattle.sve_value.specs.declared.bits.Bits.TheInside.{Inside}
use Rattle.sve_value.specs.contracts.bits.Bits.{the_view, the_invariant}
use Rattle.sve_value.specs.Vector.{Vector}
use Rattle.sve_value.specs.Planes.{planes, vector, ones_word, unknowns_word}
use Rattle.sve_value.specs.Back.{length-planes, ones_word-planes, unknowns_word-planes}
use Rattle.sve_value.specs.declared.bit.Bit.{Bit}
use Rattle.sve_value.specs.Numbers.{known_natural}
use Rattle.sve_value.specs.Moves.{shift_in_of, concat_of}
use Rattle.sve_value.proofs.Windows.{joined_word, planes-append}
use Rattle.sve_value.proofs.Words.{known-planes, unknown-planes, natural-planes}

pub width_of : (a : Inside) (v : Vector) → the_view a ≡ v → a.width ≡ length v.bits
width_of a v p = sym (length-planes a.width a.ones a.unknowns) ∙ ap (λ (x : Vector). length x.bits) p

pub natural_is : (width : ℕ) (s : Bool) (o u : ℕ) → o < 2 ^ width → u ≡ 0 → Some o ≡ known_natural (vector width s o u)
natural_is width s o u h e = rw (e, known-planes width o, natural-planes width o h) refl

pub natural_none : (width : ℕ) (s : Bool) (o u : ℕ) → u < 2 ^ width → 0 < u → None ≡ known_natural (vector width s o u)
natural_none width s o u h k = rw (unknown-planes width o u h k) refl

pub shift_in_view : (a : Inside) (v : Vector) (b : Bit) (p q : ℕ) → the_view a ≡ v → planes a.width p q ≡ take a.width (b ∷ planes a.width a.ones a.unknowns) → vector a.width a.signed p q ≡ shift_in_of v b
shift_in_view a v b p q e h =
    ap (λ bs. record { signed = a.signed; bits = bs }) (h ∙ ap (λ n. take n (b ∷ planes a.width a.ones a.unknowns)) (sym (length-planes a.width a.ones a.unknowns))) ∙
    ap (λ (x : Vector). shift_in_of x b) e

pub concat_view : (a b : Inside) (v w r : Vector) → the_view a ≡ v → the_view b ≡ w → length v.bits + length w.bits ≤ 128 → the_invariant a → the_invariant b →
    r ≡ vector (a.width + b.width) false (bit_or (a.ones * 2 ^ b.width % 2 ^ 128) b.ones) (bit_or (a.unknowns * 2 ^ b.width % 2 ^ 128) b.unknowns) →
    r ≡ concat_of v w
concat_view a b v w r p q e i j is =
    let h : a.width + b.width ≤ 128 = omega (arith, width_of a v p, width_of b w q) in
    let turn : a.width + b.width ≡ b.width + a.width = omega arith in
    is ∙ rw (joined_word a.width b.width a.ones b.ones i.2 j.2 h, joined_word a.width b.width a.unknowns b.unknowns i.3 j.3 h, turn)
    (ap (λ bs. record { signed = false; bits = bs }) (planes-append b.width a.width b.ones b.unknowns a.ones a.unknowns j.2 j.3)) ∙
    ap (λ (x : Vector). concat_of x (the_view b)) p ∙ ap (λ (x : Vector). concat_of v x) q

-- values are equal where their words are
same_view : (a b : Inside) → a.width ≡ b.width → a.signed ≡ b.signed → a.ones ≡ b.ones → a.unknowns ≡ b.unknowns → the_view a ≡ the_view b
same_view a b e f g h = rw (e, f, g, h) refl

pub same_is : (a b : Inside) (v w : Vector) → the_view a ≡ v → the_view b ≡ w → the_invariant a → the_invariant b →
    (IsTrue (((nat_eq a.width b.width && beq a.signed b.signed) && nat_eq a.ones b.ones) && nat_eq a.unknowns b.unknowns) → v ≡ w) ×
    (v ≡ w → IsTrue (((nat_eq a.width b.width && beq a.signed b.signed) && nat_eq a.ones b.ones) && nat_eq a.unknowns b.unknowns))
same_is a b v w p q i j = (
  (λ t. let e : (a.width ≡ b.width) × (a.signed ≡ b.signed) × (a.ones ≡ b.ones) × (a.unknowns ≡ b.unknowns) = grind (arith, nat_tests) in
      sym p ∙ same_view a b e.0 e.1 e.2 e.3 ∙ q),
  (λ t. let r : the_view a ≡ the_view b = p ∙ t ∙ sym q in
      let e : a.width ≡ b.width = sym (length-planes a.width a.ones a.unknowns) ∙ ap (λ (x : Vector). length x.bits) r ∙ length-planes b.width b.ones b.unknowns in
      let f : a.signed ≡ b.signed = ap (λ (x : Vector). x.signed) r in
      let g : a.ones ≡ b.ones = sym (ones_word-planes a.width a.ones a.unknowns i.2) ∙ ap (λ (x : Vector). ones_word x.bits) r ∙ ones_word-planes b.width b.ones b.unknowns j.2 in
      let h : a.unknowns ≡ b.unknowns = sym (unknowns_word-planes a.width a.ones a.unknowns i.3) ∙ ap (λ (x : Vector). unknowns_word x.bits) r ∙ unknowns_word-planes b.width b.ones b.unknowns j.3 in
      grind (arith, nat_tests)),
)
