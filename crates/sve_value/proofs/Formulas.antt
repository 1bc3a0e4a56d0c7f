-- The operators that go bit by bit, as formulas over words.
use Rattle.std.proofs.Common.{◌≡◌, length, refl, ap, ◌∙◌, sym}
use Rattle.sve_value.specs.declared.bit.Bit.{Bit}
use Rattle.sve_value.specs.declared.bits.Bits.TheInside.{Inside}
use Rattle.sve_value.specs.contracts.bits.Bits.{the_view, the_invariant}
use Rattle.sve_value.specs.Vector.{Vector}
use Rattle.sve_value.specs.Alike.{IsAlike}
use Rattle.sve_value.specs.Planes.{planes, vector}
use Rattle.sve_value.specs.Bitwise.{pairs, bitwise_of, bitwise_not_of, not_bit, and_bit, or_bit, xor_bit, xnor_bit, merge_bit}
use Rattle.sve_value.specs.Relations.{case_bit, wildcard_bit}
use Rattle.sve_value.proofs.Words.{below_128}
use Rattle.sve_value.proofs.Views.{width_of}
use Rattle.sve_value.proofs.Gates.{Gate, left_ones, left_unknowns, right_ones, right_unknowns, nothing, meet, join, differ, invert, word, Fit, IsTable, pairs-planes, each-planes}

pub same_width : (a b : Inside) (v w : Vector) → the_view a ≡ v → the_view b ≡ w → length v.bits ≡ length w.bits → a.width ≡ b.width
same_width a b v w p q e = width_of a v p ∙ e ∙ sym (width_of b w q)

pub fit_of : (a b : Inside) → the_invariant a → the_invariant b → Fit 128 a.ones a.unknowns b.ones b.unknowns
fit_of a b i j = record {
  first = below_128 a.width a.ones i.1 i.2;
  second = below_128 a.width a.unknowns i.1 i.3;
  third = below_128 b.width b.ones j.1 j.2;
  fourth = below_128 b.width b.unknowns j.1 j.3;
}

pub bitwise_is : (table : Bit → Bit → Bit) (g h : Gate) → IsTable table g h → (a b : Inside) (v w r : Vector) → the_view a ≡ v → the_view b ≡ w → IsAlike v w → the_invariant a → the_invariant b →
    r ≡ vector a.width a.signed (word 128 a.ones a.unknowns b.ones b.unknowns g) (word 128 a.ones a.unknowns b.ones b.unknowns h) →
    r ≡ bitwise_of table v w
bitwise_is table g h t a b v w r p q e i j is =
    is ∙ ap (λ bs. record { signed = a.signed; bits = bs })
    (sym (pairs-planes table g h t a.width 128 a.ones a.unknowns b.ones b.unknowns i.1 (fit_of a b i j)) ∙
    ap (λ n. pairs table (planes a.width a.ones a.unknowns) (planes n b.ones b.unknowns)) (same_width a b v w p q e.width)) ∙
    ap (λ (x : Vector). bitwise_of table x (the_view b)) p ∙
    ap (λ (x : Vector). bitwise_of table v x) q

pub bitwise_not_is : (a : Inside) (v r : Vector) → the_view a ≡ v → the_invariant a →
    r ≡ vector a.width a.signed (word 128 a.ones a.unknowns a.ones a.unknowns (invert (join left_ones left_unknowns))) a.unknowns →
    r ≡ bitwise_not_of v
bitwise_not_is a v r p i is =
    is ∙ ap (λ bs. record { signed = a.signed; bits = bs })
    (sym (each-planes not_bit (invert (join left_ones left_unknowns)) left_unknowns (refl, refl, refl, refl) a.width 128 a.ones a.unknowns i.1 (fit_of a a i i))) ∙
    ap bitwise_not_of p

-- a known 1 on either side
abbrev pub left_one : Gate
left_one = meet left_ones (invert left_unknowns)

abbrev pub right_one : Gate
right_one = meet right_ones (invert right_unknowns)

abbrev pub either_unknown : Gate
either_unknown = join left_unknowns right_unknowns

abbrev pub and_ones : Gate
and_ones = meet left_one right_one

abbrev pub and_unknowns : Gate
and_unknowns = meet (meet (join left_ones left_unknowns) (join right_ones right_unknowns)) either_unknown

pub and_table : IsTable and_bit and_ones and_unknowns
and_table = ((refl, refl, refl, refl), (refl, refl, refl, refl), (refl, refl, refl, refl), (refl, refl, refl, refl))

abbrev pub or_ones : Gate
or_ones = join left_one right_one

abbrev pub or_unknowns : Gate
or_unknowns = meet either_unknown (invert or_ones)

pub or_table : IsTable or_bit or_ones or_unknowns
or_table = ((refl, refl, refl, refl), (refl, refl, refl, refl), (refl, refl, refl, refl), (refl, refl, refl, refl))

abbrev pub xor_ones : Gate
xor_ones = meet (differ left_ones right_ones) (invert either_unknown)

pub xor_table : IsTable xor_bit xor_ones either_unknown
xor_table = ((refl, refl, refl, refl), (refl, refl, refl, refl), (refl, refl, refl, refl), (refl, refl, refl, refl))

abbrev pub xnor_ones : Gate
xnor_ones = invert (join (differ left_ones right_ones) either_unknown)

pub xnor_table : IsTable xnor_bit xnor_ones either_unknown
xnor_table = ((refl, refl, refl, refl), (refl, refl, refl, refl), (refl, refl, refl, refl), (refl, refl, refl, refl))

abbrev pub merge_unknowns : Gate
merge_unknowns = join either_unknown (differ left_ones right_ones)

abbrev pub merge_ones : Gate
merge_ones = meet left_ones (invert merge_unknowns)

pub merge_table : IsTable merge_bit merge_ones merge_unknowns
merge_table = ((refl, refl, refl, refl), (refl, refl, refl, refl), (refl, refl, refl, refl), (refl, refl, refl, refl))

abbrev pub case_ones : Gate
case_ones = invert (join (differ left_ones right_ones) (differ left_unknowns right_unknowns))

pub case_table : IsTable case_bit case_ones nothing
case_table = ((refl, refl, refl, refl), (refl, refl, refl, refl), (refl, refl, refl, refl), (refl, refl, refl, refl))

abbrev pub wildcard_ones : Gate
wildcard_ones = join right_unknowns (invert (join (differ left_ones right_ones) left_unknowns))

abbrev pub wildcard_unknowns : Gate
wildcard_unknowns = meet left_unknowns (invert right_unknowns)

pub wildcard_table : IsTable wildcard_bit wildcard_ones wildcard_unknowns
wildcard_table = ((refl, refl, refl, refl), (refl, refl, refl, refl), (refl, refl, refl, refl), (refl, refl, refl, refl))
