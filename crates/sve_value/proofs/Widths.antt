-- How wide the results of operators are: for callers, who build on these values.
use Rattle.std.proofs.Common.{◌≡◌, ℕ, suc, ◌+◌, Bool, true, false, ℤ, pos, negsuc, Option, Some, None, List, [], ◌∷◌, ◌++◌, length, drop, replicate, refl, ap, sym, arith}
use Rattle.std.proofs.lemmas.List.{length-append, length-replicate, length-take-le}
use Rattle.sve_value.specs.declared.bit.Bit.{Bit}
use Rattle.sve_value.specs.declared.bit.Bit.TheVariants.{Zero, X}
use Rattle.sve_value.specs.declared.operators.Unary.{Unary}
use Rattle.sve_value.specs.declared.operators.Unary.TheVariants.{Plus, Minus, BitwiseNot, LogicalNot, ReductionAnd, ReductionNand, ReductionOr, ReductionNor, ReductionXor, ReductionXnor}
use Rattle.sve_value.specs.declared.operators.Binary.{Binary}
use Rattle.sve_value.specs.declared.operators.Binary.TheVariants.{Add, Subtract, Multiply, Divide, Modulus, Power, BitwiseAnd, BitwiseOr, BitwiseXor, BitwiseXnor, LogicalEqual, LogicalNotEqual, CaseEqual, CaseNotEqual, WildcardEqual, WildcardNotEqual, Less, LessOrEqual, Greater, GreaterOrEqual, LogicalAnd, LogicalOr, LogicalImplication, LogicalEquivalence, LogicalShiftLeft, LogicalShiftRight, ArithmeticShiftLeft, ArithmeticShiftRight}
use Rattle.sve_value.specs.Vector.{Vector}
use Rattle.sve_value.specs.Alike.{IsAlike}
use Rattle.sve_value.specs.Bitwise.{each, pairs, not_bit, merge_bit}
use Rattle.sve_value.specs.Numbers.{known_natural, value_of}
use Rattle.sve_value.specs.Truths.{truth_of}
use Rattle.sve_value.specs.Arithmetic.{clog2_of}
use Rattle.sve_value.specs.Moves.{window, extend_of, left_shifted, right_shifted, shift_of, concat_of, select_of, chosen, choose_of, shift_in_of}
use Rattle.sve_value.specs.Operators.{unary_of, binary_of, Suits}
use Rattle.sve_value.proofs.Words.{length-binary}

pub length-each : (table : Bit → Bit) (bs : List Bit) → length (each table bs) ≡ length bs
unfolding each
length-each table [] = refl
length-each table (b ∷ bs) = ap suc (length-each table bs)

pub length-pairs : (table : Bit → Bit → Bit) (left right : List Bit) → length left ≡ length right → length (pairs table left right) ≡ length left
unfolding pairs
length-pairs table [] right h = refl
length-pairs table (a ∷ left) [] h = sym h
length-pairs table (a ∷ left) (b ∷ right) h = let e : length left ≡ length right = omega arith in ap suc (length-pairs table left right e)

pub length-value_of : (width : ℕ) (signed : Bool) (z : Option ℤ) → length (value_of width signed z).bits ≡ width
length-value_of width signed (Some z) = length-binary width _
length-value_of width signed None = length-replicate width X

pub length-window : (low : ℤ) (width : ℕ) (outside : Bit) (bs : List Bit) → length (window low width outside bs) ≡ width
length-window (pos low) width outside bs = length-take-le width _ (omega (arith, length-append (drop low bs) (replicate width outside), length-replicate width outside))
length-window (negsuc below) width outside bs = length-take-le width _ (omega (arith, length-append (replicate (suc below) outside ++ bs) (replicate width outside), length-replicate width outside))

pub length-left_shifted : (by : ℕ) (a : Vector) → length (left_shifted by a) ≡ length a.bits
length-left_shifted by a = length-take-le (length a.bits) _ (omega (arith, length-append (replicate by Zero) a.bits))

pub length-left_shift : (a : Vector) (by : Option ℕ) → length (shift_of left_shifted a by).bits ≡ length a.bits
length-left_shift a (Some by) = length-left_shifted by a
length-left_shift a None = length-replicate (length a.bits) X

pub length-right_shift : (signed : Bool) (a : Vector) (by : Option ℕ) → length (shift_of (right_shifted signed) a by).bits ≡ length a.bits
length-right_shift signed a (Some by) = length-window (pos by) (length a.bits) _ a.bits
length-right_shift signed a None = length-replicate (length a.bits) X

pub length-extend : (width : ℕ) (signed : Bool) (a : Vector) → length (extend_of width signed a).bits ≡ width
length-extend width signed a = length-window (pos 0) width _ a.bits

pub length-concat : (a b : Vector) → length (concat_of a b).bits ≡ length a.bits + length b.bits
length-concat a b = omega (arith, length-append b.bits a.bits)

pub length-select : (a : Vector) (low : ℤ) (width : ℕ) (two_state : Bool) → length (select_of a low width two_state).bits ≡ width
length-select a low width two_state = length-window low width _ a.bits

length-chosen : (c : Option Bool) (a b : Vector) → IsAlike a b → length (chosen c a b).bits ≡ length a.bits
length-chosen (Some true) a b h = refl
length-chosen (Some false) a b h = sym h.width
length-chosen None a b h = length-pairs merge_bit a.bits b.bits h.width

pub length-choose : (c a b : Vector) → IsAlike a b → length (choose_of c a b).bits ≡ length a.bits
length-choose c a b h = length-chosen (truth_of c) a b h

pub length-clog2 : (a : Vector) → length (clog2_of a).bits ≡ 32
length-clog2 a = length-value_of 32 true _

pub length-shift_in : (a : Vector) (b : Bit) → length (shift_in_of a b).bits ≡ length a.bits
length-shift_in a b = length-take-le (length a.bits) _ (omega arith)

-- the width of an operator's result, by that of its left operand
abbrev pub unary_width : Unary → ℕ → ℕ
unary_width Plus width = width
unary_width Minus width = width
unary_width BitwiseNot width = width
unary_width _ width = 1

pub length-unary : (op : Unary) (a : Vector) → length (unary_of op a).bits ≡ unary_width op (length a.bits)
length-unary Plus a = length-value_of (length a.bits) a.signed _
length-unary Minus a = length-value_of (length a.bits) a.signed _
length-unary BitwiseNot a = length-each not_bit a.bits
length-unary LogicalNot a = refl
length-unary ReductionAnd a = refl
length-unary ReductionNand a = refl
length-unary ReductionOr a = refl
length-unary ReductionNor a = refl
length-unary ReductionXor a = refl
length-unary ReductionXnor a = refl

abbrev pub binary_width : Binary → ℕ → ℕ
binary_width LogicalEqual width = 1
binary_width LogicalNotEqual width = 1
binary_width CaseEqual width = 1
binary_width CaseNotEqual width = 1
binary_width WildcardEqual width = 1
binary_width WildcardNotEqual width = 1
binary_width Less width = 1
binary_width LessOrEqual width = 1
binary_width Greater width = 1
binary_width GreaterOrEqual width = 1
binary_width LogicalAnd width = 1
binary_width LogicalOr width = 1
binary_width LogicalImplication width = 1
binary_width LogicalEquivalence width = 1
binary_width _ width = width

pub length-binary_of : (op : Binary) (a b : Vector) → Suits op a b → length (binary_of op a b).bits ≡ binary_width op (length a.bits)
length-binary_of Add a b h = length-value_of (length a.bits) a.signed _
length-binary_of Subtract a b h = length-value_of (length a.bits) a.signed _
length-binary_of Multiply a b h = length-value_of (length a.bits) a.signed _
length-binary_of Divide a b h = length-value_of (length a.bits) a.signed _
length-binary_of Modulus a b h = length-value_of (length a.bits) a.signed _
length-binary_of Power a b h = length-value_of (length a.bits) a.signed _
length-binary_of BitwiseAnd a b h = length-pairs _ a.bits b.bits h.width
length-binary_of BitwiseOr a b h = length-pairs _ a.bits b.bits h.width
length-binary_of BitwiseXor a b h = length-pairs _ a.bits b.bits h.width
length-binary_of BitwiseXnor a b h = length-pairs _ a.bits b.bits h.width
length-binary_of LogicalEqual a b h = refl
length-binary_of LogicalNotEqual a b h = refl
length-binary_of CaseEqual a b h = refl
length-binary_of CaseNotEqual a b h = refl
length-binary_of WildcardEqual a b h = refl
length-binary_of WildcardNotEqual a b h = refl
length-binary_of Less a b h = refl
length-binary_of LessOrEqual a b h = refl
length-binary_of Greater a b h = refl
length-binary_of GreaterOrEqual a b h = refl
length-binary_of LogicalAnd a b h = refl
length-binary_of LogicalOr a b h = refl
length-binary_of LogicalImplication a b h = refl
length-binary_of LogicalEquivalence a b h = refl
length-binary_of LogicalShiftLeft a b h = length-left_shift a (known_natural b)
length-binary_of LogicalShiftRight a b h = length-right_shift false a (known_natural b)
length-binary_of ArithmeticShiftLeft a b h = length-left_shift a (known_natural b)
length-binary_of ArithmeticShiftRight a b h = length-right_shift a.signed a (known_natural b)
