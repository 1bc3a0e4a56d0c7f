-- What an expression means before its context is known (IEEE 1800-2017, 11.6, 11.8 and Table 11-21).
use Rattle.std.specs.Prelude.{ℕ, Bool, false, ◌&&◌, max, length, if◌then◌else◌}
use Rattle.sve_value.specs.declared.bit.Bit.{Bit}
use Rattle.sve_value.specs.declared.operators.Unary.{Unary}
use Rattle.sve_value.specs.declared.operators.Binary.{Binary}
use Rattle.sve_value.specs.Vector.{Vector}
use Rattle.sve_value.specs.Moves.{extend_of, filled_of, choose_of}
use Rattle.sve_value.specs.Operators.{unary_of, binary_of}
use Rattle.sve_operand.specs.Sharing.{takes_context, sharing_of, shift_operator, logical_operator}
use Rattle.sve_operand.specs.declared.sharing.Sharing.{Sharing}
use Rattle.sve_operand.specs.declared.sharing.Sharing.TheVariants.{Shared, Compared, Shifted, Separate}

-- its size in bits and its sign by itself, and its value in a context of a size and a sign
pub record Meaning : Type 0 where
  pub width : ℕ
  pub signed : Bool
  pub value : ℕ → Bool → Vector

-- its value by itself
abbrev pub own_value : Meaning → Vector
own_value a = a.value a.width a.signed

-- what stands by itself is extended to its context, by the sign of the context (11.8.2)
abbrev pub settled_meaning : Vector → Meaning
settled_meaning v = record { width = length v.bits; signed = v.signed; value = λ w s. extend_of w s v }

-- `'0`, `'1`, `'x` and `'z` are one unsigned bit that fills its context (5.7.1)
abbrev pub spread_meaning : Bit → Meaning
spread_meaning b = record { width = 1; signed = false; value = λ w s. filled_of w s b }

-- an operator that takes the context has the size and the sign of its operand
abbrev pub unary_meaning : Unary → Meaning → Meaning
unary_meaning op a =
    if takes_context op
    then record { width = a.width; signed = a.signed; value = λ w s. extend_of w s (unary_of op (a.value w s)) }
    else settled_meaning (unary_of op (own_value a))

-- two operands that share a context have the larger size, and are signed where both are
abbrev pub common_width : Meaning → Meaning → ℕ
common_width a b = max a.width b.width

abbrev pub common_sign : Meaning → Meaning → Bool
common_sign a b = a.signed && b.signed

-- the value in the context that two operands make of themselves
abbrev pub in_common : Meaning → Meaning → Meaning → Vector
in_common a b c = c.value (common_width a b) (common_sign a b)

abbrev pub shared_meaning : Binary → Meaning → Meaning → Meaning
shared_meaning op a b = record { width = common_width a b; signed = common_sign a b; value = λ w s. extend_of w s (binary_of op (a.value w s) (b.value w s)) }

abbrev pub shifted_meaning : Binary → Meaning → Meaning → Meaning
shifted_meaning op a b = record { width = a.width; signed = a.signed; value = λ w s. extend_of w s (binary_of op (a.value w s) (own_value b)) }

abbrev pub binary_meaning_by : Sharing → Binary → Meaning → Meaning → Meaning
binary_meaning_by Shared op a b = shared_meaning op a b
binary_meaning_by Compared op a b = settled_meaning (binary_of op (in_common a b a) (in_common a b b))
binary_meaning_by (Shifted shift) op a b = shifted_meaning (shift_operator shift) a b
binary_meaning_by (Separate logical) op a b = settled_meaning (binary_of (logical_operator logical) (own_value a) (own_value b))

abbrev pub binary_meaning : Binary → Meaning → Meaning → Meaning
binary_meaning op a b = binary_meaning_by (sharing_of op) op a b

-- the condition stands by itself, the arms share the context (11.4.11)
abbrev pub choice_meaning : Meaning → Meaning → Meaning → Meaning
choice_meaning c a b = record { width = common_width a b; signed = common_sign a b; value = λ w s. extend_of w s (choose_of (own_value c) (a.value w s) (b.value w s)) }
