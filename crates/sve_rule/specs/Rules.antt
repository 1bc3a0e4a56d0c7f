-- What each form of expression means, by what its parts mean (IEEE 1800-2017, clause 11). A part with a fault gives the whole no
-- fault but its own.
use Rattle.std.specs.Prelude.{ℕ, zero, suc, ◌==◌, nat_lt, max, Bool, false, if◌then◌else◌, List, [], ◌∷◌, Option, Some, None, Result, Ok, Err}
use Rattle.sve_diag.specs.declared.code.Code.TheVariants.{C01, C02, C03, C04, C05, C07, N11}
use Rattle.sve_value.specs.declared.operators.Unary.{Unary}
use Rattle.sve_value.specs.declared.operators.Binary.{Binary}
use Rattle.sve_value.specs.declared.bit.Bit.{Bit}
use Rattle.sve_value.specs.Vector.{Vector}
use Rattle.sve_value.specs.Numbers.{is_negative, known_natural}
use Rattle.sve_value.specs.Moves.{extend_of}
use Rattle.sve_operand.specs.Meaning.{Meaning, own_value, settled_meaning, spread_meaning, unary_meaning, binary_meaning, choice_meaning}
use Rattle.sve_types.specs.declared.value.Value.{Value}
use Rattle.sve_types.specs.declared.value.Value.TheVariants as is_value
use Rattle.sve_literal.specs.Numbers.{decimal_of, sized_of, based_of, unbased_of}
use Rattle.sve_literal.specs.Strings.{unquoted_of, text_bits_of}
use Rattle.sve_literal.specs.declared.number.SizeFault.{SizeFault}
use Rattle.sve_literal.specs.declared.number.SizeFault.TheVariants as is_size_fault
use Rattle.sve_fault.specs.Faults.{fault_at, fault_about, earlier, after, pair}
use Rattle.sve_fault.specs.declared.fault.Fault.{Fault}
use Rattle.sve_rule.specs.Judged.{Judged}
use Rattle.sve_rule.specs.States.{states_of}
use Rattle.sve_rule.specs.Rows.{Line, appended, repeated}
use Rattle.sve_rule.specs.declared.target.Target.{Target}

-- ---- literals and names

abbrev pub literal_judged : ℕ → Option Vector → Judged
literal_judged token (Some v) = Ok (settled_meaning v)
literal_judged token None = Err (fault_at token C03)

unfoldable pub decimal_judged : ℕ → List ℕ → Judged
decimal_judged token digits = literal_judged token (decimal_of digits)

abbrev pub sized_value : ℕ → Result Vector SizeFault → Judged
sized_value token (Ok v) = Ok (settled_meaning v)
sized_value token (Err is_size_fault.Zero) = Err (fault_at token C02)
sized_value token (Err is_size_fault.TooWide) = Err (fault_at token C03)

unfoldable pub sized_judged : ℕ → List ℕ → List ℕ → Judged
sized_judged token size based = sized_value token (sized_of size based)

-- without a size a number has 32 bits
unfoldable pub based_judged : List ℕ → Judged
based_judged text = Ok (settled_meaning (based_of 32 text))

unfoldable pub unbased_judged : List ℕ → Judged
unbased_judged text = Ok (spread_meaning (unbased_of text))

-- a string as an operand has at most 16 bytes
abbrev pub characters_value : ℕ → Option Vector → Judged
characters_value token (Some v) = Ok (settled_meaning v)
characters_value token None = Err (fault_at token C07)

abbrev pub characters_judged : ℕ → List ℕ → Judged
characters_judged token bytes = characters_value token (text_bits_of bytes)

unfoldable pub text_judged : ℕ → List ℕ → Judged
text_judged token literal = characters_judged token (unquoted_of literal)

-- the value of a name or of a call; a type is none
abbrev pub value_of_kind : ℕ → ℕ → List ℕ → Value → Judged
value_of_kind first token name (is_value.Bits v) = Ok (settled_meaning v)
value_of_kind first token name (is_value.Text bytes) = characters_judged first bytes
value_of_kind first token name (is_value.OfType t) = Err (fault_about token N11 name)

unfoldable pub value_judged : ℕ → ℕ → List ℕ → Result Value Fault → Judged
value_judged first token name value = after value (λ v. value_of_kind first token name v)

-- ---- operators

unfoldable pub unary_judged : Unary → Judged → Judged
unary_judged op a = after a (λ x. Ok (unary_meaning op x))

unfoldable pub binary_judged : Binary → Judged → Judged → Judged
binary_judged op a b = pair a b (λ x y. Ok (binary_meaning op x y))

abbrev pub arms_judged : Judged → Judged → Result (Meaning × Meaning) Fault
arms_judged a b = pair a b (λ x y. Ok (x, y))

unfoldable pub choice_judged : Judged → Judged → Judged → Judged
choice_judged c a b = pair c (arms_judged a b) (λ z xy. Ok (choice_meaning z xy.0 xy.1))

-- what is no constant of this profile, and what is none and begins with a part that may have an earlier fault
unfoldable pub outside_judged : ℕ → Judged
outside_judged token = Err (fault_at token C01)

abbrev pub inside_by : ℕ → Judged → Judged
inside_by token (Ok x) = Err (fault_at token C01)
inside_by token (Err f) = Err (earlier f (fault_at token C01))

unfoldable pub inside_judged : ℕ → Judged → Judged
inside_judged token a = inside_by token a

-- ---- casts

-- how many a value says: none where a bit is unknown or the value is below zero
abbrev pub count_of : Vector → Option ℕ
count_of v = if is_negative v then None else known_natural v

-- a cast to a size cuts or extends by the operand's own sign, which stays (6.24.1)
abbrev pub resized : ℕ → Option ℕ → Meaning → Judged
resized token None a = Err (fault_at token C01)
resized token (Some zero) a = Err (fault_at token C01)
resized token (Some (suc n)) a = if nat_lt 128 (suc n) then Err (fault_at token C03) else Ok (settled_meaning (extend_of (suc n) a.signed (own_value a)))

unfoldable pub size_cast_judged : ℕ → Judged → Judged → Judged
size_cast_judged token size a = pair size a (λ n x. resized token (count_of (own_value n)) x)

-- a cast to a sign keeps the bits
unfoldable pub sign_cast_judged : Bool → Judged → Judged
sign_cast_judged signed a = after a (λ x. Ok (settled_meaning (extend_of x.width signed (own_value x))))

-- what an assignment leaves: evaluated in the larger size and by its own sign, and then cut (10.7)
abbrev pub assigned : ℕ → Bool → Meaning → Vector
assigned width signed a = extend_of width signed (a.value (max a.width width) a.signed)

-- a cast to a type is an assignment to a variable of it (6.24.1)
abbrev pub converted : ℕ → Target → Meaning → Judged
converted token t a =
    if t.width == 0 then Err (fault_at token C01)
    else (if nat_lt 128 t.width then Err (fault_at token C03)
    else Ok (settled_meaning (states_of t.two_state (assigned t.width t.signed a))))

unfoldable pub type_cast_judged : ℕ → Result Target Fault → Judged → Judged
type_cast_judged token target a = pair target a (λ t x. converted token t x)

-- ---- concatenations (11.4.12)

-- an operand; a number without a size is none
unfoldable pub part_judged : Option ℕ → Judged → Result Line Fault
part_judged None a = after a (λ x. Ok (Some (own_value x).bits))
part_judged (Some token) a = after a (λ x. Err (fault_at token C04))

unfoldable pub appended_judged : Result Line Fault → Result Line Fault → Result Line Fault
appended_judged a b = pair a b (λ x y. Ok (appended x y))

-- at most 128 bits
abbrev pub narrow : ℕ → Line → Result Line Fault
narrow opening None = Err (fault_at opening C03)
narrow opening (Some xs) = Ok (Some xs)

-- as many copies as the count says (11.4.12.1); the tokens are that of the count, and that of operands without a bit
abbrev pub replicated : ℕ → ℕ → ℕ → Option ℕ → Line → Result Line Fault
replicated opening token empty None x = Err (fault_at token C05)
replicated opening token empty (Some n) None = Err (fault_at opening C03)
replicated opening token empty (Some n) (Some []) = Err (fault_at empty C05)
replicated opening token empty (Some n) (Some (b ∷ bs)) = narrow opening (repeated n (b ∷ bs))

unfoldable pub replication_judged : ℕ → ℕ → ℕ → Judged → Result Line Fault → Result Line Fault
replication_judged opening token empty count operands = pair count operands (λ n x. replicated opening token empty (count_of (own_value n)) x)

abbrev pub unsigned_of : List Bit → Vector
unsigned_of bs = record { signed = false; bits = bs }

-- bits that stand as an expression: one at least, and 128 at most
abbrev pub whole : ℕ → ℕ → Line → Judged
whole opening token None = Err (fault_at opening C03)
whole opening token (Some []) = Err (fault_at token C05)
whole opening token (Some (b ∷ bs)) = Ok (settled_meaning (unsigned_of (b ∷ bs)))

unfoldable pub whole_judged : ℕ → ℕ → Result Line Fault → Judged
whole_judged opening token a = after a (λ x. whole opening token x)
