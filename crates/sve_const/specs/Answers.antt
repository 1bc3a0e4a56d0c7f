-- What the calls answer.
use Rattle.std.specs.Global.{Vec}
use Rattle.std.specs.Prelude.{◌≡◌, ℕ, ◌<◌, ◌≤◌, nat_lt, Bool, true, false, if◌then◌else◌, List, length, Option, Some, None, Result, Ok, Err}
use Rattle.sve_diag.specs.declared.code.Code.TheVariants.{C07}
use Rattle.sve_diag.specs.declared.diag.Note.{Note}
use Rattle.sve_value.specs.Vector.{Vector}
use Rattle.sve_operand.specs.Meaning.{Meaning, own_value}
use Rattle.sve_types.specs.declared.value.Value.{Value}
use Rattle.sve_types.specs.declared.value.Value.TheVariants as is_value
use Rattle.sve_literal.specs.Strings.{unquoted_of}
use Rattle.sve_fault.specs.Counts.{counted_on, Spends}
use Rattle.sve_fault.specs.Faults.{fault_at, note_of, after}
use Rattle.sve_fault.specs.declared.fault.Fault.{Fault}
use Rattle.sve_fault.specs.declared.fuel.Fuel.{Fuel}
use Rattle.sve_rule.specs.Judged.{Judged}
use Rattle.sve_rule.specs.Rules.{assigned}
use Rattle.sve_tree.specs.declared.word.ScopedName.{ScopedName}
use Rattle.sve_tree.specs.declared.expression.Expr.{Expr, Row_of-Postfix, end_of-Postfix, more_of-Postfix}
use Rattle.sve_tree.specs.declared.expression.Expr.TheVariants as is_expr
use Rattle.sve_tree.specs.declared.expression.Postfix.{Postfix}
use Rattle.sve_tree.specs.declared.expression.Arg.TheBlock.{hidden-the_row-Postfix-6}
use Rattle.sve_env.specs.Told.{Told}
use Rattle.sve_form.specs.Tokens.{name_token}
use Rattle.sve_measure.specs.Constants.{measured}
use Rattle.sve_const.specs.declared.lone.LoneText.{LoneText}
use Rattle.sve_const.specs.declared.evaluation.ConstFault.{ConstFault}
use Rattle.sve_const.specs.declared.evaluation.ConstFault.TheVariants.{Bad, Over, NoMemory}

-- ---- strings by themselves (6.16): a literal, or a name that has one, in brackets too

abbrev pub text_in : ℕ → Result Value Fault → Option (ℕ × List ℕ)
text_in token (Ok (is_value.Text bytes)) = Some (token, bytes)
text_in token (Ok (is_value.Bits v)) = None
text_in token (Ok (is_value.OfType t)) = None
text_in token (Err f) = None

-- nothing is applied to a name
abbrev pub is_alone : {n : _} → Row_of-Postfix n → Bool
is_alone end_of-Postfix = true
is_alone (more_of-Postfix postfix rest) = false

abbrev pub is_name_alone : Vec Postfix → Bool
is_name_alone postfixes = is_alone (hidden-the_row-Postfix-6 postfixes)

abbrev pub lone_name : Told → ScopedName → Bool → Option (ℕ × List ℕ)
lone_name m name true = text_in (name_token name) (m.constant name)
lone_name m name false = None

unfoldable pub lone_text : Told → Expr → Option (ℕ × List ℕ)
lone_text m (is_expr.Text token) = Some (token, unquoted_of (m.text token))
lone_text m (is_expr.Parenthesized' opening _ value closing) = lone_text m value
lone_text m (is_expr.Name' name _ postfixes) = lone_name m name (is_alone postfixes)
lone_text m _ = None

-- what the program holds of one
abbrev pub lone_pair : LoneText → ℕ × List ℕ
lone_pair text = (text.token, text.bytes.items)

abbrev pub lone_seen : Option LoneText → Option (ℕ × List ℕ)
lone_seen None = None
lone_seen (Some text) = Some (lone_pair text)

-- ---- values

-- the value by itself, or as it is assigned to a size and a sign (10.7)
abbrev pub assigned_of : Option (ℕ × Bool) → Meaning → Vector
assigned_of None a = own_value a
assigned_of (Some z) a = assigned z.0 z.1 a

abbrev pub assigned_value : Option (ℕ × Bool) → Judged → Result Value Fault
assigned_value context a = after a (λ x. Ok (is_value.Bits (assigned_of context x)))

-- a string value has at most 1,024 bytes (own)
abbrev pub text_value : ℕ × List ℕ → Result Value Fault
text_value text = if nat_lt 1024 (length text.1) then Err (fault_at text.0 C07) else Ok (is_value.Text text.1)

abbrev pub lone_or : Option (ℕ × List ℕ) → Judged → Result Value Fault
lone_or None a = assigned_value None a
lone_or (Some text) a = text_value text

-- the value of an expression, or its first fault
abbrev pub evaluated : Told → Option (ℕ × Bool) → Expr → Result Value Fault
evaluated m None e = lone_or (lone_text m e) (measured m e)
evaluated m (Some z) e = assigned_value (Some z) (measured m e)

-- ---- answers

abbrev pub note_at : Told → Fault → Option Note
note_at m f = note_of m.file m.chunk f

-- nodes that pass the most that may be evaluated
abbrev pub IsOver : Fuel → ℕ → Type 0
IsOver fuel n = fuel.most < counted_on fuel.used n

abbrev pub IsWithin : Fuel → ℕ → Type 0
IsWithin fuel n = counted_on fuel.used n ≤ fuel.most

-- A size and a sign exactly where there is no fault and the nodes are within the most; Bad with what is said of the first fault; Over
-- exactly where the nodes pass the most.
abbrev pub Sizes : Result (ℕ × Bool) ConstFault → Judged → Told → Fuel → ℕ → Type 0
Sizes (Ok z) (Ok a) m fuel n = (z.0 ≡ a.width) × (z.1 ≡ a.signed) × IsWithin fuel n
Sizes (Ok z) (Err f) m fuel n = ⊥
Sizes (Err (Bad _)) (Ok a) m fuel n = ⊥
Sizes (Err (Bad note)) (Err f) m fuel n = (note ≡ note_at m f) × IsWithin fuel n
Sizes (Err Over) a m fuel n = IsOver fuel n
Sizes (Err NoMemory) a m fuel n = Unit {0}

-- the same for a value, and the count of fuel rises by the nodes
abbrev pub Evaluates : Result Value ConstFault → Result Value Fault → Told → Fuel → Fuel → ℕ → Type 0
Evaluates (Ok v) (Ok w) m old new n = (v ≡ w) × Spends old new n
Evaluates (Ok v) (Err f) m old new n = ⊥
Evaluates (Err (Bad _)) (Ok w) m old new n = ⊥
Evaluates (Err (Bad note)) (Err f) m old new n = (note ≡ note_at m f) × Spends old new n
Evaluates (Err Over) a m old new n = IsOver old n
Evaluates (Err NoMemory) a m old new n = Unit {0}

-- where nodes were not evaluated to their end, the fuel is as it was
abbrev pub Stays : Result Value ConstFault → Fuel → Fuel → Type 0
Stays (Ok v) old new = Unit {0}
Stays (Err (Bad _)) old new = Unit {0}
Stays (Err Over) old new = new ≡ old
Stays (Err NoMemory) old new = new ≡ old
