-- The integer types by their keywords (IEEE 1800-2017, 6.11 and Table 6-8).
use Rattle.std.specs.Prelude.{ℕ, Bool, true, false, if◌then◌else◌, codes, List, Option, Some, None, Result, Ok, Err}
use Rattle.sve_diag.specs.declared.code.Code.TheVariants.{N11}
use Rattle.sve_tree.specs.declared.word.Mark.{Mark}
use Rattle.sve_tree.specs.declared.word.Sign.{Sign}
use Rattle.sve_tree.specs.declared.word.AtomKeyword.{AtomKeyword}
use Rattle.sve_tree.specs.declared.word.VectorKeyword.{VectorKeyword}
use Rattle.sve_tree.specs.declared.word.IntegerKeyword.{IntegerKeyword}
use Rattle.sve_tree.specs.declared.word.AtomKeyword.TheVariants as is_atom
use Rattle.sve_tree.specs.declared.word.VectorKeyword.TheVariants as is_vector
use Rattle.sve_tree.specs.declared.word.IntegerKeyword.TheVariants as is_keyword
use Rattle.sve_fault.specs.Faults.{fault_about, after}
use Rattle.sve_fault.specs.declared.fault.Fault.{Fault}
use Rattle.sve_rule.specs.declared.target.Target.{Target}
use Rattle.sve_form.specs.Operators.{is_signed}

abbrev pub sign_or : Option (Mark Sign) → Bool → Bool
sign_or None signed = signed
sign_or (Some sign) signed = is_signed sign.kind

abbrev pub target : ℕ → Bool → Bool → Target
target width signed two_state = record { width = width; signed = signed; two_state = two_state }

abbrev pub atom_target : AtomKeyword → Option (Mark Sign) → Target
atom_target is_atom.Byte sign = target 8 (sign_or sign true) true
atom_target is_atom.Shortint sign = target 16 (sign_or sign true) true
atom_target is_atom.Int sign = target 32 (sign_or sign true) true
atom_target is_atom.Longint sign = target 64 (sign_or sign true) true
atom_target is_atom.Integer sign = target 32 (sign_or sign true) false
atom_target is_atom.Time sign = target 64 (sign_or sign false) false

abbrev pub vector_target : VectorKeyword → Option (Mark Sign) → ℕ → Target
vector_target is_vector.Bit sign width = target width (sign_or sign false) true
vector_target is_vector.Logic sign width = target width (sign_or sign false) false
vector_target is_vector.Reg sign width = target width (sign_or sign false) false

abbrev pub atom_text : AtomKeyword → List ℕ
atom_text is_atom.Byte = codes "byte"
atom_text is_atom.Shortint = codes "shortint"
atom_text is_atom.Int = codes "int"
atom_text is_atom.Longint = codes "longint"
atom_text is_atom.Integer = codes "integer"
atom_text is_atom.Time = codes "time"

abbrev pub vector_text : VectorKeyword → List ℕ
vector_text is_vector.Bit = codes "bit"
vector_text is_vector.Logic = codes "logic"
vector_text is_vector.Reg = codes "reg"

abbrev pub keyword_text : IntegerKeyword → List ℕ
keyword_text (is_keyword.Atom a) = atom_text a
keyword_text (is_keyword.Vector v) = vector_text v

-- a type where a value should be, or with dimensions that it cannot have
unfoldable pub keyword_fault : Mark IntegerKeyword → Fault
keyword_fault keyword = fault_about keyword.token N11 (keyword_text keyword.kind)

-- the type of a keyword, by whether it has no dimensions, and by the places of all of them
abbrev pub kind_target : Mark IntegerKeyword → IntegerKeyword → Option (Mark Sign) → Bool → Result ℕ Fault → Result Target Fault
kind_target keyword (is_keyword.Atom a) sign is_plain places = if is_plain then Ok (atom_target a sign) else Err (keyword_fault keyword)
kind_target keyword (is_keyword.Vector v) sign is_plain places = after places (λ n. Ok (vector_target v sign n))

unfoldable pub keyword_target : Mark IntegerKeyword → Option (Mark Sign) → Bool → Result ℕ Fault → Result Target Fault
keyword_target keyword sign is_plain places = kind_target keyword keyword.kind sign is_plain places

abbrev pub target_size : Result Target Fault → Result ℕ Fault
target_size t = after t (λ x. Ok x.width)
