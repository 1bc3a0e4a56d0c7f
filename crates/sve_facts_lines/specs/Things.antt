-- The answers about what is declared (own).
use Rattle.std.specs.Prelude.{ℕ, Option, Some, None, List, [], ◌∷◌, ◌++◌, codes, decimal, map, if◌then◌else◌}
use Rattle.sve_types.specs.DataType.{DataType}
use Rattle.sve_types.specs.TypeText.{text_of}
use Rattle.sve_types.specs.Widths.{bits_of, counted}
use Rattle.sve_types.specs.States.{has_four_states}
use Rattle.sve_types.specs.Signs.{is_signed}
use Rattle.sve_types.specs.declared.value.Value.{Value}
use Rattle.sve_diag.specs.declared.diag.Place.{Place}
use Rattle.sve_scope.specs.declared.what.Constant.{Constant}
use Rattle.sve_scope.specs.declared.what.What.{What}
use Rattle.sve_scope.specs.declared.what.What.TheVariants as is_what
use Rattle.sve_listing.specs.Files.{none}
use Rattle.sve_listing.specs.Lists.{on_one_line}
use Rattle.sve_value_text.specs.ValueText.{value_text}
use Rattle.sve_facts_lines.specs.Texts.{at_text}

abbrev pub kind_word : What → List ℕ
kind_word (is_what.Net ty) = codes "net"
kind_word (is_what.Variable ty) = codes "variable"
kind_word (is_what.Parameter c) = codes "parameter"
kind_word (is_what.LocalParameter c) = codes "localparam"
kind_word is_what.Genvar = codes "genvar"
kind_word (is_what.Function ty) = codes "function"
kind_word (is_what.TypeName ty) = codes "type"
kind_word (is_what.EnumName c) = codes "enumname"
kind_word is_what.Instance = codes "instance"
kind_word is_what.Block = codes "block"
kind_word is_what.Modport = codes "modport"
kind_word (is_what.InterfacePort face) = codes "interfaceport"

-- the type of what is declared: of a function that of its result, of a constant also where it has no value
abbrev pub type_of : What → Option DataType
type_of (is_what.Net ty) = Some ty
type_of (is_what.Variable ty) = Some ty
type_of (is_what.Parameter c) = c.ty
type_of (is_what.LocalParameter c) = c.ty
type_of is_what.Genvar = None
type_of (is_what.Function ty) = ty
type_of (is_what.TypeName ty) = Some ty
type_of (is_what.EnumName c) = c.ty
type_of is_what.Instance = None
type_of is_what.Block = None
type_of is_what.Modport = None
type_of (is_what.InterfacePort face) = None

-- `kind <kind>`, `type <type>`, `width <bits>`
abbrev pub kind_text : What → List ℕ
kind_text what = codes "kind " ++ kind_word what

abbrev pub type_text : DataType → List ℕ
type_text ty = codes "type " ++ text_of ty

abbrev pub width_text : DataType → List ℕ
width_text ty = codes "width " ++ decimal (counted (bits_of ty))

-- `state two` or `state four`, `sign signed` or `sign unsigned`
abbrev pub state_text : DataType → List ℕ
state_text ty = if has_four_states ty then codes "state four" else codes "state two"

abbrev pub sign_text : DataType → List ℕ
sign_text ty = if is_signed ty then codes "sign signed" else codes "sign unsigned"

abbrev pub typed_lines : What → DataType → Place → List ℕ → List (List ℕ)
typed_lines what ty place text = map on_one_line (kind_text what ∷ type_text ty ∷ width_text ty ∷ state_text ty ∷ sign_text ty ∷ at_text place text ∷ [])

-- a thing without a type is answered as one that is not there
abbrev pub type_lines_of : Option DataType → What → Place → List ℕ → List (List ℕ)
type_lines_of (Some ty) what place text = typed_lines what ty place text
type_lines_of None what place text = none

abbrev pub type_lines : What → Place → List ℕ → List (List ℕ)
type_lines what place text = type_lines_of (type_of what) what place text

-- a parameter or a local parameter, which alone have values to be asked for
abbrev pub constant_of : What → Option Constant
constant_of (is_what.Parameter c) = Some c
constant_of (is_what.LocalParameter c) = Some c
constant_of what = None

-- `value <value>` and `type <type>`
abbrev pub value_lines : Value → DataType → List (List ℕ)
value_lines value ty = map on_one_line ((codes "value " ++ value_text value) ∷ type_text ty ∷ [])

-- what has no value is answered as a thing that is not there
abbrev pub constant_lines : Option Value → Option DataType → List (List ℕ)
constant_lines (Some value) (Some ty) = value_lines value ty
constant_lines (Some value) None = none
constant_lines None ty = none

abbrev pub param_lines_of : Option Constant → List (List ℕ)
param_lines_of (Some c) = constant_lines c.value c.ty
param_lines_of None = none

abbrev pub param_lines : What → List (List ℕ)
param_lines what = param_lines_of (constant_of what)
