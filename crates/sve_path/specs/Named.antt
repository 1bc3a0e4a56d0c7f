-- Names, and what is applied to them: calls and casts (IEEE 1800-2017, 6.24.1, 13.4.3 and A.8.4).
use Rattle.std.specs.Prelude.{ℕ, Bool, not, if◌then◌else◌, List, [], ◌∷◌, ◌++◌, Result, Ok, Err}
use Rattle.sve_diag.specs.declared.code.Code.TheVariants.{C01}
use Rattle.sve_tree.specs.declared.word.ScopedName.{ScopedName}
use Rattle.sve_types.specs.DataType.{DataType, unpacked_dimensions}
use Rattle.sve_types.specs.Widths.{bits_of, counted}
use Rattle.sve_types.specs.States.{has_four_states}
use Rattle.sve_types.specs.Signs.{is_signed}
use Rattle.sve_types.specs.declared.ty.Range.{Range}
use Rattle.sve_types.specs.declared.value.Value.{Value}
use Rattle.sve_fault.specs.Faults.{fault_at, after}
use Rattle.sve_fault.specs.declared.fault.Fault.{Fault}
use Rattle.sve_rule.specs.Judged.{Judged, judged}
use Rattle.sve_rule.specs.Rules.{value_judged, outside_judged, size_cast_judged, type_cast_judged}
use Rattle.sve_rule.specs.declared.target.Target.{Target}
use Rattle.sve_rule.specs.Systems.{bits_judged, system_judged}
use Rattle.sve_rule.specs.declared.system.SystemFunction.TheVariants as is_function
use Rattle.sve_env.specs.Told.{Told}
use Rattle.sve_form.specs.Tokens.{name_token}
use Rattle.sve_path.specs.Paths.{path_judged, path_bits}
use Rattle.sve_path.specs.declared.steps.Step.{Step}
use Rattle.sve_path.specs.declared.steps.Made.{Made}
use Rattle.sve_path.specs.declared.steps.Made.TheVariants as is_made

-- What was made of a name by what is applied to it.
pub data State : Type 0 where
  -- nothing: it is the name alone
  bare : State
  -- selects of its value, in order
  part : List Step → State
  -- a value, or the first fault
  whole : Judged → State

-- what the program holds of it
abbrev pub state_of : Made → State
state_of is_made.Bare = bare
state_of (is_made.Part steps) = part steps.items
state_of (is_made.Whole a) = whole (judged a)

-- a value that a name has, or a call of it
abbrev pub valued : Told → ScopedName → Result Value Fault → Judged
valued m name value = value_judged (name_token name) name.name (m.text name.name) value

-- the value of a name by itself, or what was made of it
abbrev pub named_by : Told → ScopedName → State → Judged
named_by m name bare = valued m name (m.constant name)
named_by m name (part steps) = path_judged m name steps
named_by m name (whole a) = a

unfoldable pub named : Told → ScopedName → State → Judged
named m name state = named_by m name state

-- a select behind a value that is no name's is left out
abbrev pub stepped_by : ScopedName → State → Step → State
stepped_by name bare step = part (step ∷ [])
stepped_by name (part steps) step = part (steps ++ (step ∷ []))
stepped_by name (whole a) step = whole (outside_judged (name_token name))

unfoldable pub stepped : ScopedName → State → Step → State
stepped name state step = stepped_by name state step

-- a call stands directly behind its name
abbrev pub called_by : Told → ScopedName → State → Result Value Fault → Judged
called_by m name bare value = valued m name value
called_by m name (part steps) value = outside_judged (name_token name)
called_by m name (whole a) value = outside_judged (name_token name)

unfoldable pub called : Told → ScopedName → State → Result Value Fault → State
called m name state value = whole (called_by m name state value)

-- a type as the target of an assignment; one with unpacked dimensions is none here
abbrev pub no_unpacked : List Range → Target → ℕ → Result Target Fault
no_unpacked [] t token = Ok t
no_unpacked (r ∷ rs) t token = Err (fault_at token C01)

abbrev pub type_target : ℕ → DataType → Result Target Fault
type_target token t = no_unpacked (unpacked_dimensions t) (record { width = counted (bits_of t); signed = is_signed t; two_state = not (has_four_states t) }) token

unfoldable pub named_target : Told → ScopedName → Result Target Fault
named_target m name = after (m.ty name) (λ t. type_target (name_token name) t)

-- a cast behind a name is one to a type, where the name is one, and else to a size
abbrev pub cast_by : Told → ScopedName → Bool → Judged → Judged
cast_by m name is_type a =
    if is_type then type_cast_judged (name_token name) (named_target m name) a
    else size_cast_judged (name_token name) (valued m name (m.constant name)) a

abbrev pub cast_behind : Told → ScopedName → State → Judged → Judged
cast_behind m name bare a = cast_by m name (m.is_type name) a
cast_behind m name (part steps) a = size_cast_judged (name_token name) (path_judged m name steps) a
cast_behind m name (whole size) a = size_cast_judged (name_token name) size a

unfoldable pub cast_after : Told → ScopedName → State → Judged → State
cast_after m name state a = whole (cast_behind m name state a)

-- the bits of a type by its name
unfoldable pub named_size : Told → ScopedName → Result ℕ Fault
named_size m name = after (m.ty name) (λ t. Ok (counted (bits_of t)))

-- `$bits` of a name: of the type, where it is one with no more than dimensions behind it, and else of the value
abbrev pub bits_of_type : Told → ScopedName → State → Judged
bits_of_type m name bare = bits_judged (named_size m name)
bits_of_type m name (part steps) = bits_judged (path_bits m name steps)
bits_of_type m name (whole a) = system_judged is_function.Bits a

unfoldable pub named_bits : Told → ScopedName → State → Judged
named_bits m name state = if m.is_type name then bits_of_type m name state else system_judged is_function.Bits (named m name state)
