-- The names of an enumeration and their values (IEEE 1800-2017, 6.19).
use Rattle.std.specs.Prelude.{ℕ, ◌==◌, nat_lt, max, Bool, true, false, if◌then◌else◌, List, [], ◌∷◌, ◌++◌, length, Option, Some, None, is_some, Result, Ok, Err}
use Rattle.std.specs.List.{list_any}
use Rattle.sve_diag.specs.declared.code.Code.TheVariants.{C01, C03, C08, C09, C10}
use Rattle.sve_value.specs.declared.operators.Binary.TheVariants.{Add, Less}
use Rattle.sve_value.specs.Vector.{Vector}
use Rattle.sve_value.specs.Numbers.{number_of, known_natural}
use Rattle.sve_value.specs.Moves.{extend_of}
use Rattle.sve_value.specs.Truths.{truth_of}
use Rattle.sve_value.specs.Operators.{binary_of}
use Rattle.sve_operand.specs.Meaning.{Meaning}
use Rattle.sve_fault.specs.Faults.{argument_of, fault_at, fault_about, after}
use Rattle.sve_fault.specs.declared.fault.Fault.{Fault}
use Rattle.sve_rule.specs.Judged.{Judged}
use Rattle.sve_rule.specs.declared.target.Target.{Target}
use Rattle.sve_type_rule.specs.Same.{same_vector, same_bits}
use Rattle.sve_type_rule.specs.declared.values.Last.{Last}
use Rattle.sve_type_rule.specs.declared.values.Last.TheVariants as is_last
use Rattle.sve_type_rule.specs.declared.values.Names.{Names}

-- The names that have a value, each with it; the value of the last name, or that it has none; and all that is wrong so far.
pub record Named : Type 0 where
  pub names : List (List ℕ × Vector)
  pub last : Last
  pub faults : List Fault

-- what the program holds of them
abbrev pub named : Names → Named
named n = record { names = n.names.items; last = n.last; faults = n.faults.items }

abbrev pub no_names : List Fault → Named
no_names faults = record { names = []; last = is_last.First; faults = faults }

-- ---- the value of a name: none, of which nothing is said, where the one before has none

-- the first is 0
abbrev pub first_value : Target → ℕ → Result (Option Vector) Fault
first_value base token =
    if base.width == 0 then Err (fault_at token C01)
    else (if nat_lt 128 base.width then Err (fault_at token C03)
    else Ok (Some (number_of base.width base.signed 0)))

-- each other is one more than the one before, whose bits are known, and which is not the greatest
abbrev pub next_of : Vector → Vector
next_of v = binary_of Add v (number_of (length v.bits) v.signed 1)

abbrev pub next_by : ℕ → List ℕ → Vector → Option Bool → Result (Option Vector) Fault
next_by token name next (Some true) = Err (fault_about token C10 name)
next_by token name next (Some false) = Ok (Some next)
next_by token name next None = Err (fault_about token C09 name)

abbrev pub next_value : ℕ → List ℕ → Vector → Result (Option Vector) Fault
next_value token name v = next_by token name (next_of v) (truth_of (binary_of Less (next_of v) v))

abbrev pub automatic : Target → ℕ → List ℕ → Last → Result (Option Vector) Fault
automatic base token name is_last.First = first_value base token
automatic base token name (is_last.Value v) = next_value token name v
automatic base token name is_last.Missing = Ok None

-- A value that is written: evaluated in the larger of its size and the base's, and then cut. It is a fault where the bits that are cut
-- off are not those with which the base would extend what is left, and where a base of two states would hold an x or z.
abbrev pub size_with : Target → Meaning → ℕ
size_with base a = max a.width base.width

abbrev pub whole_of : Target → Meaning → Vector
whole_of base a = a.value (size_with base a) a.signed

abbrev pub is_kept : Target → ℕ → Vector → Vector → Bool
is_kept base size whole cut = same_vector (extend_of size base.signed cut) (extend_of size base.signed whole)

abbrev pub is_held : Target → Vector → Bool
is_held base cut = if base.two_state then is_some (known_natural cut) else true

abbrev pub cut_value : Target → ℕ → List ℕ → ℕ → Vector → Vector → Result (Option Vector) Fault
cut_value base token name size whole cut =
    if is_kept base size whole cut then (if is_held base cut then Ok (Some cut) else Err (fault_about token C10 name))
    else Err (fault_about token C10 name)

abbrev pub assigned_value : Target → ℕ → List ℕ → ℕ → Meaning → Result (Option Vector) Fault
assigned_value base token name value_token a =
    if base.width == 0 then Err (fault_at value_token C01)
    else (if nat_lt 128 base.width then Err (fault_at value_token C03)
    else cut_value base token name (size_with base a) (whole_of base a) (extend_of base.width base.signed (whole_of base a)))

abbrev pub explicit : Target → ℕ → List ℕ → ℕ → Judged → Result (Option Vector) Fault
explicit base token name value_token value = after value (λ a. assigned_value base token name value_token a)

-- ---- a name more

-- equal values are a fault of the second name; all have the size and the sign of the base
abbrev pub is_taken : List (List ℕ × Vector) → Vector → Bool
is_taken names v = list_any (λ (n : List ℕ × Vector). same_bits n.1.bits v.bits) names

abbrev pub with_name : List (List ℕ × Vector) → Option (List ℕ) → Vector → List (List ℕ × Vector)
with_name names None v = names
with_name names (Some name) v = names ++ (name, v) ∷ []

abbrev pub without_value : Named → Fault → Named
without_value b f = record { names = b.names; last = is_last.Missing; faults = b.faults ++ f ∷ [] }

abbrev pub entered_value : Named → ℕ → List ℕ → Vector → Named
entered_value b token name v =
    if is_taken b.names v then without_value b (fault_about token C08 name)
    else record { names = with_name b.names (argument_of name) v; last = is_last.Value v; faults = b.faults }

abbrev pub entered : Named → ℕ → List ℕ → Result (Option Vector) Fault → Named
entered b token name (Ok None) = record { names = b.names; last = is_last.Missing; faults = b.faults }
entered b token name (Ok (Some v)) = entered_value b token name v
entered b token name (Err f) = without_value b f

-- a name without a value of its own, and one with one, which begins at a token
unfoldable pub automatic_after : Target → ℕ → List ℕ → Named → Named
automatic_after base token name before = entered before token name (automatic base token name before.last)

unfoldable pub explicit_after : Target → ℕ → List ℕ → ℕ → Judged → Named → Named
explicit_after base token name value_token value before = entered before token name (explicit base token name value_token value)
