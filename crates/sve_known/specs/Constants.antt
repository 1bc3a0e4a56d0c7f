-- The constants and the types that names stand for (IEEE 1800-2017, 6.18, 6.20 and 11.2.1).
use Rattle.std.specs.Prelude.{ℕ, List, Option, Some, None, Result, Ok, Err}
use Rattle.sve_diag.specs.declared.code.Code.TheVariants.{C01, N11}
use Rattle.sve_types.specs.DataType.{DataType}
use Rattle.sve_types.specs.declared.value.Value.{Value}
use Rattle.sve_fault.specs.declared.fault.Fault.{Fault}
use Rattle.sve_fault.specs.declared.fault.Said.TheVariants.{Here}
use Rattle.sve_fault.specs.Faults.{fault_at, silent_fault}
use Rattle.sve_scope.specs.declared.what.What.{What}
use Rattle.sve_scope.specs.declared.what.What.TheVariants as is_what
use Rattle.sve_tree.specs.declared.word.PackageScope.{PackageScope}
use Rattle.sve_tree.specs.declared.word.ScopedName.{ScopedName}

-- a value or a type, or nothing that is said where the declaration has a diagnostic
abbrev pub known_or_silent : {X : Type 0} → ℕ → Option X → Result X Fault
known_or_silent token None = Err (silent_fault token)
known_or_silent token (Some x) = Ok x

-- the first token of a name
abbrev pub first_token_in : Option PackageScope → ℕ → ℕ
first_token_in None token = token
first_token_in (Some scope) token = scope.name

abbrev pub first_token : ScopedName → ℕ
first_token name = first_token_in name.scope name.name

-- a type where a value is wanted: the name is of the wrong kind
abbrev pub wrong_kind : ℕ → Option (List ℕ) → Fault
wrong_kind token n = record { token = token; said = Here N11 n }

-- the value of a constant, by what its name stands for, with the first token of the name and that of the name itself
abbrev pub value_of : ℕ → ℕ → Option (List ℕ) → What → Result Value Fault
value_of first token n (is_what.Parameter c) = known_or_silent first c.value
value_of first token n (is_what.LocalParameter c) = known_or_silent first c.value
value_of first token n (is_what.EnumName c) = known_or_silent first c.value
value_of first token n (is_what.TypeName ty) = Err (wrong_kind token n)
value_of first token n what = Err (fault_at first C01)

-- the type of a constant, that a name stands for, or of a function's result
abbrev pub type_of : ℕ → What → Result DataType Fault
type_of first (is_what.Parameter c) = known_or_silent first c.ty
type_of first (is_what.LocalParameter c) = known_or_silent first c.ty
type_of first (is_what.EnumName c) = known_or_silent first c.ty
type_of first (is_what.TypeName ty) = Ok ty
type_of first (is_what.Function (Some ty)) = Ok ty
type_of first what = Err (fault_at first C01)
