-- What is known where an expression stands (own).
use Rattle.std.specs.Prelude.{ℕ, Bool, List, Result}
use Rattle.sve_tree.specs.declared.word.ScopedName.{ScopedName}
use Rattle.sve_tree.specs.declared.expression.Arg.{Arg}
use Rattle.sve_types.specs.DataType.{DataType}
use Rattle.sve_types.specs.declared.value.Value.{Value}
use Rattle.sve_fault.specs.declared.fault.Fault.{Fault}

pub record Told : Type 0 where
  -- where the expression stands
  pub file : List ℕ
  pub chunk : ℕ
  -- the bytes of each token
  pub text : ℕ → List ℕ
  -- which tokens have a name that the scope around declares before them
  pub declared_before : ℕ → Bool
  -- the value of each constant, or what is wrong with its name
  pub constant : ScopedName → Result Value Fault
  -- which names are those of types, and the type of each name that has one
  pub is_type : ScopedName → Bool
  pub ty : ScopedName → Result DataType Fault
  -- the value of each call, or what is wrong with it, and how much it counts
  pub call : ScopedName → List Arg → Result Value Fault
  pub steps : ScopedName → List Arg → ℕ
