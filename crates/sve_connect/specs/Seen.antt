-- What is known around an instance (own).
use Rattle.std.specs.Prelude.{ℕ, List, Option}
use Rattle.sve_tree.specs.declared.expression.Expr.{Expr}
use Rattle.sve_types.specs.DataType.{DataType}
use Rattle.sve_connect.specs.declared.around.Net.{Net}
use Rattle.sve_connect.specs.declared.around.Thing.{Thing}
use Rattle.sve_connect.specs.declared.around.Thing.TheVariants as is_thing

-- what a name stands for
pub data Stands : Type 0 where
  unknown : Stands
  typed : DataType → Stands
  faced : List ℕ → Stands
  other : Stands

-- the answer, wherever it lies in memory
abbrev pub stands_for : Thing → Stands
stands_for is_thing.Unknown = unknown
stands_for (is_thing.Data t) = typed t.now
stands_for (is_thing.Interface i) = faced i.now
stands_for is_thing.Other = other

pub record Seen : Type 0 where
  -- where the instance stands
  pub file : List ℕ
  pub chunk : ℕ
  -- the name at each token, what each name stands for, and the interface that each expression stands for
  pub name : ℕ → Option (List ℕ)
  pub thing : List ℕ → Stands
  pub interface : Expr → Option (List ℕ)
  -- the uses of names in each expression that declare nets
  pub nets : Expr → List Net
