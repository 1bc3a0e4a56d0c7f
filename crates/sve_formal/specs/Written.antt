-- What is written of the type of a declared name (IEEE 1800-2017, A.2.2.1).
use Rattle.std.specs.Prelude.{Bool, true, false, not, ◌||◌, List, [], ◌∷◌, is_some}
use Rattle.sve_tree.specs.declared.data_type.DeclaredType.{DeclaredType}
use Rattle.sve_tree.specs.declared.data_type.DeclaredType.TheVariants as is_declared

abbrev pub is_nothing : {X : Type 0} → List X → Bool
is_nothing [] = true
is_nothing (x ∷ xs) = false

abbrev pub is_written : DeclaredType → Bool
is_written (is_declared.Explicit t) = true
is_written (is_declared.Implicit sign dimensions) = is_some sign || not (is_nothing dimensions.items)
