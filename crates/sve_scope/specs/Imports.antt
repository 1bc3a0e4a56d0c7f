-- Imports of packages (IEEE 1800-2017, 26.3).
use Rattle.std.specs.Prelude.{ℕ, List}
use Rattle.sve_scope.specs.declared.spot.Spot.{Spot}

-- an import of all names of a package: the package, its names, and where the import stands
pub record WildcardImport : Type 0 where
  pub from : List ℕ
  pub names : List (List ℕ)
  pub at : Spot
