-- Cycles of imports (own).
use Rattle.std.specs.Prelude.{◌≡◌, ◌<◌, ℕ, false, List, [], ◌∷◌, length, Contains}
use Rattle.sve_package_order.specs.declared.package_imports.PackageImports.{PackageImports}
use Rattle.sve_package_order.specs.Rounds.{imported, is_early}

-- a way along imports, from a package over each of these, and where it ends
abbrev pub Goes : List PackageImports → PackageImports → List PackageImports → Type 0
Goes ps p [] = Unit {0}
Goes ps p (q ∷ way) = Contains (imported ps p) q × Goes ps q way

abbrev pub end_of : PackageImports → List PackageImports → PackageImports
end_of p [] = p
end_of p (q ∷ way) = end_of q way

-- where a way leads from a package to one from which a way of at least one step leads back to it, the first never has its turn
abbrev pub CyclesHaveNoRound : Type 0
CyclesHaveNoRound =
    (ps : List PackageImports) (p q : PackageImports) (way back : List PackageImports) → Goes ps p way → end_of p way ≡ q → Goes ps q back → end_of q back ≡ q → 0 < length back
    → (k : ℕ) → is_early ps k p ≡ false
