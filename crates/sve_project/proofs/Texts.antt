-- The texts of packages, one by one.
use Rattle.std.proofs.Common.{arith, ◌≡◌, ◌≤◌, ◌+◌, ℕ, zero, suc, List, [], ◌∷◌, ◌++◌, length, drop, slice_get, Some, refl, ap, sym, ◌∙◌, append_assoc}
use Rattle.std.proofs.Math.Numerals.{add-one}
use Rattle.std.specs.List.{flat_map}
use Rattle.sve_index.specs.declared.def.Def.{Def}
use Rattle.sve_front.specs.declared.unit.Unit as declared
use Rattle.sve_packages.specs.Packages.{PackageText}
use Rattle.sve_project.specs.Projects.{text_of}

next_there : (ds : List Def) (i : ℕ) (d : Def) → slice_get ds i ≡ Some d → drop i ds ≡ d ∷ drop (i + 1) ds
next_there ds i d h = rw (add-one i) (at ds i h)
  where
    at : (ds : List Def) (i : ℕ) → slice_get ds i ≡ Some d → drop i ds ≡ d ∷ drop (suc i) ds
    at [] i e = cc
    at (x ∷ xs) zero e = cc
    at (x ∷ xs) (suc i) e = at xs i e

pub one_more : (units : List declared.Unit) (before : List PackageText) (ds : List Def) (i : ℕ) (d : Def) → slice_get ds i ≡ Some d
    → before ++ flat_map (text_of units) (drop i ds) ≡ (before ++ text_of units d) ++ flat_map (text_of units) (drop (i + 1) ds)
one_more units before ds i d h = ap (λ (rest : List Def). before ++ flat_map (text_of units) rest) (next_there ds i d h) ∙ sym (append_assoc before (text_of units d) (flat_map (text_of units) (drop (i + 1) ds)))

pub none_left : (ds : List Def) (i : ℕ) → length ds ≤ i → drop i ds ≡ []
none_left [] zero h = refl
none_left [] (suc i) h = refl
none_left (x ∷ xs) zero h = absurd (omega arith)
none_left (x ∷ xs) (suc i) h = none_left xs i (omega arith)
