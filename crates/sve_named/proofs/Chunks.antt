-- What the elements of chunks make of the scope of a compilation unit, one chunk after another.
use Rattle.std.proofs.Common.{◌≡◌, ℕ, ◌+◌, Option, Some, None, List, [], ◌∷◌, refl, add-one}
use Rattle.std.specs.List.{fold}
use Rattle.std.proofs.lemmas.List.Sums.{fold-append}
use Rattle.sve_tree.specs.declared.element.Element.{Element}
use Rattle.sve_known.specs.Packages.{Known}
use Rattle.sve_contents.specs.declared.contents.Contents.{Contents}
use Rattle.sve_package.specs.Readings.{Readings}
use Rattle.sve_unit_scope.specs.Elements.{ChunkElement, with_element}
use Rattle.sve_unit_scope.specs.Units.{with_unit_items}
use Rattle.sve_project.specs.Projects.{ProjectValue, tree_in}
use Rattle.sve_named.specs.Named.{elements_of}

module _ (reads : Readings) (packages : List Known) (file : List ℕ) where
  pub with_one : (c : Contents) (es : List ChunkElement) (k : ℕ) (tree : Option Element)
      → fold (with_unit_items reads packages file) c (with_element es k tree)
      ≡ fold (with_unit_items reads packages file) (fold (with_unit_items reads packages file) c es) (with_element [] k tree)
  with_one c es k None = refl
  with_one c es k (Some e) = fold-append (with_unit_items reads packages file) c es (record { chunk = k; element = e } ∷ [])

-- the elements of one chunk more
pub one_more : (p : ProjectValue) (file : List ℕ) (k : ℕ) → elements_of p file (k + 1) ≡ with_element (elements_of p file k) k (tree_in p file k)
one_more p file k = rw (add-one k) refl
