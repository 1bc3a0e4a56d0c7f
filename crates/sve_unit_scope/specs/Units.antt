-- The scope of a compilation unit as the definition of an element sees it (IEEE 1800-2017, 3.12.1).
use Rattle.std.specs.Prelude.{ℕ, List}
use Rattle.std.specs.List.{fold}
use Rattle.sve_scope.specs.Scopes.{empty_scope}
use Rattle.sve_tree.specs.declared.element.Element.{Element}
use Rattle.sve_known.specs.Packages.{Known}
use Rattle.sve_contents.specs.declared.contents.Contents.{Contents}
use Rattle.sve_contents.specs.Reading.{empty_contents}
use Rattle.sve_package.specs.Readings.{Readings}
use Rattle.sve_package.specs.Units.{turned, with_unit}
use Rattle.sve_unit_scope.specs.Elements.{ChunkElement}

module _ (reads : Readings) (packages : List Known) (file : List ℕ) where
  -- It grows by the items in front of the definition of each element of the file
  abbrev pub with_unit_items : Contents → ChunkElement → Contents
  with_unit_items c e = with_unit reads packages c file e.chunk e.element

  abbrev pub unit_before : ℕ → List ChunkElement → Contents
  unit_before chunk es = fold with_unit_items (empty_contents (empty_scope file chunk)) es

  -- up to those of the element itself; what is said of its definition stands in the element's chunk.
  abbrev pub unit_of : ℕ → List ChunkElement → Element → Contents
  unit_of chunk es own = turned (with_unit reads packages (unit_before chunk es) file chunk own) file chunk
