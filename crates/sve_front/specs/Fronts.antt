-- The tops of the design that the files of a revision are (IEEE 1800-2017, 3.12.1 and 23.3.1).
use Rattle.std.specs.Prelude.{ℕ, ◌≡◌, List}
use Rattle.sve_index.specs.declared.source.FileElement.{FileElement}
use Rattle.sve_index.specs.Whole.{index_of}
use Rattle.sve_text.specs.Rows.{Row}
use Rattle.sve_front.specs.Units.{unit_names}
use Rattle.sve_front.specs.Elements.{AreElementsOf}

-- the names of the tops of the design that these files are, in file order and then text order
pub record AreTops (rows : List Row) (tops : List (List ℕ)) : Type 0 where
  pub sources : List FileElement
  pub elements : AreElementsOf rows (unit_names rows) sources
  pub tops_are : tops ≡ (index_of sources).tops
