-- The project of a revision: its units, what there is to say of their texts, the index of their elements, and what follows from these (IEEE 1800-2017,
-- 3.12.1 and 3.13).
use Rattle.std.specs.Global.{Global}
use Rattle.std.specs.Prelude.{◌≡◌, ℕ, List, [], ◌∷◌, Option, Some, None, refl}
use Rattle.std.specs.Coded.{Coded, code_by, coded×, coded_list}
use Rattle.std.specs.List.{flat_map, slice_get}
use Rattle.std.specs.Option.{option_and_then}
use Rattle.std.specs.declared.sync.Arc.{Arc}
use Rattle.sve_bytes.specs.declared.net_type.NetType.{NetType}
use Rattle.sve_diag.specs.declared.diag.Diag.{Diag}
use Rattle.sve_diag.specs.contracts.diag.Diag as diag
use Rattle.sve_table.specs.Tables.{item_of}
use Rattle.sve_tree.specs.declared.element.Element.{Element}
use Rattle.sve_index.specs.declared.def.Def.{Def}
use Rattle.sve_index.specs.declared.source.FileElement.{FileElement}
use Rattle.sve_index.specs.declared.whole.Index.{Index}
use Rattle.sve_index.specs.contracts.whole.Index as index
use Rattle.sve_index.specs.Whole.{index_of}
use Rattle.sve_text.specs.Rows.{Row}
use Rattle.sve_known.specs.Packages.{Known}
use Rattle.sve_front.specs.declared.unit.Unit.{Unit}
use Rattle.sve_front.specs.contracts.unit.Unit as unit
use Rattle.sve_front.specs.Units.{unit_names}
use Rattle.sve_front.specs.Diagnostics.{unit_diags}
use Rattle.sve_front.specs.Elements.{AreElementsOf}
use Rattle.sve_front.specs.Trees.{tree_of}
use Rattle.sve_front.specs.Readings.{AreCut, AreUnits, file_of}
use Rattle.sve_front.specs.Places.{net_type_in}
use Rattle.sve_packages.specs.Packages.{PackageText, packages_of}

-- what is known of a revision, from which all else follows
pub record ProjectValue : Type 0 where
  pub units : List Unit
  pub diags : List Diag
  pub index : Index

-- projects are told apart by all of these
abbrev pub project_code : Coded ProjectValue
project_code = code_by (List Unit × (List Diag × Index)) (coded× (coded_list unit.the_row.coded) (coded× (coded_list diag.the_row.coded) index.the_row.coded))
    (λ p. (p.units, (p.diags, p.index))) (λ q. record { units = q.0; diags = q.1.0; index = q.1.1 }) (λ _. refl)

-- ---- what stands where in the units

-- the tree of a chunk, where there is such a chunk and it has one
abbrev pub tree_of_chunk : List (Option (Arc Element Global)) → ℕ → Option Element
tree_of_chunk trees chunk = option_and_then tree_of (slice_get trees chunk)

abbrev pub tree_of_unit : Option Unit → ℕ → Option Element
tree_of_unit None chunk = None
tree_of_unit (Some unit) chunk = tree_of_chunk unit.trees chunk

-- the tree of a chunk of a file; a file that is no unit has none
abbrev pub tree_at : List Unit → List ℕ → ℕ → Option Element
tree_at units file chunk = tree_of_unit (item_of file_of file units) chunk

-- ---- the packages

-- the text of a package, where its chunk has a tree
abbrev pub text_by : Def → Option Element → List PackageText
text_by def None = []
text_by def (Some tree) = record { file = def.file; chunk = def.chunk; element = tree } ∷ []

abbrev pub text_of : List Unit → Def → List PackageText
text_of units def = text_by def (tree_at units def.file def.chunk)

-- the packages that an index of these units names, each with what is found of it (clause 26)
abbrev pub packages_in : List Unit → Index → List Known
packages_in units index = packages_of (flat_map (text_of units) index.packages)

-- the units are cut into chunks, and the packages are those that the index names (own)
pub record IsWhole (units : List Unit) (index : Index) (packages : List Known) : Type 0 where
  pub cut : AreCut units
  pub packages_are : packages ≡ packages_in units index

-- ---- the same of a project

abbrev pub unit_in : ProjectValue → List ℕ → Option Unit
unit_in p file = item_of file_of file p.units

unfoldable pub tree_in : ProjectValue → List ℕ → ℕ → Option Element
tree_in p file chunk = tree_at p.units file chunk

-- the net type that is in force at a token of a chunk of a file (22.8)
unfoldable pub net_in : ProjectValue → List ℕ → ℕ → ℕ → NetType
net_in p file chunk token = net_type_in p.units file chunk token

unfoldable pub known_in : ProjectValue → List Known
known_in p = packages_in p.units p.index

-- ---- of which files a project is

-- its units are those of the files, with what there is to say of each, and its index is that of their elements
pub record IsProjectOf (rows : List Row) (p : ProjectValue) : Type 0 where
  pub units : AreUnits rows p.units
  pub diags : p.diags ≡ flat_map (unit_diags rows) (unit_names rows)
  pub index : (sources : List FileElement) × AreElementsOf rows (unit_names rows) sources × (p.index ≡ index_of sources)
