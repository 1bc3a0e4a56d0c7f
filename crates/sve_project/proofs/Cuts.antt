-- Units of files are cut into chunks, and make a project.
use Rattle.std.proofs.Common.{◌≡◌, List, [], ◌∷◌, subst, sym, ◌∙◌}
use Rattle.std.specs.List.{flat_map}
use Rattle.sve_diag.specs.declared.diag.Diag.{Diag}
use Rattle.sve_index.specs.declared.source.FileElement.{FileElement}
use Rattle.sve_index.specs.declared.whole.Index.{Index}
use Rattle.sve_index.specs.Whole.{index_of}
use Rattle.sve_text.specs.Rows.{Row}
use Rattle.sve_front.specs.declared.unit.Unit as declared
use Rattle.sve_front.specs.Units.{unit_names}
use Rattle.sve_front.specs.Diagnostics.{unit_diags}
use Rattle.sve_front.specs.Elements.{AreElementsOf}
use Rattle.sve_front.specs.Readings.{AreCut, AreUnits, AreUnitsOf}
use Rattle.sve_project.specs.Projects.{IsProjectOf}

all_cut : (rows : List Row) (units : List declared.Unit) → AreUnitsOf rows units → AreCut units
all_cut rows [] these = tt
all_cut rows (unit ∷ units) these = (record { chunks = these.0.chunks; few = these.0.few }, all_cut rows units these.1)

pub are_cut : (rows : List Row) (units : List declared.Unit) → AreUnits rows units → AreCut units
are_cut rows units these = all_cut rows units these.each

-- a project, by where its units, what there is to say of them and its index come from
pub is_project : (rows : List Row) (units these : List declared.Unit) (diags : List Diag) (index one : Index) (sources : List FileElement)
    → AreUnits rows units → AreElementsOf rows (unit_names rows) sources → diags ≡ flat_map (unit_diags rows) (unit_names rows) → these ≡ units → one ≡ index → index ≡ index_of sources
    → IsProjectOf rows (record { units = these; diags = diags; index = one })
is_project rows units these diags index one sources are elements told same is made =
    record { units = subst (λ (us : List declared.Unit). AreUnits rows us) (sym same) are; diags = told; index = (sources, elements, is ∙ made) }
