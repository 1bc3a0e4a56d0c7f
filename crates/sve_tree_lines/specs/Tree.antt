-- The answer about all instances of a design (own).
use Rattle.std.specs.Prelude.{ℕ, List, ◌∷◌, ◌++◌}
use Rattle.sve_bytes.specs.PathText.{name_text, path_text}
use Rattle.sve_listing.specs.Lists.{listed, on_one_line}
use Rattle.sve_design.specs.declared.visits.Visit.{Visit}

-- `<path> <module>` for each instance
abbrev pub visit_text : Visit → List ℕ
visit_text v = path_text v.path.steps ++ 32 ∷ name_text v.spec.definition

abbrev pub tree_lines : List Visit → List (List ℕ)
tree_lines visits = listed (λ v. on_one_line (visit_text v)) visits
