-- The answers about what a name means (own), and how that is spelled (IEEE 1800-2017, 3.12.1, 23.6 and 26.3).
use Rattle.std.specs.Prelude.{ℕ, None, List, [], ◌∷◌, ◌++◌, codes, map}
use Rattle.sve_bytes.specs.declared.path.Path.{Path}
use Rattle.sve_bytes.specs.PathText.{name_text, path_text}
use Rattle.sve_diag.specs.declared.diag.Place.{Place}
use Rattle.sve_scope.specs.declared.what.What.{What}
use Rattle.sve_listing.specs.Lists.{on_one_line}
use Rattle.sve_facts_lines.specs.Texts.{at_text}
use Rattle.sve_facts_lines.specs.Things.{kind_word}

-- a name in the scope at a path: the path, a dot and the name
abbrev pub within_text : Path → List ℕ → List ℕ
within_text scope name = path_text (scope.steps ++ record { name = name; index = None } ∷ [])

-- `<package>::<name>`
abbrev pub package_text : List ℕ → List ℕ → List ℕ
package_text from name = name_text from ++ codes "::" ++ name_text name

-- `$unit::<name>`, of a name in the scope of a compilation unit
abbrev pub unit_text : List ℕ → List ℕ
unit_text name = codes "$unit::" ++ name_text name

-- `<kind> <spelled>`
abbrev pub meant_text : What → List ℕ → List ℕ
meant_text what spelled = kind_word what ++ 32 ∷ spelled

-- the kind, how it is spelled, and where it is declared
abbrev pub resolve_lines : What → List ℕ → Place → List ℕ → List (List ℕ)
resolve_lines what spelled place text = map on_one_line (meant_text what spelled ∷ at_text place text ∷ [])
