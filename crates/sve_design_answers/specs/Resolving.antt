-- The answer about what a name means in the scope of an instance or of a generate block (own; IEEE 1800-2017, 23.6 to 23.9 and 26.3).
use Rattle.std.specs.Prelude.{ℕ, ◌≡◌, Bool, Option, Some, None, option_and_then, List, length, map, take}
use Rattle.sve_bytes.specs.declared.path.Path.{Path}
use Rattle.sve_bytes.specs.PathText.{name_text, path_text}
use Rattle.sve_diag.specs.declared.diag.Place.{Place}
use Rattle.sve_text.specs.Rows.{Row}
use Rattle.sve_scope.specs.declared.what.What.{What}
use Rattle.sve_scope.specs.declared.what.What.TheVariants as is_what
use Rattle.sve_design.specs.declared.visits.Visit.{Visit}
use Rattle.sve_design.specs.Walk.{inside, walk}
use Rattle.sve_find.specs.Ends.{FoundValue}
use Rattle.sve_listing.specs.Files.{none}
use Rattle.sve_listing.specs.Lists.{file_text}
use Rattle.sve_facts_lines.specs.Resolved.{package_text, resolve_lines, unit_text, within_text}
use Rattle.sve_store.specs.declared.answer.Answer.{Answer}
use Rattle.sve_store.specs.declared.answer.Answer.TheVariants as is_answer
use Rattle.sve_named.specs.Projects.{ProjectValue}
use Rattle.sve_named.specs.Replies.{design_of}
use Rattle.sve_named.specs.declared.located.Located.{Located}
use Rattle.sve_named.specs.declared.located.Sought.{Sought}
use Rattle.sve_named.specs.declared.located.Sought.TheVariants as is_sought
use Rattle.sve_named.specs.declared.located.Where.{Where}
use Rattle.sve_named.specs.declared.located.Where.TheVariants as is_where
use Rattle.sve_named.specs.Named.{located_at}
use Rattle.sve_hier.specs.declared.resolved.Resolved.{Resolved}
use Rattle.sve_hier.specs.declared.resolved.Resolved.TheVariants as is_resolved
use Rattle.sve_hier.specs.Instances.{instance_of}
use Rattle.sve_hier.specs.Places.{Places, place_at, places}
use Rattle.sve_hier.specs.Names.{resolve}
use Rattle.sve_design_answers.specs.Paths.{IsPathOf, is_rooted, plain_unless, without_root}
use Rattle.sve_design_answers.specs.Places.{module_name, place_of}
use Rattle.sve_design_answers.specs.Answers.{answered_by, found_on}

-- ---- how it is spelled

-- the path from the root of the scope at so many steps of the way behind the innermost instance
abbrev pub scope_path : FoundValue → ℕ → Path
scope_path found count = inside found.visit.path (record { steps = take count found.rest })

-- in the scope in which it is declared: by its path from the root, or by its package, or by the compilation unit
abbrev pub spelled_at : FoundValue → List ℕ → Where → List ℕ
spelled_at found n (is_where.Within count) = within_text (scope_path found count) n
spelled_at found n (is_where.Package from) = package_text from n
spelled_at found n is_where.CompilationUnit = unit_text n

-- ---- what a name means

-- what stands at each path of the design, over these of its instances
abbrev pub hierarchy_of : ProjectValue → List Visit → Places
hierarchy_of p visits = place_at (places (map (instance_of (design_of p)) visits))

-- what a hierarchical name means in the scope at the end of the way
abbrev pub resolved_of : ProjectValue → List Visit → Bool → Path → FoundValue → Option Resolved
resolved_of p visits rooted name found = resolve (hierarchy_of p visits) (scope_path found (length found.rest)) rooted name

-- what is found of a plain name there; any other name means nothing as a plain one
abbrev pub sought_of : ProjectValue → Option (List ℕ) → FoundValue → Sought
sought_of p None found = is_sought.Nothing
sought_of p (Some n) found = located_at p found n

-- ---- its lines

-- what stands nowhere is answered as a thing that is not there
abbrev pub lines_where : List Row → What → List ℕ → Option Place → List (List ℕ)
lines_where rows what spelled None = none
lines_where rows what spelled (Some place) = resolve_lines what spelled place (file_text rows place.file)

module _ (rows : List Row) (p : ProjectValue) where
  -- a declaration that is found of a plain name at the end of the way
  abbrev pub lines_of_located : FoundValue → Located → List (List ℕ)
  lines_of_located found l = lines_where rows l.declared.what (spelled_at found l.declared.name l.place) (place_of p l.declared.at)

  -- a top is an instance, and stands where the name of its module stands
  abbrev pub lines_of_top : List ℕ → List (List ℕ)
  lines_of_top name = lines_where rows is_what.Instance (name_text name) (option_and_then (place_of p) (module_name p name))

  -- what a hierarchical name means
  abbrev pub lines_of_resolved : Option Resolved → List (List ℕ)
  lines_of_resolved None = none
  lines_of_resolved (Some (is_resolved.Top name)) = lines_of_top name
  lines_of_resolved (Some (is_resolved.Declared path d)) = lines_where rows d.what (path_text path.steps) (place_of p d.at)

  -- as a hierarchical name; what is no name means nothing
  abbrev pub lines_of_name : List Visit → Bool → Option Path → FoundValue → List (List ℕ)
  lines_of_name visits rooted None found = none
  lines_of_name visits rooted (Some name) found = lines_of_resolved (resolved_of p visits rooted name found)

  -- What is found of a plain name decides; where that is nothing, the name is a hierarchical one.
  abbrev pub lines_first : FoundValue → Sought → List (List ℕ) → List (List ℕ)
  lines_first found (is_sought.At l) otherwise = lines_of_located found l
  lines_first found is_sought.Unclear otherwise = none
  lines_first found is_sought.Nothing otherwise = otherwise

  abbrev pub lines_of_resolve : List Visit → Bool → Option Path → FoundValue → List (List ℕ)
  lines_of_resolve visits rooted name found = lines_first found (sought_of p (plain_unless rooted name) found) (lines_of_name visits rooted name found)

  -- ---- the answer

  -- Over all instances of the design, where the budget is enough for them; the way to one of them then costs no more.
  abbrev pub resolve_over : Option Path → Bool → Option Path → ℕ → Option (List Visit) → Answer
  resolve_over path rooted name budget None = is_answer.Spent
  resolve_over path rooted name budget (Some visits) = answered_by (lines_of_resolve visits rooted name) (found_on p path budget)

  abbrev pub resolve_answer : Option Path → Bool → Option Path → ℕ → Answer
  resolve_answer path rooted name budget = resolve_over path rooted name budget (walk (design_of p) budget)

-- the answer about the name that the second text spells, at the path that the first spells
unfoldable pub IsResolveAnswer : List Row → ProjectValue → List ℕ → List ℕ → ℕ → Answer → Type 0
IsResolveAnswer rows p path name budget answer =
    (at : Option Path) × (called : Option Path) × IsPathOf path at × IsPathOf (without_root name) called × (answer ≡ resolve_answer rows p at (is_rooted name) called budget)
