-- Whether the hierarchical names of expressions are found (IEEE 1800-2017, 23.6 and 23.8). Such a name leads on as long as its steps lead to scopes; what
-- stands behind the first thing that is none is selected of that thing (7.2, 7.4 and 11.5.1).
use Rattle.std.specs.Prelude.{Bool, true, false, ◌||◌, if◌then◌else◌, is_some, List, [], ◌∷◌}
use Rattle.sve_bytes.specs.declared.path.Path.{Path}
use Rattle.sve_bytes.specs.declared.path.Step.{Step}
use Rattle.sve_scope.specs.declared.declared.Declared.{Declared}
use Rattle.sve_scope.specs.declared.what.What.{What}
use Rattle.sve_scope.specs.declared.what.What.TheVariants as is_what
use Rattle.sve_hier.specs.Places.{Places, declaration_at, is_place}
use Rattle.sve_hier.specs.Names.{below, is_any, item, start}

-- what is declared and is no scope
abbrev pub is_thing : What → Bool
is_thing is_what.Instance = false
is_thing is_what.Block = false
is_thing what = true

-- such a thing is declared in the scope of a place; an index selects an element of it
abbrev pub has_thing : Places → Path → Step → Bool
has_thing at p s = is_any (λ (d : Declared). is_thing d.what) (declaration_at at p s.name)

-- where a step leads to no place: to such a thing, or at the end of a name to anything that is declared, as an instance that is not visited
abbrev pub ends_in : Places → Path → Step → List Step → Bool
ends_in at p s [] = has_thing at p s || is_some (item at p s)
ends_in at p s (next ∷ rest) = has_thing at p s

-- downward from a place
abbrev pub leads_on : Places → List Step → Path → Bool
leads_on at [] p = true
leads_on at (s ∷ rest) p = if is_place at (below p s) then leads_on at rest (below p s) else ends_in at p s rest

-- the first step is sought upward
abbrev pub leads_from : Places → Path → List Step → Bool
leads_from at from [] = false
leads_from at from (s ∷ rest) = is_any (leads_on at rest) (start at from s)

-- a name that is used in the scope of a place
abbrev pub is_found : Places → Path → Path → Bool
is_found at from name = if is_place at from then leads_from at from name.steps else false
