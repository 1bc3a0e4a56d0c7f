-- What a plain name stands for at the end of the way along a path, and where it is found (IEEE 1800-2017, 3.12.1, 6.5, 23.9 and 26.3).
use Rattle.std.specs.Prelude.{ℕ, zero, suc, Option, Some, None, List, [], length, take}
use Rattle.sve_bytes.specs.declared.path.Step.{Step}
use Rattle.sve_table.specs.Tables.{item_of}
use Rattle.sve_tree.specs.declared.element.Element.{Element}
use Rattle.sve_index.specs.declared.def.Def.{Def}
use Rattle.sve_index.specs.Defs.{def_name}
use Rattle.sve_scope.specs.declared.declared.Declared.{Declared}
use Rattle.sve_scope.specs.declared.scope.Scope.{Scope}
use Rattle.sve_scope.specs.Lookup.{Meaning, local, imported, two, nothing}
use Rattle.sve_facts.specs.declared.facts.BodyScope.{BodyScope}
use Rattle.sve_known.specs.Packages.{Known, member, package_name}
use Rattle.sve_function.specs.Readings.{readings}
use Rattle.sve_unit_scope.specs.Elements.{ChunkElement, with_element}
use Rattle.sve_unit_scope.specs.Units.{unit_of}
use Rattle.sve_find.specs.Ends.{FoundValue}
use Rattle.sve_project.specs.Projects.{ProjectValue, known_in, tree_in}
use Rattle.sve_named.specs.declared.located.Located.{Located}
use Rattle.sve_named.specs.declared.located.Sought.{Sought}
use Rattle.sve_named.specs.declared.located.Sought.TheVariants as is_sought
use Rattle.sve_named.specs.declared.located.Where.{Where}
use Rattle.sve_named.specs.declared.located.Where.TheVariants as is_where
use Rattle.sve_named.specs.Scopes.{meaning_in, scope_at}

-- what a package declares by a name, where it is known
abbrev pub member_of_known : List ℕ → Option Known → Option Declared
member_of_known n None = None
member_of_known n (Some k) = member n k.facts

-- what is found, or where that is nothing, what is found further outward
abbrev pub or_outward : Sought → Sought → Sought
or_outward is_sought.Nothing outer = outer
or_outward (is_sought.At l) outer = is_sought.At l
or_outward is_sought.Unclear outer = is_sought.Unclear

-- the declaration that is found, where one is
abbrev pub declared_in : Sought → Option Declared
declared_in (is_sought.At l) = Some l.declared
declared_in is_sought.Unclear = None
declared_in is_sought.Nothing = None

-- a name that is imported from a package, which declares this by it
abbrev pub in_package : List ℕ → Option Declared → Sought
in_package from None = is_sought.Unclear
in_package from (Some d) = is_sought.At (record { place = is_where.Package from; declared = d })

module _ (p : ProjectValue) where
  abbrev pub member_of : List ℕ → List ℕ → Option Declared
  member_of from n = member_of_known n (item_of package_name from (known_in p))

  -- What is found by what a name means in this scope: an imported name is what its package declares by it. Where two packages have it, no one
  -- declaration is meant.
  abbrev pub sought_by : Where → Meaning → Sought
  sought_by place (local d) = is_sought.At (record { place = place; declared = d })
  sought_by place (imported from n through) = in_package from (member_of from n)
  sought_by place (two first second) = is_sought.Unclear
  sought_by place nothing = is_sought.Nothing

  -- what is found in the scope at so many of these steps from the body, by itself
  abbrev pub sought_within : List BodyScope → List Step → List ℕ → ℕ → Sought
  sought_within scopes steps n count = sought_by (is_where.Within count) (meaning_in n (scope_at scopes (take count steps)))

  -- and outward from there to the body's own scope
  abbrev pub sought_from : List BodyScope → List Step → List ℕ → ℕ → Sought
  sought_from scopes steps n zero = sought_within scopes steps n 0
  sought_from scopes steps n (suc k) = or_outward (sought_within scopes steps n (suc k)) (sought_from scopes steps n k)

  -- the elements of the first so many chunks of a file, each with its number
  abbrev pub elements_of : List ℕ → ℕ → List ChunkElement
  elements_of file zero = []
  elements_of file (suc k) = with_element (elements_of file k) k (tree_in p file k)

  -- the scope of the compilation unit as the definition of an element sees it, which stands there
  abbrev pub unit_scope : Def → Element → Scope
  unit_scope def own = (unit_of readings (known_in p) def.file def.chunk (elements_of def.file def.chunk) own).scope

  abbrev pub scope_around : Def → Option Element → Option Scope
  scope_around def None = None
  scope_around def (Some own) = Some (unit_scope def own)

  abbrev pub scope_at_place : Option Def → Option Scope
  scope_at_place None = None
  scope_at_place (Some def) = scope_around def (tree_in p def.file def.chunk)

  -- the scope around the body of the module or the interface of this name
  abbrev pub scope_around_body : List ℕ → Option Scope
  scope_around_body definition = scope_at_place (item_of def_name definition p.index.definitions)

  -- What is found of the name in the scope at the end of the way, in those around it in its body, and then in the scope of the compilation unit.
  abbrev pub located_at : FoundValue → List ℕ → Sought
  located_at found n =
      or_outward (sought_from found.facts.scopes found.rest n (length found.rest)) (sought_by is_where.CompilationUnit (meaning_in n (scope_around_body found.visit.spec.definition)))

  -- the declaration that the name means there
  abbrev pub named_at : FoundValue → List ℕ → Option Declared
  named_at found n = declared_in (located_at found n)
