-- The places of a design: its instances and the generate blocks of their bodies, by their paths from the root (IEEE 1800-2017, 23.6 and clause 27).
use Rattle.std.specs.Prelude.{ℕ, Bool, Option, Some, None, is_some, option_map, option_and_then, List, ◌∷◌, map, drop, slice_get, flat_map, refl}
use Rattle.std.specs.Coded.{Coded, code_by, coded×, coded_list, coded_option, coded_ℕ}
use Rattle.std.specs.Map.{lookup, update_all}
use Rattle.std.specs.Ordering.{eq_by_cmp, is_eq}
use Rattle.sve_bytes.specs.PathOrder.{path_cmp}
use Rattle.sve_bytes.specs.declared.path.Path.{Path}
use Rattle.sve_scope.specs.declared.declared.Declared.{Declared}
use Rattle.sve_scope.specs.declared.scope.Scope.{Scope}
use Rattle.sve_bytes.specs.contracts.path.Path as path
use Rattle.sve_scope.specs.contracts.scope.Scope as scope
use Rattle.sve_scope.specs.Scopes.{declaration_in}
use Rattle.sve_facts.specs.declared.facts.BodyScope.{BodyScope}
use Rattle.sve_design.specs.Walk.{inside}
use Rattle.sve_hier.specs.Instances.{InstanceValue}

-- An instance, with the name of its module, or a generate block, which has no such name; and its scope. An instance of which nothing is found has
-- none.
pub record PlaceValue : Type 0 where
  pub module_name : Option (List ℕ)
  pub scope : Option Scope

-- places are told apart by both
abbrev pub place_code : Coded PlaceValue
place_code = code_by (Option (List ℕ) × Option Scope) (coded× (coded_option (coded_list coded_ℕ)) (coded_option scope.the_row.coded)) (λ q. (q.module_name, q.scope)) (λ p. record { module_name = p.0; scope = p.1 }) (λ _. refl)

-- the first scope of a body is that of the instance
abbrev pub instance_place : InstanceValue → PlaceValue
instance_place i = record { module_name = Some i.module_name; scope = option_map (λ (s : BodyScope). s.scope) (slice_get i.facts.scopes 0) }

-- and each of the others that of a generate block
abbrev pub block_place : Path → BodyScope → Path × PlaceValue
block_place path block = (inside path block.path, record { module_name = None; scope = Some block.scope })

abbrev pub places_of : InstanceValue → List (Path × PlaceValue)
places_of i = (i.path, instance_place i) ∷ map (block_place i.path) (drop 1 i.facts.scopes)

-- the places of all instances
abbrev pub places : List InstanceValue → List (Path × PlaceValue)
places is = flat_map places_of is

-- what stands at each path
abbrev pub Places : Type 0
Places = Path → Option PlaceValue

-- as a list has it; of two at one path, which a design does not have, the later counts
abbrev pub place_at : List (Path × PlaceValue) → Places
place_at list = update_all (eq_by_cmp path_cmp) (λ p. None) list

-- as a table has it, which has each path once
abbrev pub Entries : Type 0
Entries = List (Path × PlaceValue)

abbrev pub entries_code : Coded Entries
entries_code = coded_list (coded× path.the_row.coded place_code)

abbrev pub entry_at : Entries → Places
entry_at entries p = lookup (λ q. is_eq (path_cmp p q)) entries

abbrev pub is_place : Places → Path → Bool
is_place at p = is_some (at p)

-- the name of the module of an instance
abbrev pub module_at : Places → Path → Option (List ℕ)
module_at at p = option_and_then (λ (q : PlaceValue). q.module_name) (at p)

abbrev pub is_instance : Places → Path → Bool
is_instance at p = is_some (module_at at p)

abbrev pub scope_at : Places → Path → Option Scope
scope_at at p = option_and_then (λ (q : PlaceValue). q.scope) (at p)

-- what is declared by a name in the scope of a place; what is imported there is not (own)
abbrev pub declaration_at : Places → Path → List ℕ → Option Declared
declaration_at at p name = option_and_then (λ s. declaration_in s name) (scope_at at p)
