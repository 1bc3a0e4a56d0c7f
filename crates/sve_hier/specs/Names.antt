-- What hierarchical names mean (IEEE 1800-2017, 23.6 and 23.8).
use Rattle.std.specs.Prelude.{ℕ, zero, suc, ◌-◌, Bool, true, false, ◌&&◌, ◌||◌, if◌then◌else◌, nat_eq, Option, Some, None, is_none, option_map, option_and_then, List, [], ◌∷◌, ◌++◌, length, take, slice_get, flat_map, find}
use Rattle.std.specs.Ordering.{eq_by_cmp}
use Rattle.std.specs.Cmp.Lexicographic.{pointwise}
use Rattle.sve_bytes.specs.PathOrder.{step_cmp}
use Rattle.sve_bytes.specs.declared.path.Path.{Path}
use Rattle.sve_bytes.specs.declared.path.Step.{Step}
use Rattle.sve_scope.specs.declared.declared.Declared.{Declared}
use Rattle.sve_scope.specs.declared.what.What.{What}
use Rattle.sve_scope.specs.declared.what.What.TheVariants as is_what
use Rattle.sve_hier.specs.declared.resolved.Resolved.{Resolved}
use Rattle.sve_hier.specs.declared.resolved.Resolved.TheVariants as is_resolved
use Rattle.sve_hier.specs.Places.{Places, is_place, module_at, is_instance, declaration_at}

-- the first steps of a path
abbrev pub front : Path → ℕ → Path
front p n = record { steps = take n p.steps }

-- the path one step further
abbrev pub below : Path → Step → Path
below p s = record { steps = p.steps ++ s ∷ [] }

-- the path one step less far, and the step that is left out
abbrev pub outer : Path → Path
outer p = front p (length p.steps - 1)

abbrev pub last_step : Path → Option Step
last_step p = slice_get p.steps (length p.steps - 1)

-- the root, above all tops
abbrev pub root : Path
root = record { steps = [] }

-- whether there is a thing of this kind
abbrev pub is_any : {A : Type 0} → (A → Bool) → Option A → Bool
is_any test None = false
is_any test (Some x) = test x

-- Upward: the beginnings of a path with at most so many steps, from the longest on
abbrev pub beginnings : Path → ℕ → List Path
beginnings p zero = []
beginnings p (suc n) = front p (suc n) ∷ beginnings p n

-- Of these the scopes that are searched. Up to the first instance all are; then of each instance its own scope, and no block of it.
abbrev pub searched : Places → Bool → List Path → List Path
searched at own [] = []
searched at own (p ∷ ps) = if is_instance at p then p ∷ searched at false ps else if own then p ∷ searched at true ps else searched at false ps

-- whether a step is the name of an instance: that of its module, or its own
abbrev pub is_module_name : Step → List ℕ → Bool
is_module_name s name = is_none s.index && pointwise nat_eq s.name name

abbrev pub is_own_name : Step → Path → Bool
is_own_name s p = is_any (λ last. eq_by_cmp step_cmp last s) (last_step p)

abbrev pub names : Places → Step → Path → Bool
names at s p = is_any (λ name. is_module_name s name || is_own_name s p) (module_at at p)

-- where a first step may lead from a scope: to what stands there, and to the instance itself by its names
abbrev pub leads : Places → Step → Path → List Path
leads at s p = below p s ∷ (if names at s p then p ∷ [] else [])

-- the first place of all to which a first step may lead, from the scopes in turn
abbrev pub found : Places → Path → ℕ → Bool → Step → Option Path
found at from n own s = find (is_place at) (flat_map (leads at s) (searched at own (beginnings from n)))

abbrev pub start : Places → Path → Step → Option Path
start at from s = found at from (length from.steps) true s

-- a generate block is found by its place alone
abbrev pub is_block : What → Bool
is_block is_what.Block = true
is_block what = false

-- what is declared by a step, which has no index, in the scope of a place: an instance too, be it visited or not, but no block
abbrev pub item : Places → Path → Step → Option Declared
item at p s = if is_none s.index then option_and_then (λ (d : Declared). if is_block d.what then None else Some d) (declaration_at at p s.name) else None

-- an instance or a block is declared in the scope around it
abbrev pub own_declaration : Places → Path → Option Declared
own_declaration at p = option_and_then (λ (s : Step). declaration_at at (outer p) s.name) (last_step p)

-- what is found at a place: a top, which is declared nowhere, or what is declared
abbrev pub whole : Places → Path → Option Resolved
whole at p = if nat_eq (length p.steps) 1 then option_map is_resolved.Top (module_at at p) else option_map (is_resolved.Declared p) (own_declaration at p)

-- Downward: each step leads to what stands there; the last may be something else that is declared
abbrev pub last_item : Places → Path → Step → List Step → Option Resolved
last_item at p s [] = option_map (is_resolved.Declared (below p s)) (item at p s)
last_item at p s (next ∷ rest) = None

abbrev pub down : Places → List Step → Path → Option Resolved
down at [] p = whole at p
down at (s ∷ rest) p = if is_place at (below p s) then down at rest (below p s) else last_item at p s rest

-- the first step is sought upward, and the others lead down from there
abbrev pub upward : Places → Path → List Step → Option Resolved
upward at from [] = None
upward at from (s ∷ rest) = option_and_then (down at rest) (start at from s)

-- What a name means that is used in the scope of a place: nothing where no place stands there, and with `$root` it leads down from the root.
abbrev pub resolve : Places → Path → Bool → Path → Option Resolved
resolve at from rooted name =
    if rooted then down at name.steps root
    else if is_place at from then upward at from name.steps
    else None
