-- The instances on a path (IEEE 1800-2017, 23.6).
use Rattle.std.specs.Prelude.{◌≡◌, ℕ, zero, suc, ◌+◌, ◌-◌, Bool, true, false, Option, Some, None, is_none, nat_le, nat_eq, if◌then◌else◌, List, [], ◌∷◌, ◌++◌, length, drop, map}
use Rattle.std.specs.List.{starts_with, list_any}
use Rattle.std.specs.List as list
use Rattle.std.specs.Ordering.{eq_by_cmp}
use Rattle.std.specs.Cmp.Lexicographic.{pointwise}
use Rattle.sve_bytes.specs.PathOrder.{step_cmp}
use Rattle.sve_bytes.specs.declared.path.Path.{Path}
use Rattle.sve_bytes.specs.declared.path.Step.{Step}
use Rattle.sve_spec.specs.declared.spec.Spec.{Spec}
use Rattle.sve_scope.specs.declared.spot.Spot.{Spot}
use Rattle.sve_facts.specs.declared.facts.BodyScope.{BodyScope}
use Rattle.sve_facts.specs.declared.facts.Child.{Child}
use Rattle.sve_facts.specs.declared.facts.Facts.{Facts}
use Rattle.sve_facts.specs.Bodies.{Design, Question, OfTops}
use Rattle.sve_design.specs.declared.visits.Visit.{Visit}
use Rattle.sve_find.specs.Ends.{FindValue, Here, Nowhere, Spent, token_place}
use Rattle.sve_design.specs.Walk.{inside, top_path, cost_of_all}
use Rattle.sve_design.specs.Paying.{bodies_asked}

-- an instance on the way, where its name stands in its parent's text, and the steps of the path that are behind it
pub record Reached : Type 0 where
  pub visit : Visit
  pub at : Option Spot
  pub rest : List Step

abbrev pub first_of : Path → Option Spot → Spec → ℕ → List Step → Reached
first_of path at spec depth steps = record { visit = record { path = path; spec = spec; depth = depth }; at = at; rest = steps }

-- what is behind a thing, where there is one
abbrev pub through : {A B : Type 0} → (A → List B) → Option A → List B
through f None = []
through f (Some x) = f x

-- whether the path of a child begins the steps
abbrev pub leads : List Step → Child → Bool
leads steps child = starts_with (eq_by_cmp step_cmp) steps child.path.steps

-- whether the first step is the name of a top
abbrev pub names_top : List Step → Spec → Bool
names_top [] top = false
names_top (step ∷ steps) top = if is_none step.index then pointwise nat_eq top.definition step.name else false

-- whether the steps are the path of a generate block of a body
abbrev pub is_block : Facts → List Step → Bool
is_block facts steps = list_any (λ (s : BodyScope). pointwise (eq_by_cmp step_cmp) s.path.steps steps) facts.scopes

-- whether a way may end at an instance with these steps behind it: there are none, or they are a block of it
abbrev pub may_end : Facts → List Step → Bool
may_end facts [] = true
may_end facts (step ∷ steps) = is_block facts (step ∷ steps)

-- an instance and those below it on the way, so many levels in all: each time the first child whose path begins the steps
abbrev pub way : Design → ℕ → ℕ → Path → Option Spot → Spec → List Step → List Reached
way design zero depth path at spec steps = []
way design (suc levels) depth path at spec steps =
    first_of path at spec depth steps ∷ through (λ (child : Child). way design levels (depth + 1) (inside path child.path) (token_place (design.facts spec).scopes child.token) child.spec (drop (length child.path.steps) steps)) (list.find (leads steps) (design.facts spec).children)

-- from the first top that the first step names (own)
abbrev pub along : Design → Path → List Reached
along design path = through (λ top. way design 64 1 (top_path top) None top (drop 1 path.steps)) (list.find (names_top path.steps) design.tops)

-- an instance on the way stands on the path: the steps of its own path, and those behind it, are these
abbrev pub StandsOn : List Step → Reached → Type 0
StandsOn steps r = r.visit.path.steps ++ r.rest ≡ steps

abbrev pub visits : List Reached → List Visit
visits reached = map (λ r. r.visit) reached

-- an instance at which a way ends, if it may, with what is left of the budget
abbrev pub ends_at : Facts → Reached → ℕ → FindValue
ends_at facts r left =
    if may_end facts r.rest then Here (record { visit = r.visit; at = r.at; facts = facts; rest = r.rest; left = left }) else Nowhere

-- where a way ends: at its last instance
abbrev pub end_of : Design → List Reached → ℕ → FindValue
end_of design [] left = Nowhere
end_of design (r ∷ []) left = ends_at (design.facts r.visit.spec) r left
end_of design (r ∷ next ∷ rest) left = end_of design (next ∷ rest) left

-- what a way comes to: its end, where the budget is enough for all instances on it
abbrev pub settle : Design → ℕ → List Reached → FindValue
settle design budget reached =
    if nat_le (cost_of_all design (visits reached)) budget then end_of design reached (budget - cost_of_all design (visits reached)) else Spent

abbrev pub find : Design → ℕ → Path → FindValue
find design budget path = settle design budget (along design path)

-- all that is asked for on the way
abbrev pub find_asks : Design → ℕ → Path → List Question
find_asks design budget path = OfTops ∷ bodies_asked design budget (visits (along design path))
