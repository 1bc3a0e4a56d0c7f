-- The instances of a design (IEEE 1800-2017, 23.3 and 23.6).
use Rattle.std.specs.Prelude.{ℕ, zero, suc, ◌+◌, Option, Some, None, nat_le, if◌then◌else◌, List, [], ◌∷◌, ◌++◌}
use Rattle.std.specs.List.{flat_map}
use Rattle.sve_bytes.specs.declared.path.Path.{Path}
use Rattle.sve_spec.specs.declared.spec.Spec.{Spec}
use Rattle.sve_facts.specs.declared.facts.Child.{Child}
use Rattle.sve_facts.specs.Bodies.{Design}
use Rattle.sve_design.specs.declared.visits.Visit.{Visit}
use Rattle.sve_design.specs.declared.visits.Walk.{Walk}
use Rattle.sve_design.specs.declared.visits.Walk.TheVariants as is_walk

-- where what a body holds at a path stands
abbrev pub inside : Path → Path → Path
inside parent path = record { steps = parent.steps ++ path.steps }

-- a top is named as its module is
abbrev pub top_path : Spec → Path
top_path top = record { steps = record { name = top.definition; index = None } ∷ [] }

-- an instance with all below it, so many levels in all: each before its children, and these in the order of the text
abbrev pub subtree : Design → ℕ → ℕ → Path → Spec → List Visit
subtree design zero depth path spec = []
subtree design (suc levels) depth path spec =
    record { path = path; spec = spec; depth = depth } ∷ flat_map (λ (child : Child). subtree design levels (depth + 1) (inside path child.path) child.spec) (design.facts spec).children

-- the depth of a top is 1, and nothing is visited beyond depth 64 (own)
abbrev pub instances : Design → List Visit
instances design = flat_map (λ top. subtree design 64 1 (top_path top) top) design.tops

-- an instance costs one, and what its body costs (own)
abbrev pub cost_of : Design → Visit → ℕ
cost_of design visit = 1 + design.cost visit.spec

abbrev pub cost_of_all : Design → List Visit → ℕ
cost_of_all design [] = 0
cost_of_all design (v ∷ vs) = cost_of design v + cost_of_all design vs

-- instances, where a budget is enough for all of them
abbrev pub within : Design → ℕ → List Visit → Option (List Visit)
within design budget vs = if nat_le (cost_of_all design vs) budget then Some vs else None

abbrev pub walk : Design → ℕ → Option (List Visit)
walk design budget = within design budget (instances design)

abbrev pub walk_value : Walk → Option (List Visit)
walk_value (is_walk.Done visits) = Some visits
walk_value is_walk.Spent = None
