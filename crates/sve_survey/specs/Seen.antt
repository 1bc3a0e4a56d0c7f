-- The instances of a design with their bodies (IEEE 1800-2017, 23.3 and 23.6).
use Rattle.std.specs.Prelude.{ℕ, zero, suc, ◌+◌, ◌-◌, nat_le, if◌then◌else◌, List, [], ◌∷◌}
use Rattle.std.specs.List.{flat_map}
use Rattle.sve_spec.specs.declared.spec.Spec.{Spec}
use Rattle.sve_facts.specs.declared.facts.Child.{Child}
use Rattle.sve_facts.specs.declared.facts.Facts.{Facts}
use Rattle.sve_facts.specs.Bodies.{Design}
use Rattle.sve_design.specs.declared.visits.Visit.{Visit}
use Rattle.sve_design.specs.Walk.{inside, top_path}

-- an instance: its path, what it is an instance of and its depth; its ports that its parent connects to nothing; and its body
pub record Instance : Type 0 where
  pub visit : Visit
  pub unconnected : List (List ℕ)
  pub facts : Facts

-- an instance without what its parent and its body say of it
abbrev pub visit_of : Instance → Visit
visit_of instance = instance.visit

-- a top stands at the path of its name, at depth 1
abbrev pub top_visit : Spec → Visit
top_visit top = record { path = top_path top; spec = top; depth = 1 }

-- an instance in the body of another stands inside that, one deeper
abbrev pub child_visit : Visit → Child → Visit
child_visit parent child = record { path = inside parent.path child.path; spec = child.spec; depth = parent.depth + 1 }

-- an instance with all below it, so many levels in all: each before its children, and these in the order of the text
abbrev pub seen_below : Design → ℕ → Visit → List (List ℕ) → List Instance
seen_below design zero visit unconnected = []
seen_below design (suc levels) visit unconnected =
    record { visit = visit; unconnected = unconnected; facts = design.facts visit.spec } ∷ flat_map (λ (child : Child). seen_below design levels (child_visit visit child) child.unconnected) (design.facts visit.spec).children

-- all instances down to depth 64 (own); no parent leaves a port of a top unconnected
abbrev pub seen : Design → List Instance
seen design = flat_map (λ top. seen_below design 64 (top_visit top) []) design.tops

-- those of these instances that a budget is enough for, up to the first that costs more than is left: each costs one and what its body costs (own)
abbrev pub paid_for : Design → ℕ → List Instance → List Instance
paid_for design left [] = []
paid_for design zero (i ∷ is) = []
paid_for design (suc left) (i ∷ is) = if nat_le (design.cost i.visit.spec) left then i ∷ paid_for design (left - design.cost i.visit.spec) is else []
