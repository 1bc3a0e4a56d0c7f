-- Of instances that a budget is enough for, no body costs more than the budget.
use Rattle.std.proofs.Common.{◌≡◌, ℕ, ◌+◌, ◌≤◌, ◌&&◌, Bool, true, false, cond, Some, None, List, [], ◌∷◌, map, refl, ap, sym, ◌∙◌, subst, arith}
use Rattle.std.specs.Prelude.{nat_le}
use Rattle.std.specs.List.{list_all}
use Rattle.std.proofs.lemmas.Bool.{leb-true, le-leb}
use Rattle.sve_facts.specs.Bodies.{Design}
use Rattle.sve_design.specs.declared.visits.Visit.{Visit}
use Rattle.sve_design.specs.Walk.{cost_of_all, instances, walk}
use Rattle.sve_hier.specs.Instances.{InstanceValue, fits, instance_of, instances_within}

module _ (design : Design) (budget : ℕ) where
  all_fit : (vs : List Visit) → cost_of_all design vs ≤ budget → list_all (fits design budget) vs ≡ true
  all_fit [] h = refl
  all_fit (v ∷ vs) h =
      let all : 1 + design.cost v.spec + cost_of_all design vs ≤ budget = h in
      let one : design.cost v.spec ≤ budget = omega (arith, all) in
      let others : cost_of_all design vs ≤ budget = omega (arith, all) in
      ap (λ (b : Bool). b && list_all (fits design budget) vs) (le-leb (design.cost v.spec) budget one) ∙ all_fit vs others

  -- what was visited is all, and was paid for
  paid_for : (vs ws : List Visit) (b : Bool) → nat_le (cost_of_all design ws) budget ≡ b → Some vs ≡ cond b (Some ws) None → (cost_of_all design ws ≤ budget) × (vs ≡ ws)
  paid_for vs ws true e is = (leb-true (cost_of_all design ws) budget e, cc)
  paid_for vs ws false e is = cc

  walked_fit : (vs : List Visit) → Some vs ≡ walk design budget → instances_within design budget vs ≡ Some (map (instance_of design) vs)
  walked_fit vs is =
      let both = paid_for vs (instances design) (nat_le (cost_of_all design (instances design)) budget) refl is in
      let paid : cost_of_all design vs ≤ budget = subst (λ (ws : List Visit). cost_of_all design ws ≤ budget) (sym both.1) both.0 in
      ap (λ (b : Bool). cond b (Some (map (instance_of design) vs)) None) (all_fit vs paid)

  -- so their instances are there
  pub is_there : (vs : List Visit) → Some vs ≡ walk design budget → None ≡ instances_within design budget vs → ⊥
  is_there vs is none = let same : None ≡ Some (map (instance_of design) vs) = none ∙ walked_fit vs is in cc

  pub are_there : (vs : List Visit) (opened : List InstanceValue) → Some vs ≡ walk design budget → Some opened ≡ instances_within design budget vs → opened ≡ map (instance_of design) vs
  are_there vs opened is there = let same : Some opened ≡ Some (map (instance_of design) vs) = there ∙ walked_fit vs is in cc
