-- What an instance does, by what was answered on the way.
use Rattle.std.proofs.Common.{◌≡◌, ℕ, List, Option, refl}
use Rattle.sve_tree.specs.declared.element.Element.{Element}
use Rattle.sve_tree.specs.declared.item.Instance.{Instance}
use Rattle.sve_spec.specs.declared.spec.Spec.{Spec}
use Rattle.sve_facts.specs.declared.facts.Port.{Port}
use Rattle.sve_plan.specs.Plan.{Give, and_then, each}
use Rattle.sve_body.specs.Steps.{Steps}
use Rattle.sve_body.specs.Items.{implied, instance, known_instance, unknown_instance}

module _ {S : Type 0} (steps : Steps S) where
  pub unknown_of : (i : Instance) (s : S) (tokens : List ℕ) → tokens ≡ steps.unknown_tokens i s → unknown_instance steps i s ≡ and_then (each (implied steps) tokens s) (λ t. Give (steps.unknown i t))
  unknown_of i s tokens is = rw is refl

  pub special_of : (i : Instance) (spec : Spec) (ports : List Port) (s : S) (tokens : List ℕ) → tokens ≡ steps.connection_tokens ports i s
      → and_then (each (implied steps) (steps.connection_tokens ports i s) s) (λ t. Give (steps.child spec ports i t)) ≡ and_then (each (implied steps) tokens s) (λ t. Give (steps.child spec ports i t))
  special_of i spec ports s tokens is = rw is refl

  pub instance_of : (definition : ℕ) (element : Option Element) (i : Instance) (s t : S) (spec : Option Spec) → spec ≡ (steps.specialized definition element i s).0 → t ≡ (steps.specialized definition element i s).1
      → instance steps definition element i s ≡ known_instance steps i spec t
  instance_of definition element i s t spec is left = rw (is, left) refl
