-- The questions that an object with bodies answers, and the design of which it answers them (own).
use Rattle.std.specs.Prelude.{◌≡◌, ℕ, ◌≤◌, nat_le, if◌then◌else◌, List}
use Rattle.std.specs.Arc.{arc_value}
use Rattle.sve_spec.specs.declared.spec.Spec.{Spec}
use Rattle.sve_facts.specs.declared.facts.Facts.{Facts}
use Rattle.sve_facts.specs.declared.bodies.Body.{Body}
use Rattle.sve_facts.specs.declared.bodies.Body.TheVariants as is_body

pub data Question : Type 0 where
  -- the specializations of the tops
  OfTops : Question
  -- the body of a specialization, with so much fuel
  OfBody : Spec → ℕ → Question

-- a body with its cost, or that it costs more
pub data BodyValue : Type 0 where
  Costs : Facts → ℕ → BodyValue
  CostsMore : BodyValue

abbrev pub Answer : Question → Type 0
Answer OfTops = List Spec
Answer (OfBody spec fuel) = BodyValue

-- a body, wherever its facts lie in memory
abbrev pub body_value : Body → BodyValue
body_value (is_body.Done facts cost) = Costs (arc_value facts) cost
body_value is_body.Over = CostsMore

-- no body costs more than was allowed
abbrev pub CostsWithin : ℕ → Body → Type 0
CostsWithin fuel (is_body.Done facts cost) = cost ≤ fuel
CostsWithin fuel is_body.Over = Unit {0}

-- A design: its tops, and what is found of each specialization and what that costs.
pub record Design : Type 0 where
  pub tops : List Spec
  pub facts : Spec → Facts
  pub cost : Spec → ℕ

-- what is so of a design
abbrev pub answer_of : Design → (question : Question) → Answer question
answer_of design OfTops = design.tops
answer_of design (OfBody spec fuel) = if nat_le (design.cost spec) fuel then Costs (design.facts spec) (design.cost spec) else CostsMore

-- all that an object tells is so of the design
abbrev pub IsOf : Design → ((question : Question) → Answer question → Type 0) → Type 0
IsOf design tells = (question : Question) (answer : Answer question) → tells question answer → answer ≡ answer_of design question
