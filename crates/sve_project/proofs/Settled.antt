-- What a call gives that follows a plan, where the object that it reads through tells every question's answer.
use Rattle.std.proofs.Common.{◌≡◌, ℕ, ◌-◌, ◌^◌, Bool, true, false, cond, List, Some, Result, Ok, Err, IfOk, nat_le, refl, ap, sym, ◌∙◌}
use Rattle.sve_io.specs.declared.halt.Halt.{Halt}
use Rattle.sve_spec.specs.declared.spec.Spec.{Spec}
use Rattle.sve_facts.specs.declared.facts.Facts.{Facts}
use Rattle.sve_facts.specs.declared.facts.Port.{Port}
use Rattle.sve_facts.specs.declared.bodies.Body.{Body}
use Rattle.sve_facts.specs.Bodies.{BodyValue, Costs, CostsMore, OfBody, answer_of, body_value}
use Rattle.sve_plan.specs.Plan.{Done, Outcome, Over, Plan, run}
use Rattle.sve_settled.specs.Settled.{settled, told_all}
use Rattle.sve_settled.proofs.Settled.{settles}
use Rattle.sve_look.specs.Questions.{Question}
use Rattle.sve_elaborate.specs.Bodies.{elaborated, header_ports, outcome_value}
use Rattle.sve_project.specs.Projects.{ProjectValue}
use Rattle.sve_project.specs.Replies.{body_of, design_of, ports_of, reply_but_ports, reply_in}

-- ---- a plan that is done has its one value

abbrev done_is : {X : Type 0} → X → ℕ → Outcome Question X
done_is x used = Done x used

value_within : {X : Type 0} (b : Bool) (x y : X) (cost used : ℕ) → cond b (done_is x used) Over ≡ done_is y cost → y ≡ x
value_within true x y cost used is = cc
value_within false x y cost used is = cc

pub value_is : {A : Question → Type 0} {X : Type 0} (reply : (q : Question) → A q) (most : ℕ) (plan : Plan A X) (x : X) (cost : ℕ) → run (told_all reply) most 0 plan ≡ done_is x cost → x ≡ (settled reply 0 plan).1
value_is reply most plan x cost is =
    value_within (nat_le (settled reply 0 plan).0 most) (settled reply 0 plan).1 x cost (settled reply 0 plan).0 (sym (settles plan reply most) ∙ is)

-- ---- a body, with its cost or with too little fuel

within_value : (b : Bool) (facts : Facts) (cost : ℕ) → outcome_value (cond b (Done facts cost) Over) ≡ Some (cond b (Costs facts cost) CostsMore)
within_value true facts cost = refl
within_value false facts cost = refl

some_is : (x y : BodyValue) → Some x ≡ Some y → x ≡ y
some_is x y is = cc

pub answer_is : (p : ProjectValue) (spec : Spec) (fuel : ℕ) (body : BodyValue) → outcome_value (run (told_all (reply_in p)) fuel 0 (elaborated spec)) ≡ Some body → body ≡ answer_of (design_of p) (OfBody spec fuel)
unfolding design_of
answer_is p spec fuel body is =
    some_is body _ (sym is ∙ ap outcome_value (settles (elaborated spec) (reply_in p) fuel) ∙ within_value (nat_le (body_of p spec).0 fuel) (body_of p spec).1 (body_of p spec).0)

-- ---- as what a call gives

pub body_is : (p : ProjectValue) (spec : Spec) (fuel : ℕ) (result : Result Body Halt)
    → IfOk result (λ body. outcome_value (run (told_all (reply_in p)) fuel 0 (elaborated spec)) ≡ Some (body_value body))
    → IfOk result (λ body. body_value body ≡ answer_of (design_of p) (OfBody spec fuel))
body_is p spec fuel (Ok body) is = answer_is p spec fuel (body_value body) is
body_is p spec fuel (Err halt) is = tt

pub ports_are : (p : ProjectValue) (spec : Spec) (result : Result (List Port) Halt)
    → IfOk result (λ ports. (cost : ℕ) × (run (told_all (reply_but_ports p)) (2 ^ 64 - 1) 0 (header_ports spec) ≡ Done ports cost))
    → IfOk result (λ ports. ports ≡ ports_of p spec)
unfolding ports_of
ports_are p spec (Ok ports) is = value_is (reply_but_ports p) (2 ^ 64 - 1) (header_ports spec) ports is.0 is.1
ports_are p spec (Err halt) is = tt
