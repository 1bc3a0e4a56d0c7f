-- What a call gives that ends as one that follows a plan from the first: each clause by itself.
use Rattle.std.proofs.Common.{◌≡◌, ◌≤◌, ℕ, Some, None, Result, Ok, Err, IfOk, IfErr, OnOk, sym, ap, subst, ◌∙◌}
use Rattle.sve_io.specs.declared.halt.Halt.{Halt}
use Rattle.sve_io.specs.declared.halt.Halt.TheVariants as is_halt
use Rattle.sve_fault.specs.declared.fuel.Fuel.{Fuel}
use Rattle.sve_told.specs.Told.{Told, Holds, Matches, TellSame, HasStopped, asked_on, Sight}
use Rattle.sve_plan.specs.declared.stop.Stop.{Stop}
use Rattle.sve_plan.specs.declared.stop.Stop.TheVariants as is_stop
use Rattle.sve_plan.specs.Plan.{Plan, Done, Give, Needs, run, asks}
use Rattle.sve_plan.specs.Follows.{Follows, Halts, Reaches}
use Rattle.sve_plan.proofs.Steps.{asked_none, none_some}
use Rattle.sve_look.specs.Questions.{Question, Reply}
use Rattle.sve_facts.specs.declared.facts.Facts.{Facts}
use Rattle.sve_facts.specs.declared.bodies.Body.{Body}
use Rattle.sve_facts.specs.declared.bodies.Body.TheVariants as is_body
use Rattle.sve_facts.specs.Bodies.{Costs, CostsWithin, body_value}
use Rattle.sve_elaborate.specs.Bodies.{EndsAs, GivesAs, end_value, outcome_value}

module _ {W X : Type 0} (sight : Sight Reply W) (old new : W) (before after : Fuel) (plan : Plan Reply X) where
  -- ---- whatever it ends with

  pub tells_on : (end : Result X Stop) → Follows sight old new before after plan end → TellSame (sight.tells old) (sight.tells new)
  tells_on (Ok x) call = call.tells
  tells_on (Err is_stop.Over) call = call.tells
  tells_on (Err (is_stop.Halted halt)) call = call.tells

  pub keeps_on : (end : Result X Stop) → Follows sight old new before after plan end → sight.keeps old new
  keeps_on (Ok x) call = call.keeps
  keeps_on (Err is_stop.Over) call = call.keeps
  keeps_on (Err (is_stop.Halted halt)) call = call.keeps

  pub halts_on : (end : Result X Stop) → Follows sight old new before after plan end → (told : Told Reply) → Matches told (sight.tells old) → sight.halted old ≡ None → (q : Question) → sight.halted new ≡ Some q
      → (run told before.most before.used plan ≡ Needs q) × (sight.asked new ≡ asked_on (asks told before.most before.used plan) (sight.asked old))
  halts_on (Ok x) call told matches none q some = absurd (none_some q (sight.halted old) (sight.halted new) call.not_halted none some)
  halts_on (Err is_stop.Over) call told matches none q some = absurd (none_some q (sight.halted old) (sight.halted new) call.not_halted none some)
  halts_on (Err (is_stop.Halted halt)) call told matches none q some = call.needs told matches none q some

module _ {W : Type 0} (sight : Sight Reply W) (old new : W) (before after : Fuel) (plan : Plan Reply Facts) where
  -- what was spent is no more than may be
  pub spent_within : (end : Result Facts Stop) → Follows sight old new before after plan end → IfOk end (λ _. after.used ≤ before.most)
  spent_within (Ok facts) call = subst (λ most. after.used ≤ most) call.most call.fuel.0
  spent_within (Err is_stop.Over) call = tt
  spent_within (Err (is_stop.Halted halt)) call = tt

  -- ---- by the body that is given

  found_by : (end : Result Facts Stop) (body : Body) → Follows sight old new before after plan end → end_value end after.used ≡ Some (body_value body) → (told : Told Reply) → Holds told (sight.tells old) → outcome_value (run told before.most before.used plan) ≡ Some (body_value body)
  unfolding run
  found_by (Ok facts) body call is told holds = ap outcome_value (call.comes told holds) ∙ is
  found_by (Err is_stop.Over) body call is told holds = ap outcome_value (call.over told holds) ∙ is
  found_by (Err (is_stop.Halted halt)) body call is told holds = cc

  pub found_as : (end : Result Facts Stop) (result : Result Body Halt) → Follows sight old new before after plan end → EndsAs end after.used result → (told : Told Reply) → Holds told (sight.tells old) → IfOk result (λ body. outcome_value (run told before.most before.used plan) ≡ Some (body_value body))
  found_as end (Ok body) call is told holds = found_by end body call is told holds
  found_as end (Err halt) call is told holds = tt

  within_by : (most : ℕ) (body : Body) (facts : Facts) → after.used ≤ most → Costs facts after.used ≡ body_value body → CostsWithin most body
  within_by most (is_body.Done facts cost) found le is = let e : after.used ≡ cost = cc in subst (λ used. used ≤ most) e le
  within_by most is_body.Over found le is = tt

  within_end : (end : Result Facts Stop) (body : Body) → Follows sight old new before after plan end → end_value end after.used ≡ Some (body_value body) → CostsWithin before.most body
  within_end (Ok facts) body call is = let e : Costs facts after.used ≡ body_value body = cc in within_by before.most body facts (spent_within (Ok facts) call) e
  within_end (Err is_stop.Over) (is_body.Done facts cost) call is = cc
  within_end (Err is_stop.Over) is_body.Over call is = tt
  within_end (Err (is_stop.Halted halt)) body call is = cc

  pub within_as : (end : Result Facts Stop) (result : Result Body Halt) → Follows sight old new before after plan end → EndsAs end after.used result → IfOk result (CostsWithin before.most)
  within_as end (Ok body) call is = within_end end body call is
  within_as end (Err halt) call is = tt

  asked_by : (end : Result Facts Stop) (body : Body) → Follows sight old new before after plan end → end_value end after.used ≡ Some (body_value body) → (told : Told Reply) → Holds told (sight.tells old) → sight.asked new ≡ asked_on (asks told before.most before.used plan) (sight.asked old)
  unfolding asks
  asked_by (Ok facts) body call is told holds = sym (call.asked told holds ∙ asked_none (sight.asked new))
  asked_by (Err is_stop.Over) body call is told holds = call.asked told holds
  asked_by (Err (is_stop.Halted halt)) body call is told holds = cc

  pub asked_as : (end : Result Facts Stop) (result : Result Body Halt) → Follows sight old new before after plan end → EndsAs end after.used result → (told : Told Reply) → Holds told (sight.tells old) → OnOk result (sight.asked new ≡ asked_on (asks told before.most before.used plan) (sight.asked old))
  asked_as end (Ok body) call is told holds = asked_by end body call is told holds
  asked_as end (Err halt) call is told holds = tt

  not_halted_by : (end : Result Facts Stop) (body : Body) → Follows sight old new before after plan end → end_value end after.used ≡ Some (body_value body) → (sight.halted new ≡ sight.halted old) × (sight.stops new ≡ sight.stops old)
  not_halted_by (Ok facts) body call is = (call.not_halted, call.not_stopped)
  not_halted_by (Err is_stop.Over) body call is = (call.not_halted, call.not_stopped)
  not_halted_by (Err (is_stop.Halted halt)) body call is = cc

  pub not_halted_as : (end : Result Facts Stop) (result : Result Body Halt) → Follows sight old new before after plan end → EndsAs end after.used result → OnOk result (sight.halted new ≡ sight.halted old)
  not_halted_as end (Ok body) call is = (not_halted_by end body call is).0
  not_halted_as end (Err halt) call is = tt

  pub not_stopped_as : (end : Result Facts Stop) (result : Result Body Halt) → Follows sight old new before after plan end → EndsAs end after.used result → OnOk result (sight.stops new ≡ sight.stops old)
  not_stopped_as end (Ok body) call is = (not_halted_by end body call is).1
  not_stopped_as end (Err halt) call is = tt

  stopped_by : (end : Result Facts Stop) (number : ℕ) → Follows sight old new before after plan end → end ≡ Err (is_stop.Halted (is_halt.Stopped number)) → HasStopped (sight.stops old) (sight.stops new) (is_halt.Stopped number)
  stopped_by end number call is = let halts : Halts sight old new before plan (is_halt.Stopped number) = subst (λ (e : Result Facts Stop). Follows sight old new before after plan e) is call in halts.stopped

  pub stopped_as : (end : Result Facts Stop) (result : Result Body Halt) → Follows sight old new before after plan end → EndsAs end after.used result → IfErr result (HasStopped (sight.stops old) (sight.stops new))
  stopped_as end (Ok body) call is = tt
  stopped_as end (Err (is_halt.Stopped number)) call is = stopped_by end number call is
  stopped_as end (Err is_halt.NoMemory) call is = tt

-- ---- by the value that is given

module _ {W X : Type 0} (sight : Sight Reply W) (old new : W) (before after : Fuel) (plan : Plan Reply X) where
  done_by : (end : Result X Stop) (x : X) → Follows sight old new before after plan end → end ≡ Ok x → Reaches sight old new before after plan (Give x)
  done_by end x call is = subst (λ (e : Result X Stop). Follows sight old new before after plan e) is call

  pub value_found : (end : Result X Stop) (result : Result X Halt) → Follows sight old new before after plan end → GivesAs end result → (told : Told Reply) → Holds told (sight.tells old) → IfOk result (λ x. (cost : ℕ) × (run told before.most before.used plan ≡ Done x cost))
  unfolding run
  value_found end (Ok x) call is told holds = (after.used, (done_by end x call is).comes told holds)
  value_found end (Err halt) call is told holds = tt

  pub value_asked : (end : Result X Stop) (result : Result X Halt) → Follows sight old new before after plan end → GivesAs end result → (told : Told Reply) → Holds told (sight.tells old) → OnOk result (sight.asked new ≡ asked_on (asks told before.most before.used plan) (sight.asked old))
  unfolding asks
  value_asked end (Ok x) call is told holds = sym ((done_by end x call is).asked told holds ∙ asked_none (sight.asked new))
  value_asked end (Err halt) call is told holds = tt

  pub value_not_halted : (end : Result X Stop) (result : Result X Halt) → Follows sight old new before after plan end → GivesAs end result → OnOk result (sight.halted new ≡ sight.halted old)
  value_not_halted end (Ok x) call is = (done_by end x call is).not_halted
  value_not_halted end (Err halt) call is = tt

  pub value_not_stopped : (end : Result X Stop) (result : Result X Halt) → Follows sight old new before after plan end → GivesAs end result → OnOk result (sight.stops new ≡ sight.stops old)
  value_not_stopped end (Ok x) call is = (done_by end x call is).not_stopped
  value_not_stopped end (Err halt) call is = tt

  stopped_so : (end : Result X Stop) (number : ℕ) → Follows sight old new before after plan end → end ≡ Err (is_stop.Halted (is_halt.Stopped number)) → Halts sight old new before plan (is_halt.Stopped number)
  stopped_so end number call is = subst (λ (e : Result X Stop). Follows sight old new before after plan e) is call

  pub value_stopped : (end : Result X Stop) (result : Result X Halt) → Follows sight old new before after plan end → GivesAs end result → IfErr result (HasStopped (sight.stops old) (sight.stops new))
  value_stopped end (Ok x) call is = tt
  value_stopped end (Err (is_halt.Stopped number)) call is = (stopped_so end number call is).stopped
  value_stopped end (Err is_halt.NoMemory) call is = tt
