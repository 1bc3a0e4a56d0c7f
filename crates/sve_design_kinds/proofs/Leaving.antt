-- A call that gives a value of its own is left with what a call in it was left with.
use Rattle.std.proofs.Common.{◌≡◌, Result, Err, sym, ap, ◌∙◌, subst}
use Rattle.sve_fault.specs.declared.fuel.Fuel.{Fuel}
use Rattle.sve_told.specs.Told.{Sight}
use Rattle.sve_plan.specs.declared.stop.Stop.{Stop}
use Rattle.sve_plan.specs.Plan.{Plan, and_then}
use Rattle.sve_plan.specs.Follows.{Follows, Reaches}
use Rattle.sve_plan.proofs.Steps.{stops}

pub leaves_with : {Q : Type 0} {A : Q → Type 0} {W : Type 0} (sight : Sight A W) (itself : (w : W) → sight.keeps w w) (keeps_on : (old now new : W) → sight.keeps old now → sight.keeps now new → sight.keeps old new) {X Y : Type 0} {old now : W} {before between : Fuel} {whole : Plan A Y}
    (new : W) (after : Fuel) (plan : Plan A X) (next : X → Plan A Y) (stop left : Stop) (end : Result Y Stop) → end ≡ Err left → left ≡ stop → Reaches sight old now before between whole (and_then plan next) → Follows sight now new between after plan (Err stop) → Follows sight old new before after whole end
leaves_with sight itself keeps_on {Y = Y} {old = old} {before = before} {whole = whole} new after plan next stop left end is same reaches call =
    subst (λ (e : Result Y Stop). Follows sight old new before after whole e) (sym (is ∙ ap Err same)) (stops sight itself keeps_on new after plan next stop reaches call)
