-- What is known is what the steps say, and the expressions are those of the loop.
use Rattle.std.proofs.Common.{ℤ, List, Result, subst}
use Rattle.sve_fault.specs.declared.fault.Fault.{Fault}
use Rattle.sve_plan.specs.Plan.{Counted}
use Rattle.sve_plan.specs.Follows.{Meters}
use Rattle.sve_body_construct.proofs.Parts.{values_are}
use Rattle.sve_body_construct.proofs.choosing.loop_values.Goals as goal

pub returns : goal.returns
returns g c =
    subst (λ (found : Counted (Result (List ℤ) Fault)). Meters c.args.fuel.now c.unroll.new.fuel found c.unroll.result)
    (values_are g.S.Work.steps c.args.construct.now c.args.work.now (g.S.Known.Env.told c.known-env.result.now) c.text-genvar.result.now c.deref.result.now c.deref-2.result.now c.known-env.ensures c.text-genvar.ensures c.deref.ensures c.deref-2.ensures) c.unroll.ensures
