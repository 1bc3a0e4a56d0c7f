use Rattle.std.proofs.Common.{[], ◌∷◌}
use Rattle.sve_facts.specs.Bodies.{OfBody}
use Rattle.sve_design.proofs.Asked.{first_in, halts_at, if_err}
use Rattle.sve_hier.proofs.bodies.instance_within.Goals as goal

pub returns-in_err-body-clause-halted : goal.returns-in_err-body-clause-halted
returns-in_err-body-clause-halted g c =
    if_err _ (halts_at (g.B.Bodies.tells c.args.bodies.now) (OfBody c.args.visit.now.spec c.args.fuel ∷ []) _ _ (OfBody c.args.visit.now.spec c.args.fuel) (first_in (OfBody c.args.visit.now.spec c.args.fuel) []) c.in_err-body.ensures.halted)
