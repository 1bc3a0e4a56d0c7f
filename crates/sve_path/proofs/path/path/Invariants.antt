use Rattle.std.proofs.Common.{◌≡◌}
use Rattle.sve_select.specs.Pieces.{pieced}
use Rattle.sve_path.specs.Paths.{pieces_behind, begun}
use Rattle.sve_path.proofs.path.path.Given as goal

abbrev pub invariant-steps : goal.invariant-steps
invariant-steps g l =
    pieces_behind (g.E.Env.told l.env) l.name (pieced l.before) l.step-iterator.rest.items ≡ pieces_behind (g.E.Env.told l.env) l.name (begun (g.E.Env.told l.env) l.name) l.fn.steps.items
