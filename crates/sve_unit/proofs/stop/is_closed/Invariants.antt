-- No end word so far: it stands among the tokens that are left, or nowhere.
use Rattle.std.proofs.Common.{◌≡◌, drop}
use Rattle.sve_unit.specs.Stops.{is_closed}
use Rattle.sve_unit.proofs.stop.is_closed.Given as goal

abbrev pub invariant-loop-at : goal.invariant-loop-at
invariant-loop-at l = is_closed l.tokens ≡ is_closed (drop l.at l.tokens)
