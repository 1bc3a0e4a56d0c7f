use Rattle.std.proofs.Common.{◌≡◌}
use Rattle.sve_watch.specs.Looks.{HasLooked}
use Rattle.sve_session.proofs.shared.meet_log.Given as goal

abbrev pub invariant-loop : goal.invariant-loop
invariant-loop g l = (l.writer ≡ l.initial.writer) × HasLooked l.initial.pass l.pass
