use Rattle.sve_kinds.proofs.Calls.{missing}
use Rattle.sve_kinds.proofs.asking.ask.Goals as goal

pub returns-clause-halted : goal.returns-clause-halted
returns-clause-halted g c = λ told m none j is. missing told (g.F.Fetch.tells c.args.from.now) (g.F.Fetch.halted c.args.from.now) c.args.key.now j m none (c.fetch.ensures.halted j is)
