use Rattle.std.proofs.Common.{sym, ◌∙◌, subst}
use Rattle.sve_board.specs.Log.{IsClient}
use Rattle.sve_clients.proofs.Places.{new_ready, new_none}
use Rattle.sve_clients.proofs.runs.run_behind.Goals as goal

pub follow-requires-clause-pass : goal.follow-requires-clause-pass
follow-requires-clause-pass g c = new_ready g.P.Plan.board.table c.args.pass.number c.args.pass c.requires.pass

pub run-ran-requires-clause-none : goal.run-ran-requires-clause-none
run-ran-requires-clause-none g c = c.follow.ensures.pass.mine ∙ new_none g.P.Plan.board.table c.args.pass.number c.args.pass c.requires.pass

pub run-ran-requires-clause-client : goal.run-ran-requires-clause-client
run-ran-requires-clause-client g c = subst (IsClient g.P.Plan.board.clients) (sym c.follow.ensures.pass.later.number) c.requires.client

pub returns-clause-ran : goal.returns-clause-ran
returns-clause-ran g c = (c.follow.new.pass, c.follow.ensures.pass.later.number, c.follow.ensures.not_below, record { ready = c.run-ran.ensures.ready; who = c.run-ran.ensures.number; does = c.run-ran.ensures.does })
