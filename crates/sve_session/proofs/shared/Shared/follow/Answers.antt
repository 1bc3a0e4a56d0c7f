use Rattle.std.proofs.Common.{ap}
use Rattle.sve_board.specs.Values.{WriterValue}
use Rattle.sve_session.proofs.Tells.{gone_on, not_behind}
use Rattle.sve_session.proofs.shared.Shared.follow.Goals as goal

pub returns-clause-pass : goal.returns-clause-pass
returns-clause-pass g c = gone_on c.args.pass.now c.meet_log-2.new.pass c.meet_log.new.writer.log c.meet_log-2.ensures.met g.P.Plan.board.table c.requires.pass

pub returns-clause-earlier : goal.returns-clause-earlier
returns-clause-earlier g c = gone_on c.args.earlier.now c.meet_log.new.pass c.args.self.now.writer.log c.meet_log.ensures.met g.P.Plan.board.table c.requires.earlier

pub returns-clause-not_below : goal.returns-clause-not_below
returns-clause-not_below g c =
    not_behind c.args.earlier.now c.meet_log.new.pass c.args.pass.now c.meet_log-2.new.pass c.args.self.now.writer.log c.meet_log.new.writer.log c.meet_log.ensures.met c.meet_log-2.ensures.met (ap (λ (w : WriterValue). w.log) c.meet_log.ensures.writer)
