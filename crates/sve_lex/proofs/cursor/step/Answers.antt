use Rattle.std.proofs.Common.{arith}
use Rattle.sve_lex.specs.Spots.{origin_at}
use Rattle.sve_lex.proofs.Spots.{step_there}
use Rattle.sve_lex.proofs.cursor.step.Goals as goal

pub returns-then-later-cursor-clause-spot : goal.returns-then-later-cursor-clause-spot
returns-then-later-cursor-clause-spot c =
    step_there c.args.cursor.at (origin_at c.args.cursor c.args.segments.now) c.args.cursor.segment c.args.segments.now c.index-segments-next.result
    (omega arith) c.index-segments-next.is c.if-later-cursor.true
