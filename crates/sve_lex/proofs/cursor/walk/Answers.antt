use Rattle.sve_lex.specs.Spots.{spot_of}
use Rattle.sve_lex.proofs.Spots.{walk_end}
use Rattle.sve_lex.proofs.cursor.walk.Goals as goal

pub returns-then-is_before-clause-spot : goal.returns-then-is_before-clause-spot
returns-then-is_before-clause-spot c = walk_end c.args.n (spot_of c.jump-last.result c.args.segments.now) (spot_of c.step.result c.args.segments.now) (spot_of c.args.from c.args.segments.now) c.requires.filled c.jump-last.ensures.spot c.step.ensures.spot

pub returns-clause-spot : goal.returns-clause-spot
returns-clause-spot c = walk_end c.args.n (spot_of c.creep-copied.result.0 c.args.segments.now) (spot_of c.step-2.result c.args.segments.now) (spot_of c.args.from c.args.segments.now) c.requires.filled c.creep-copied.ensures.spot c.step-2.ensures.spot
