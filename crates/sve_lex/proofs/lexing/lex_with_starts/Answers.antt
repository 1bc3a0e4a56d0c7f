use Rattle.sve_origin.specs.Origins.{cells}
use Rattle.sve_lex.proofs.Starts.{begun_each, begun_rise}
use Rattle.sve_lex.proofs.lexing.lex_with_starts.Goals as goal

pub returns-clause-one_each : goal.returns-clause-one_each
returns-clause-one_each c = begun_each (cells c.segments-segments.result.now c.bytes-bytes.result.now) c.tokens_of.result c.tokens_of.ensures.tokens c.tokens_of.ensures.starts

pub returns-clause-rise : goal.returns-clause-rise
returns-clause-rise c = begun_rise (cells c.segments-segments.result.now c.bytes-bytes.result.now) c.tokens_of.result c.tokens_of.ensures.starts
