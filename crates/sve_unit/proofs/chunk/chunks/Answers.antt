use Rattle.std.proofs.Common.{arith}
use Rattle.sve_unit.proofs.Parts.{finished, pushed}
use Rattle.sve_unit.proofs.chunk.chunks.Goals as goal

pub cut-preserved : goal.cut-preserved
cut-preserved c = (pushed c.cut.chunks.items c.push.new.self.items c.cut.from c.chunk_end-to.result c.args.tokens.now (omega arith) c.chunk_end-to.ensures.size c.in_ok-push.ensures.items c.cut.invariant.0, c.chunk_end-to.ensures.inside)

pub returns : goal.returns
returns c = finished c.cut.chunks.items c.cut.from c.args.tokens.now (omega arith) c.cut.invariant.0
