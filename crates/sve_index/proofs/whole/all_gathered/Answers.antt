use Rattle.std.proofs.Common.{arith}
use Rattle.sve_index.specs.Gathered.{after, nothing_gathered}
use Rattle.sve_index.proofs.Added.{folded_more}
use Rattle.sve_index.proofs.whole.all_gathered.Goals as goal

pub loop-source-preserved : goal.loop-source-preserved
loop-source-preserved c = folded_more after nothing_gathered c.loop-source.gathered c.in_ok-gathered.gathered c.args.elements.now c.loop-source.source-index c.source-item.result (omega arith) c.source-item.is c.in_ok-gathered.ensures c.loop-source.invariant
