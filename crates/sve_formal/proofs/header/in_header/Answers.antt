use Rattle.sve_formal.proofs.Lists.{at_end, one_more}
use Rattle.sve_formal.proofs.header.in_header.Goals as goal

pub ports-preserved : goal.ports-preserved
ports-preserved c = one_more c.args.ports.now c.ports.port-index c.port-item.result c.ports.keyword c.keyword_after-keyword.result c.ports.found.items c.push.new.self.items _ c.header_formal.result c.ports-test.true c.port-item.is c.keyword_after-keyword.ensures c.header_formal.ensures c.in_ok-push.ensures.items c.ports.invariant

pub returns : goal.returns
returns c = at_end c.args.ports.now c.ports.port-index c.ports.keyword c.ports.found.items _ c.ports-test.false c.ports.invariant
