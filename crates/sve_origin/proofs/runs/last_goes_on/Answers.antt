use Rattle.sve_origin.proofs.Growth.{last_begins, last_goes, some_segment}
use Rattle.sve_origin.proofs.runs.last_goes_on.Goals as goal

pub goes_on-requires : goal.goes_on-requires
goes_on-requires c = last_begins c.args.segments.now c.args.end c.index-segments-segments.result c.requires (some_segment _ c.is_empty.ensures c.if-is_empty.false) c.index-segments-segments.is

pub returns : goal.returns
returns c = λ t. last_goes c.args.segments.now c.args.end c.index-segments-segments.result _ (some_segment _ c.is_empty.ensures c.if-is_empty.false) c.index-segments-segments.is (c.goes_on.ensures t)
