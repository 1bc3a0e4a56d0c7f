use Rattle.std.proofs.Common.{arith}
use Rattle.sve_types.proofs.Counts.{repeated_more}
use Rattle.sve_select.proofs.Types.{elements_all}
use Rattle.sve_select.proofs.extent.element_count.Goals as goal

pub dimensions-preserved : goal.dimensions-preserved
dimensions-preserved c = record {
  is_whole = repeated_more _ _ _ _ _ _ _ c.dimensions-test.true c.place_count.ensures c.saturating_mul-total.ensures c.dimensions.invariant.is_whole;
  is_counted = omega arith;
}

pub returns : goal.returns
returns c = elements_all _ _ _ c.dimensions-test.false c.dimensions.invariant.is_counted c.dimensions.invariant.is_whole
