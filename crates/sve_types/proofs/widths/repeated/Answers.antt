use Rattle.std.proofs.Common.{arith}
use Rattle.sve_types.proofs.Counts.{repeated_more, repeated_all}
use Rattle.sve_types.proofs.widths.repeated.Goals as goal

pub dimensions-preserved : goal.dimensions-preserved
dimensions-preserved c = record {
  is_whole = repeated_more _ _ _ _ _ _ _ c.dimensions-test.true c.places.ensures c.saturating_mul-total.ensures c.dimensions.invariant.is_whole;
  is_counted = omega arith;
}

pub returns : goal.returns
returns c bits e = repeated_all _ _ _ _ _ c.dimensions-test.false c.dimensions.invariant.is_counted e c.dimensions.invariant.is_whole
