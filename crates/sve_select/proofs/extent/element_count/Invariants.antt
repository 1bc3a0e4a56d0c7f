use Rattle.std.proofs.Common.{◌≡◌, ◌*◌, ◌-◌, ◌^◌, ◌≤◌, drop}
use Rattle.sve_types.specs.Dimensions.{element_count}
use Rattle.sve_types.specs.Widths.{counted}
use Rattle.sve_select.proofs.extent.element_count.Given as goal

abbrev pub invariant-dimensions : goal.invariant-dimensions
invariant-dimensions l = record {
  is_whole : counted (l.total * element_count (drop l.range-index l.dimensions)) ≡ counted (element_count l.dimensions);
  is_counted : l.total ≤ 2 ^ 64 - 1;
}
