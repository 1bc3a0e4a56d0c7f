use Rattle.std.proofs.Common.{◌≡◌, take}
use Rattle.std.specs.List.{flat_map}
use Rattle.std.specs.Ordering.{nat_cmp}
use Rattle.std.specs.Cmp.Lexicographic.{slice_cmp}
use Rattle.std.specs.BTreeSet.{contains}
use Rattle.sve_survey.specs.Lint.{port_if}
use Rattle.sve_survey.proofs.unconnections.ports_in.Given as goal

abbrev pub invariant-ports : goal.invariant-ports
invariant-ports l = l.found.items ≡ flat_map (port_if (contains (slice_cmp nat_cmp) l.named)) (take l.port-index l.ports)
