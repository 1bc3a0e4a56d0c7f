use Rattle.std.proofs.Common.{◌≡◌, map, take}
use Rattle.sve_hier.specs.Instances.{instance_value}
use Rattle.sve_diagnostics.specs.Missing.{instance_of}
use Rattle.sve_diagnostics.proofs.missing.opened_all.Given as goal

abbrev pub invariant-instances : goal.invariant-instances
invariant-instances l = map instance_value l.all.items ≡ map instance_of (take l.instance-index l.instances)
