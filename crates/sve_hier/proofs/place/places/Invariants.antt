use Rattle.std.proofs.Common.{◌≡◌, map, take}
use Rattle.sve_hier.specs.Instances.{instance_value}
use Rattle.sve_hier.specs.Places.{places}
use Rattle.sve_hier.proofs.place.places.Given as goal

abbrev pub invariant-instances : goal.invariant-instances
invariant-instances l = l.places.items ≡ places (map instance_value (take l.instance-index l.instances))
