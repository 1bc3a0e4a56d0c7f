-- What was added so far, and those that are left, are all of them.
use Rattle.std.proofs.Common.{◌≡◌, ◌++◌, drop, map}
use Rattle.sve_item_names.specs.Items.{instance_name}
use Rattle.sve_item_names.proofs.items.in_instances.Given as goal

abbrev pub invariant-loop-instance : goal.invariant-loop-instance
invariant-loop-instance l = l.found.items ++ map instance_name (drop l.instance-index l.instances) ≡ l.initial.found.items ++ map instance_name l.instances
