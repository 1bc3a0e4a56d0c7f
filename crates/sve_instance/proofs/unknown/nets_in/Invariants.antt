-- The nets so far, and those in the arguments that are left, are all of them.
use Rattle.std.proofs.Common.{◌≡◌, ◌++◌, drop}
use Rattle.std.specs.List.{flat_map}
use Rattle.sve_instance.specs.Unknown.{argument_nets}
use Rattle.sve_instance.proofs.unknown.nets_in.Given as goal

abbrev pub invariant-loop-argument : goal.invariant-loop-argument
invariant-loop-argument g l = l.nets.items ++ flat_map (argument_nets (g.A.Around.seen l.around)) (drop l.argument-index l.arguments) ≡ flat_map (argument_nets (g.A.Around.seen l.around)) l.arguments
