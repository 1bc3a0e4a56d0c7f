-- The scope so far is what the arguments so far make of the first.
use Rattle.std.proofs.Common.{◌≡◌, take}
use Rattle.sve_instance.specs.Around.{seen_in}
use Rattle.sve_instance.specs.Unknown.{unknown_arguments}
use Rattle.sve_instance.proofs.unknown.unknown_arguments.Given as goal

abbrev pub invariant-arguments : goal.invariant-arguments
invariant-arguments g l = l.contents ≡ unknown_arguments (seen_in l.text.packages.now l.text.words.now (g.I.Instances.interfaces l.instances) l.at) l.text.words.now l.fn.contents (take l.argument-index l.arguments)
