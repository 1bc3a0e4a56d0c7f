-- The scope so far is what the arguments so far make of the first.
use Rattle.std.proofs.Common.{◌≡◌, take}
use Rattle.sve_instance.specs.Connections.{names_used}
use Rattle.sve_instance.proofs.connections.names_used.Given as goal

abbrev pub invariant-arguments : goal.invariant-arguments
invariant-arguments l = l.contents ≡ names_used l.words l.fn.contents (take l.argument-index l.arguments)
