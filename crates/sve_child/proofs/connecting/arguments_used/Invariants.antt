-- The names in the arguments so far are used.
use Rattle.std.proofs.Common.{◌≡◌, take}
use Rattle.std.specs.List.{fold}
use Rattle.sve_child.specs.Connecting.{argument_used}
use Rattle.sve_child.proofs.connecting.arguments_used.Given as goal

abbrev pub invariant-arguments : goal.invariant-arguments
invariant-arguments l = l.contents ≡ fold (argument_used l.text.packages.now l.text.words.now) l.fn.contents (take l.argument-index l.arguments)
