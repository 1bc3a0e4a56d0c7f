-- What is to be said of the instances so far.
use Rattle.std.proofs.Common.{◌≡◌, take, map}
use Rattle.sve_design.specs.Places.{deep_note}
use Rattle.sve_design.proofs.deep.notes_of.Given as goal

abbrev pub invariant-children : goal.invariant-children
invariant-children l = l.notes.items ≡ map (deep_note l.own) (take l.child-index l.children)
