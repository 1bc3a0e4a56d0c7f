-- What the pairs so far give.
use Rattle.std.proofs.Common.{◌≡◌, take}
use Rattle.sve_child.specs.Faces.{faces_given}
use Rattle.sve_child.proofs.faces.faces_given.Given as goal

abbrev pub invariant-pairs : goal.invariant-pairs
invariant-pairs g l = l.faces ≡ faces_given l.words (g.I.Instances.modports l.instances) l.contents l.ports l.instance (take l.pair-index l.pairs)
