-- What is wrong with the pairs so far is said.
use Rattle.std.proofs.Common.{◌≡◌, take}
use Rattle.sve_child.specs.Faces.{pairs_said}
use Rattle.sve_child.proofs.faces.pairs_said.Given as goal

abbrev pub invariant-pairs : goal.invariant-pairs
invariant-pairs g l = l.contents ≡ pairs_said l.text.packages.now l.text.words.now (g.I.Instances.modports l.instances) l.ports l.instance l.fn.contents (take l.pair-index l.pairs)
