-- What the elements that are left add to what was gathered is what all of them give.
use Rattle.std.proofs.Common.{◌≡◌, drop}
use Rattle.std.specs.List.{fold}
use Rattle.sve_index.specs.Gathered.{after, nothing_gathered}
use Rattle.sve_index.proofs.whole.all_gathered.Given as goal

abbrev pub invariant-loop-source : goal.invariant-loop-source
invariant-loop-source l = fold after l.gathered (drop l.source-index l.elements) ≡ fold after nothing_gathered l.elements
