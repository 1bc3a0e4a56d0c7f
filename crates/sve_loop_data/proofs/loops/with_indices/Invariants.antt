-- The scope so far is what the names so far make of the first.
use Rattle.std.proofs.Common.{◌≡◌, take}
use Rattle.sve_loop_data.specs.Loops.{with_indices}
use Rattle.sve_loop_data.proofs.loops.with_indices.Given as goal

abbrev pub invariant-names : goal.invariant-names
invariant-names l = l.contents ≡ with_indices l.text.words.now l.fn.contents (take l.name-index l.names)
