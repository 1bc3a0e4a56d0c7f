-- What those so far make of the first.
use Rattle.std.proofs.Common.{◌≡◌, take}
use Rattle.std.specs.List.{fold}
use Rattle.sve_nested.specs.Blocks.{with_announced}
use Rattle.sve_nested.proofs.entering.announcing_all.Given as goal

abbrev pub invariant-announced : goal.invariant-announced
invariant-announced l = l.contents ≡ fold with_announced l.fn.contents (take l.one-index l.announced)
