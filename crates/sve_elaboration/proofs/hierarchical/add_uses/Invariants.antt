-- What was added so far is the names so far.
use Rattle.std.proofs.Common.{◌≡◌, ◌++◌, map, take}
use Rattle.sve_elaboration.specs.Hierarchical.{use_in}
use Rattle.sve_elaboration.proofs.hierarchical.add_uses.Given as goal

abbrev pub invariant-names : goal.invariant-names
invariant-names l = l.uses.items ≡ l.initial.uses.items ++ map (use_in l.path) (take l.name-index l.names)
