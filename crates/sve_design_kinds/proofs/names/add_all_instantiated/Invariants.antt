-- What was added so far, and what the mentions that are left instantiate, is all of it.
use Rattle.std.proofs.Common.{◌≡◌, ◌++◌, drop}
use Rattle.std.specs.List.{flat_map}
use Rattle.sve_design_kinds.specs.Names.{instantiated}
use Rattle.sve_design_kinds.proofs.names.add_all_instantiated.Given as goal

abbrev pub invariant-loop-mention : goal.invariant-loop-mention
invariant-loop-mention l = l.found.items ++ flat_map instantiated (drop l.mention-index l.mentions) ≡ l.initial.found.items ++ flat_map instantiated l.mentions
