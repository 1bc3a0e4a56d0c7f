-- The names that are there, with those that the mentions left instantiate, are those that were there with all of them.
use Rattle.std.proofs.Common.{◌≡◌, drop}
use Rattle.std.specs.List.{flat_map}
use Rattle.sve_table.specs.Tables.{with_items}
use Rattle.sve_index.specs.Instances.{instantiated, itself}
use Rattle.sve_index.proofs.instances.add_instances.Given as goal

abbrev pub invariant-loop-mention : goal.invariant-loop-mention
invariant-loop-mention l = with_items itself l.names (flat_map (instantiated l.words) (drop l.mention-index l.mentions)) ≡ with_items itself l.initial.names (flat_map (instantiated l.words) l.mentions)
