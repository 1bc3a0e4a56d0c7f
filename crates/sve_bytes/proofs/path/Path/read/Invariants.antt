use Rattle.std.proofs.Common.{◌≤◌, take}
use Rattle.std.specs.List.{slice_range}
use Rattle.sve_bytes.specs.PathStages.{Stands}
use Rattle.sve_bytes.proofs.PathFronts.{SpellsDotted}
use Rattle.sve_bytes.proofs.path.Path.read.Given as goal

abbrev pub invariant-bytes : goal.invariant-bytes
invariant-bytes l = record {
  order : l.start ≤ l.at;
  stands : Stands (slice_range l.text l.start l.at) l.stage;
  front : SpellsDotted (take l.start l.text) l.steps.items;
}
