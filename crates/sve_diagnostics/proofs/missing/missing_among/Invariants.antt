use Rattle.std.proofs.Common.{◌≡◌, take}
use Rattle.std.specs.List.{flat_map}
use Rattle.sve_hier.specs.Places.{entry_at}
use Rattle.sve_diagnostics.specs.Missing.{missing_of}
use Rattle.sve_diagnostics.proofs.missing.missing_among.Given as goal

abbrev pub invariant-instances : goal.invariant-instances
invariant-instances l = l.notes.items ≡ flat_map (missing_of (entry_at l.hierarchy)) (take l.instance-index l.instances)
