use Rattle.std.proofs.Common.{◌≡◌, ◌++◌, take}
use Rattle.std.specs.List.{flat_map}
use Rattle.sve_hier.specs.Places.{entry_at}
use Rattle.sve_diagnostics.specs.Missing.{missing_in}
use Rattle.sve_diagnostics.proofs.missing.add_missing_in.Given as goal

abbrev pub invariant-uses : goal.invariant-uses
invariant-uses l = l.notes.items ≡ l.initial.notes.items ++ flat_map (missing_in (entry_at l.hierarchy) l.path l.own) (take l.used-index l.uses)
