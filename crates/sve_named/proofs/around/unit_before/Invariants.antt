-- The scope so far is what the elements of the chunks so far make of an empty one.
use Rattle.std.proofs.Common.{◌≡◌}
use Rattle.sve_function.specs.Readings.{readings}
use Rattle.sve_unit_scope.specs.Units.{unit_before}
use Rattle.sve_project.specs.Projects.{known_in}
use Rattle.sve_named.specs.Named.{elements_of}
use Rattle.sve_named.proofs.around.unit_before.Given as goal

abbrev pub invariant-chunks : goal.invariant-chunks
invariant-chunks l = l.contents ≡ unit_before readings (known_in l.project) l.file l.chunk (elements_of l.project l.file l.before)
