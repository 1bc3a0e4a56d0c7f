-- What was added so far, and what the parameters that are left add, is what all add.
use Rattle.std.proofs.Common.{◌≡◌, ◌++◌, drop}
use Rattle.std.specs.List.{flat_map}
use Rattle.sve_header.specs.Parameters.{final_value}
use Rattle.sve_header.proofs.parameters.final_values.Given as goal

abbrev pub invariant-loop-resolved : goal.invariant-loop-resolved
invariant-loop-resolved l = l.values.items ++ flat_map final_value (drop l.resolved-index l.parameters) ≡ flat_map final_value l.parameters
