-- What was added so far, and the parameters that are left, are all of them.
use Rattle.std.proofs.Common.{◌≡◌, ◌++◌, drop, map}
use Rattle.sve_formal.specs.Formals.{assignment_formal}
use Rattle.sve_formal.proofs.items.in_assignments.Given as goal

abbrev pub invariant-loop-assignment : goal.invariant-loop-assignment
invariant-loop-assignment l = l.found.items ++ map (assignment_formal l.is_local) (drop l.assignment-index l.assignments) ≡ l.initial.found.items ++ map (assignment_formal l.is_local) l.assignments
