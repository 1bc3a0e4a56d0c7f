-- What is said so far, and behind it what is said of the faults that are left, is what is said of all.
use Rattle.std.proofs.Common.{◌≡◌, ◌++◌}
use Rattle.sve_type_of.specs.TypeOf.{notes_in}
use Rattle.sve_type_of.proofs.said.notes_in.Given as goal

abbrev pub invariant-faults : goal.invariant-faults
invariant-faults g l = l.notes.items ++ notes_in (g.E.Env.told l.env) l.fault-iterator.rest.items ≡ notes_in (g.E.Env.told l.env) l.fn.faults.items
