-- What was said so far, and the faults that are left, are all that is said.
use Rattle.std.proofs.Common.{◌≡◌}
use Rattle.sve_body.specs.Items.{say_all}
use Rattle.sve_body_construct.proofs.beginning.say_all.Given as goal

abbrev pub invariant-faults : goal.invariant-faults
invariant-faults g l = say_all g.S.Work.steps l.fault-iterator.rest.items l.work ≡ say_all g.S.Work.steps l.fn.faults.items l.fn.work
