use Rattle.sve_value.proofs.Places.{raised_low, raised_high, raised_low_set, raised_high_set}
use Rattle.sve_value.proofs.bits.raised.Goals as goal

pub returns-then-set-clause-below : goal.returns-then-set-clause-below
returns-then-set-clause-below c i l = rw c.if-set.true (raised_low_set c.args.word c.args.by i c.requires l)

pub returns-then-set-clause-above : goal.returns-then-set-clause-above
returns-then-set-clause-above c i l k = raised_high_set c.args.word c.args.by i c.requires l k

pub returns-else-set-clause-below : goal.returns-else-set-clause-below
returns-else-set-clause-below c i l = rw c.if-set.false (raised_low c.args.word c.args.by i c.requires l)

pub returns-else-set-clause-above : goal.returns-else-set-clause-above
returns-else-set-clause-above c i l k = raised_high c.args.word c.args.by i l k
