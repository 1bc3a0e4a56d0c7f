use Rattle.sve_value.proofs.Places.{set_digit}
use Rattle.sve_value.proofs.bits.repeated.Goals as goal

pub returns-then-set : goal.returns-then-set
returns-then-set c i l = rw c.if-set.true (set_digit i l)
