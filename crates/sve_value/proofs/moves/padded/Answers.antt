use Rattle.std.proofs.lemmas.Nat.Bits.{bit_at_above}
use Rattle.sve_value.proofs.Windows.{padded_low, padded_high}
use Rattle.sve_value.proofs.moves.padded.Goals as goal

pub returns-then-set-clause-below : goal.returns-then-set-clause-below
returns-then-set-clause-below c i l = rw c.mask.ensures (padded_low c.args.width c.args.word i l)

pub returns-then-set-clause-above : goal.returns-then-set-clause-above
returns-then-set-clause-above c i l k = rw (c.mask.ensures, c.if-set.true) (padded_high c.args.width c.args.word i c.requires.fits l k)

pub returns-else-set-clause-above : goal.returns-else-set-clause-above
returns-else-set-clause-above c i l k = rw c.if-set.false (bit_at_above c.args.word c.args.width i c.requires.fits l)
