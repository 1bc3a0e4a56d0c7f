use Rattle.std.proofs.Common.{arith}
use Rattle.sve_unread.proofs.Nested.{offset_fits}
use Rattle.sve_unread.proofs.frame.Frame.offset_now.Goals as goal

pub overflow_add-result : goal.overflow_add-result
overflow_add-result c = let m = c.requires.more in omega (arith, offset_fits c.args.self.now c.args.self.now.at c.requires c.if-self.true (omega arith))
