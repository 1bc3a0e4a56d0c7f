use Rattle.std.proofs.Common.{sym}
use Rattle.sve_unread.proofs.Nested.{top_says}
use Rattle.sve_unread.proofs.stack.Stack.level.Goals as goal

pub returns : goal.returns
returns c = sym (top_says _ _ c.top.ensures).level
