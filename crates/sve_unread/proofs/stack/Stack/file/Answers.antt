use Rattle.std.proofs.Common.{sym, ap}
use Rattle.sve_unread.proofs.Nested.{top_says}
use Rattle.sve_unread.proofs.stack.Stack.file.Goals as goal

pub returns : goal.returns
returns c = sym (ap (λ o. o.file) (top_says _ _ c.top.ensures).origin)
