use Rattle.std.proofs.Common.{sym, ap, ◌∙◌}
use Rattle.sve_unread.proofs.Nested.{top_says}
use Rattle.sve_unread.proofs.stack.Stack.offset.Goals as goal

pub offset_now-requires : goal.offset_now-requires
offset_now-requires c = c.top.ensures.is_open

pub returns : goal.returns
returns c = c.offset_now.ensures ∙ sym (ap (λ o. o.offset) (top_says _ _ c.top.ensures).origin)
