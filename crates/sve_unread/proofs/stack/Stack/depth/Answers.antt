use Rattle.std.proofs.Common.{sym, ap, ◌∙◌, ◌+◌, arith, length}
use Rattle.sve_unread.proofs.Nested.{top_height}
use Rattle.sve_unread.proofs.stack.Stack.depth.Goals as goal

pub overflow_add-result : goal.overflow_add-result
overflow_add-result c = omega (arith, c.top-top.ensures.is_open.shallow, ap length c.items.ensures)

pub returns : goal.returns
returns c = ap (λ ms. length ms + c.top-top.result.now.level) c.items.ensures ∙ sym (top_height _ _ c.top-top.ensures)
