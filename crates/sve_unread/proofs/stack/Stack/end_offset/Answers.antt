use Rattle.std.proofs.Common.{sym, ◌∙◌}
use Rattle.sve_unread.proofs.Nested.{top_end}
use Rattle.sve_unread.proofs.stack.Stack.end_offset.Goals as goal

pub end_offset-requires : goal.end_offset-requires
end_offset-requires c = c.top.ensures.is_open

pub returns : goal.returns
returns c = c.end_offset.ensures ∙ sym (top_end _ _ c.top.ensures)
