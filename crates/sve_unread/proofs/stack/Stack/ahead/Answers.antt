use Rattle.std.proofs.Common.{sym, ap, ◌∙◌, drop}
use Rattle.std.proofs.lemmas.List.{take_rest}
use Rattle.sve_unread.proofs.Nested.{top_ahead}
use Rattle.sve_unread.proofs.stack.Stack.ahead.Goals as goal

pub returns : goal.returns
returns c =
    take_rest c.items-text.result.now c.top-top.result.now.at
    ∙ ap (λ t. drop c.top-top.result.now.at t) (c.items-text.ensures ∙ c.deref.ensures)
    ∙ sym (top_ahead _ _ c.top-top.ensures)
