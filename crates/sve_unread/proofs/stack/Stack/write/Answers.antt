use Rattle.std.proofs.Common.{◌≡◌, ◌-◌, ◌+◌, ap, ◌∙◌, arith, length, length-drop, take, drop, ◌++◌}
use Rattle.std.proofs.lemmas.Result.{on_ok_weaker}
use Rattle.sve_unread.proofs.Nested.{top_ahead, top_cells, written}
use Rattle.sve_unread.proofs.stack.Stack.write.Goals as goal

pub slice_bounds-piece-end : goal.slice_bounds-piece-end
slice_bounds-piece-end c =
    let m = c.top-top.ensures.is_open.more in
    omega (arith, ap length (top_ahead _ _ c.top-top.ensures), length-drop c.top-top.result.now.at c.top-top.result.now.text.value, ap length c.items-text.ensures, ap length c.deref.ensures)

pub returns-clause-written : goal.returns-clause-written
returns-clause-written c =
    let t = c.top-top.result.now in
    let text = c.items-text.ensures ∙ c.deref.ensures in
    let n : t.at + c.args.count - t.at ≡ c.args.count = omega arith in
    let piece : take (t.at + c.args.count - t.at) (drop t.at c.items-text.result.now) ≡ take c.args.count (drop t.at t.text.value) = ap (λ k. take k (drop t.at c.items-text.result.now)) n ∙ ap (λ r. take c.args.count (drop t.at r)) text in
    on_ok_weaker c.push.result (λ e. e ∙ ap (λ r. c.args.out.now ++ r) (written t _ _ _ (top_cells t c.args.self.now c.args.count c.top-top.ensures c.requires.within) piece c.offset_now.ensures)) c.push.ensures.text
