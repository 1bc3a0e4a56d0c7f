use Rattle.std.proofs.Common.{ap, ◌∙◌, ◌+◌, ◌-◌, ◌≡◌, arith, length, take, drop, length-take}
use Rattle.sve_unread.proofs.Nested.{count_fits, line_is, line_kept}
use Rattle.sve_unread.proofs.frame.Frame.line_behind.Goals as goal
use Rattle.sve_unread.proofs.frame.Frame.line_behind.Goals.{After-line_feeds}

piece : (c : After-line_feeds) → take (c.args.self.now.at + c.args.count - c.args.self.now.at) (drop c.args.self.now.at c.items-text.result.now) ≡ take c.args.count (drop c.args.self.now.at c.args.self.now.text.value)
piece c =
    let n : c.args.self.now.at + c.args.count - c.args.self.now.at ≡ c.args.count = omega arith in
    ap (λ k. take k (drop c.args.self.now.at c.items-text.result.now)) n ∙ ap (λ t. take c.args.count (drop c.args.self.now.at t)) (c.items-text.ensures ∙ c.deref.ensures)

pub overflow_add-result : goal.overflow_add-result
overflow_add-result c =
    let bytes = take (c.args.self.now.at + c.args.count - c.args.self.now.at) (drop c.args.self.now.at c.items-text.result.now) in
    let fits = count_fits c.args.self.now c.args.count c.line_feeds.result bytes c.requires.open c.if-self.true c.requires.within c.line_feeds.ensures.bound (omega (arith, length-take c.args.count (drop c.args.self.now.at c.args.self.now.text.value), ap length (piece c))) in omega arith

pub returns-then-self : goal.returns-then-self
returns-then-self c = line_is c.args.self.now c.args.count c.line_feeds.result _ c.if-self.true c.line_feeds.ensures.count (piece c)

pub returns-else-self : goal.returns-else-self
returns-else-self c = line_kept c.args.self.now c.args.count c.if-self.false
