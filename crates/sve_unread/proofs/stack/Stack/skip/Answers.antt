use Rattle.std.proofs.Common.{ap, ◌∙◌, ◌-◌, length}
use Rattle.sve_unread.specs.Frames.{left_of_all}
use Rattle.sve_unread.proofs.Nested.{moves, Moves, passes, Passes, not_at_end, lower_along}
use Rattle.sve_unread.proofs.stack.Stack.skip.Goals as goal
use Rattle.sve_unread.proofs.stack.Stack.skip.Goals.{After-index_mut-top, After-pass}

facts : (c : After-index_mut-top) → Moves c.self.inside.texts.items c.args.self.now c.index_mut-top.result.now (c.len-last.result - 1) c.args.count
facts c = moves c.self.inside.texts.items c.args.self.now c.index_mut-top.result.now (c.len-last.result - 1) c.args.count c.self.view_is c.self.invariant c.if-count-gt0.true c.requires (ap (λ k. k - 1) (c.len-last.ensures ∙ c.self.inside.texts.ok.0)) c.index_mut-top.ensures.value

pub pass-requires-clause-open : goal.pass-requires-clause-open
pass-requires-clause-open c = (facts (goal.at.pass-requires-clause-open c).After-index_mut-top).is_open

pub pass-requires-clause-within : goal.pass-requires-clause-within
pass-requires-clause-within c = (facts (goal.at.pass-requires-clause-within c).After-index_mut-top).within

gone : (c : After-pass) → Passes c.self.inside.texts.items c.args.self.now c.pass.new.self (length c.pass.new.self.text.value) (c.len-last.result - 1) c.args.count
gone c = passes c.self.inside.texts.items c.args.self.now c.index_mut-top.result.now c.pass.new.self (c.len-last.result - 1) c.args.count (moves c.self.inside.texts.items c.args.self.now c.index_mut-top.result.now (c.len-last.result - 1) c.args.count c.self.view_is c.self.invariant c.if-count-gt0.true c.requires (ap (λ k. k - 1) (c.len-last.ensures ∙ c.self.inside.texts.ok.0)) c.index_mut-top.ensures.value) c.pass.ensures

pub invariant_of-self : goal.invariant_of-self
invariant_of-self c = rw c.truncate.ensures.items (gone (goal.at.invariant_of-self c).After-pass).end_nested

pub invariant_of-self-else-top-items : goal.invariant_of-self-else-top-items
invariant_of-self-else-top-items c =
    (gone (goal.at.invariant_of-self-else-top-items c).After-pass).on_nested
    (not_at_end c.index_mut-top.result.now c.args.count c.pass.new.self c.items.result.now c.pass.ensures (facts (goal.at.invariant_of-self-else-top-items c).After-index_mut-top).within (c.items.ensures ∙ c.deref.ensures) c.if-top-items.false)

pub returns-then-top-items-clause-rest : goal.returns-then-top-items-clause-rest
returns-then-top-items-clause-rest c =
    ap left_of_all c.truncate.ensures.items
    ∙ (gone (goal.at.returns-then-top-items-clause-rest c).After-pass).end_left (c.if-top-items.true ∙ ap length (c.items.ensures ∙ c.deref.ensures))

pub returns-else-top-items-clause-rest : goal.returns-else-top-items-clause-rest
returns-else-top-items-clause-rest c = (gone (goal.at.returns-else-top-items-clause-rest c).After-pass).on_left

pub returns-then-top-items-clause-lower : goal.returns-then-top-items-clause-lower
returns-then-top-items-clause-lower c =
    lower_along c.self.inside.texts.items c.args.count c.args.self.now _ c.self.invariant c.self.view_is
    (ap left_of_all c.truncate.ensures.items
    ∙ (gone (goal.at.returns-then-top-items-clause-lower c).After-pass).end_left (c.if-top-items.true ∙ ap length (c.items.ensures ∙ c.deref.ensures)))

pub returns-else-top-items-clause-lower : goal.returns-else-top-items-clause-lower
returns-else-top-items-clause-lower c =
    lower_along c.self.inside.texts.items c.args.count c.args.self.now _ c.self.invariant c.self.view_is (gone (goal.at.returns-else-top-items-clause-lower c).After-pass).on_left
