use Rattle.std.proofs.Common.{sym, ap, ◌∙◌, ◌<◌, ◌-◌, ◌≡◌, get_or, length, subst}
use Rattle.sve_unread.specs.Frames.{IsTop}
use Rattle.sve_unread.specs.declared.frame.Frame.{Frame}
use Rattle.sve_unread.proofs.Nested.{IsTop-nested, some_open}
use Rattle.sve_unread.proofs.stack.Stack.top.Goals as goal

pub returns : goal.returns
returns c =
    let fs = c.self.inside.texts.items in
    let n : 0 < length fs = some_open fs c.args.self.now c.self.view_is c.requires in
    let e : c.index.result.now ≡ get_or fs (length fs - 1) c.index.result.now = c.index.ensures ∙ ap (λ k. get_or fs (k - 1) c.index.result.now) (c.len.ensures ∙ c.self.inside.texts.ok.0) in
    subst (λ (f : Frame). IsTop f c.args.self.now) (sym e) (subst (IsTop (get_or fs (length fs - 1) c.index.result.now)) c.self.view_is (IsTop-nested fs c.index.result.now n c.self.invariant))
