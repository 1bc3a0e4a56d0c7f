use Rattle.std.proofs.Common.{ap, ◌∙◌, length, refl}
use Rattle.sve_origin.specs.Origins.{Origin}
use Rattle.sve_origin.proofs.Marks.{moved-zero}
use Rattle.sve_unread.specs.Bytes.{laid}
use Rattle.sve_unread.proofs.Nested.{opens, opened}
use Rattle.sve_unread.proofs.stack.Stack.open.Goals as goal

pub invariant_of-self : goal.invariant_of-self
invariant_of-self c =
    rw c.in_ok-push.ensures.items (opens c.self.inside.texts.items _ c.args.self.now (length c.items.result.now) c.self.invariant c.self.view_is c.requires.deeper refl c.if-not-is_empty.true c.is_empty.ensures (ap length (c.items.ensures ∙ c.deref.ensures)) c.requires.short c.requires.offsets c.requires.lines c.requires.shallow)

pub returns-in_ok-push-clause-opened : goal.returns-in_ok-push-clause-opened
returns-in_ok-push-clause-opened c =
    let o : Origin = record { file = c.args.place.file; offset = c.args.place.offset; copied = c.args.copied } in
    opened _ _ _ c.args.text.value o c.args.self.now c.in_ok-push.ensures.items c.self.view_is (ap (λ (p : Origin). laid c.args.text.value p c.args.line c.args.macros c.args.level) (moved-zero o))
