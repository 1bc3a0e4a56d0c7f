use Rattle.std.proofs.Common.{sym, ◌∙◌, ap, refl, get_or, drop, ◌≡◌}
use Rattle.sve_directive.specs.Define.{continues, joined}
use Rattle.sve_directive.proofs.JoinLemmas.{joined-kept, joined-dropped}
use Rattle.sve_directive.proofs.define.join_lines.Goals as goal
use Rattle.sve_directive.proofs.define.join_lines.Goals.{then-not-is_continuing+in_ok-push, else-not-is_continuing}

pub loop-i-preserved : goal.loop-i-preserved
loop-i-preserved c =
    let here : continues (drop c.loop-i.i c.args.text.now) ≡ c.is_continuing.result = ap continues (sym c.past.ensures) ∙ sym c.is_continuing.ensures in
    elim c.if-not-is_continuing.branch [
      | then-not-is_continuing+in_ok-push w ↦ joined-kept c.args.text.now c.loop-i.i (get_or c.args.text.now c.loop-i.i 0) c.loop-i.out.items c.if-not-is_continuing.out.items (joined c.args.text.now) c.loop-i-test.true refl (here ∙ w.if-not-is_continuing.true) (ap (λ v. v.items) w.out-is ∙ w.in_ok-push.ensures.items) c.loop-i.invariant
      | else-not-is_continuing w ↦ rw w.out-is (joined-dropped c.args.text.now c.loop-i.i c.loop-i.out.items (joined c.args.text.now) c.loop-i-test.true (here ∙ w.if-not-is_continuing.false) c.loop-i.invariant)
    ]
