use Rattle.std.proofs.Common.{arith}
use Rattle.sve_bytes.proofs.PathTexts.{text_first, text_next}
use Rattle.sve_bytes.proofs.path.Path.print.Goals as goal
use Rattle.sve_bytes.proofs.path.Path.print.Goals.{then-i-gt0+in_ok-push, else-i-gt0}

pub steps-preserved : goal.steps-preserved
steps-preserved c =
    elim c.if-i-gt0.branch [
      | then-i-gt0+in_ok-push w ↦
          rw (c.in_ok-append_to.ensures, w.text-is, w.in_ok-push.ensures.items, c.steps.invariant)
          (text_next c.items-step-items.result.now c.steps.i c.step-item.result (omega arith) (omega arith) c.step-item.is)
      | else-i-gt0 w ↦
          rw (c.in_ok-append_to.ensures, w.text-is, c.steps.invariant)
          (text_first c.items-step-items.result.now c.steps.i c.step-item.result (omega arith) (omega arith) c.step-item.is)
    ]
