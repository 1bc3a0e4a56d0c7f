use Rattle.std.proofs.Common.{arith}
use Rattle.sve_lex.proofs.Strings.{further_zero, closes_at_close, closes_at_end, closes_on, both_no, first_no}
use Rattle.sve_lex.proofs.scan.closes.Goals as goal
use Rattle.sve_lex.proofs.scan.closes.Goals.{else-star-via-then-star+else-b-close, else-star-via-else-star}

pub bytes-init : goal.bytes-init
bytes-init c = further_zero _

pub returns-then-b-close : goal.returns-then-b-close
returns-then-b-close c = closes_at_close _ _ _ _ (omega arith) c.bytes.invariant c.if-star.true c.if-b-close.true

pub bytes-preserved : goal.bytes-preserved
bytes-preserved c = closes_on _ _ _ _ (omega arith) c.bytes.invariant (elim c.else-star.branch [
  | else-star-via-then-star+else-b-close w ↦ both_no _ _ _ w.if-b-close.false
  | else-star-via-else-star w ↦ first_no _ _ _ w.if-star.false
])

pub returns : goal.returns
returns c = closes_at_end _ _ _ _ (omega arith) c.bytes.invariant
