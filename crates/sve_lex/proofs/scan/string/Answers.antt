use Rattle.std.proofs.Common.{arith, ne_eqb}
use Rattle.sve_lex.proofs.Strings.{further_zero, string_at_quote, string_at_feed, string_at_end, string_on_escaped, string_on_byte}
use Rattle.sve_lex.proofs.scan.string.Goals as goal
use Rattle.sve_lex.proofs.scan.string.Goals.{then-escaped, else-escaped+else-b-eq34+else-b-eq10}

pub bytes-init : goal.bytes-init
bytes-init c = further_zero _

pub returns-then-b-eq34 : goal.returns-then-b-eq34
returns-then-b-eq34 c = string_at_quote _ _ (omega arith) (rw c.if-escaped.false at c.bytes.invariant) c.if-b-eq34.true

pub returns-then-b-eq10 : goal.returns-then-b-eq10
returns-then-b-eq10 c = string_at_feed _ _ (omega arith) (rw c.if-escaped.false at c.bytes.invariant) c.if-b-eq10.true

pub bytes-preserved : goal.bytes-preserved
bytes-preserved c = elim c.if-escaped.branch [
  | then-escaped w ↦ rw w.escaped-is (string_on_escaped _ _ (omega arith) (rw w.if-escaped.true at c.bytes.invariant))
  | else-escaped+else-b-eq34+else-b-eq10 w ↦ rw w.escaped-is (string_on_byte _ _ (omega arith) (rw w.if-escaped.false at c.bytes.invariant) (ne_eqb _ _ w.if-b-eq34.false) (ne_eqb _ _ w.if-b-eq10.false))
]

pub returns : goal.returns
returns c = string_at_end _ _ _ (omega arith) c.bytes.invariant
