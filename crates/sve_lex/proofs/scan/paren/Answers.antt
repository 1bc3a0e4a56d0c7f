use Rattle.std.proofs.Common.{◌∙◌, arith, length-drop, sym}
use Rattle.sve_lex.proofs.Longest.{found_within}
use Rattle.sve_lex.proofs.Numbers.{filled_if}
use Rattle.sve_lex.proofs.Dispatch.{paren_end, paren_open, paren_other, paren_shut}
use Rattle.sve_lex.proofs.scan.paren.Goals as goal

pub returns-then-is_empty : goal.returns-then-is_empty
returns-then-is_empty c = c.operator.ensures ∙ sym (paren_end c.args.rest.now (sym c.if-is_empty.true ∙ c.is_empty.ensures))

pub returns-then-c-ne42 : goal.returns-then-c-ne42
returns-then-c-ne42 c = c.operator-then-c-ne42.ensures ∙ sym (paren_other c.args.rest.now (filled_if c.args.rest.now c.is_empty.ensures c.if-is_empty.false) c.if-c-ne42.true)

pub returns-then-shuts : goal.returns-then-shuts
returns-then-shuts c = c.operator-then-shuts.ensures ∙ sym (paren_shut c.args.rest.now (filled_if c.args.rest.now c.is_empty.ensures c.if-is_empty.false) c.if-c-ne42.false (rw c.past-more.ensures at (sym c.shuts.ensures ∙ c.if-shuts.true)))

pub longer-requires : goal.longer-requires
longer-requires c = found_within _ _ _ _ _ c.closes-found.ensures (rw c.past-more.ensures (omega (arith, length-drop 1 c.args.rest.now)))

pub returns : goal.returns
returns c = c.longer.ensures ∙ rw (c.closes-found.ensures, c.past-more.ensures) (sym (paren_open c.args.rest.now (filled_if c.args.rest.now c.is_empty.ensures c.if-is_empty.false) c.if-c-ne42.false (rw c.past-more.ensures at (sym c.shuts.ensures ∙ c.if-shuts.false))))
