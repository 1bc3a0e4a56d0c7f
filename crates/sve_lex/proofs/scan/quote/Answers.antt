use Rattle.std.proofs.Common.{◌∙◌, arith, length-drop, sym}
use Rattle.sve_lex.proofs.Longest.{found_within}
use Rattle.sve_lex.proofs.Numbers.{filled_if}
use Rattle.sve_lex.proofs.Dispatch.{quote_end, quote_operator, quote_other}
use Rattle.sve_lex.proofs.scan.quote.Goals as goal

pub returns-then-is_empty : goal.returns-then-is_empty
returns-then-is_empty c = c.operator.ensures ∙ sym (quote_end c.args.rest.now (sym c.if-is_empty.true ∙ c.is_empty.ensures))

pub returns-then-c-eq123 : goal.returns-then-c-eq123
returns-then-c-eq123 c = c.operator-then-c-eq123.ensures ∙ sym (quote_operator c.args.rest.now (filled_if c.args.rest.now c.is_empty.ensures c.if-is_empty.false) c.if-c-eq123.true)

pub longer-requires : goal.longer-requires
longer-requires c = found_within _ _ _ _ _ c.after_quote-found.ensures (rw c.past-more.ensures (omega (arith, length-drop 1 c.args.rest.now)))

pub returns : goal.returns
returns c = c.longer.ensures ∙ rw (c.after_quote-found.ensures, c.past-more.ensures) (sym (quote_other c.args.rest.now (filled_if c.args.rest.now c.is_empty.ensures c.if-is_empty.false) c.if-c-eq123.false))
