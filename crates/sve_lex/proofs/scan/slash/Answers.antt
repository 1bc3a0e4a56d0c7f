use Rattle.std.proofs.Common.{◌∙◌, arith, length-drop, sym}
use Rattle.sve_lex.proofs.Longest.{found_within}
use Rattle.sve_lex.proofs.Numbers.{filled_if}
use Rattle.sve_lex.proofs.Dispatch.{slash_block, slash_end, slash_line, slash_other}
use Rattle.sve_lex.proofs.scan.slash.Goals as goal

pub returns-then-is_empty : goal.returns-then-is_empty
returns-then-is_empty c = c.operator.ensures ∙ sym (slash_end c.args.rest.now (sym c.if-is_empty.true ∙ c.is_empty.ensures))

pub longer-requires : goal.longer-requires
longer-requires c = found_within _ _ _ _ _ c.line_comment-found.ensures (rw c.past-more.ensures (omega (arith, length-drop 1 c.args.rest.now)))

pub returns-then-c-eq47 : goal.returns-then-c-eq47
returns-then-c-eq47 c = c.longer.ensures ∙ rw (c.line_comment-found.ensures, c.past-more.ensures) (sym (slash_line c.args.rest.now (filled_if c.args.rest.now c.is_empty.ensures c.if-is_empty.false) c.if-c-eq47.true))

pub longer-requires-then-c-eq42 : goal.longer-requires-then-c-eq42
longer-requires-then-c-eq42 c = found_within _ _ _ _ _ c.closes-found.ensures (rw c.past-more.ensures (omega (arith, length-drop 1 c.args.rest.now)))

pub returns-then-c-eq42 : goal.returns-then-c-eq42
returns-then-c-eq42 c = c.longer-then-c-eq42.ensures ∙ rw (c.closes-found.ensures, c.past-more.ensures) (sym (slash_block c.args.rest.now (filled_if c.args.rest.now c.is_empty.ensures c.if-is_empty.false) c.if-c-eq42.true))

pub returns : goal.returns
returns c = c.operator-2.ensures ∙ sym (slash_other c.args.rest.now (filled_if c.args.rest.now c.is_empty.ensures c.if-is_empty.false) c.if-c-eq47.false c.if-c-eq42.false)
