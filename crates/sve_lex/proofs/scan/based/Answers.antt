use Rattle.std.proofs.Common.{◌∙◌, arith, length-drop, sym}
use Rattle.sve_lex.proofs.Longest.{found_within}
use Rattle.sve_lex.proofs.Numbers.{based_end, based_next, filled_if}
use Rattle.sve_lex.proofs.scan.based.Goals as goal

pub returns-then-is_empty : goal.returns-then-is_empty
returns-then-is_empty c = sym (based_end c.args.rest.now (sym c.is_empty.ensures ∙ c.if-is_empty.true))

pub further-requires : goal.further-requires
further-requires c = found_within _ _ _ _ _ c.digits-found.ensures (rw c.past-more.ensures (omega (arith, length-drop 1 c.args.rest.now)))

pub returns : goal.returns
returns c = c.further.ensures ∙ rw (c.digits-found.ensures, c.lower.ensures, c.past-more.ensures) (sym (based_next c.args.rest.now (filled_if c.args.rest.now c.is_empty.ensures c.if-is_empty.false)))
