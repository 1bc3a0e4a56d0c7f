use Rattle.std.proofs.Common.{◌∙◌, arith, sym}
use Rattle.sve_lex.proofs.Numbers.{digits_end, digits_no, digits_yes}
use Rattle.sve_lex.proofs.scan.digits.Goals as goal

pub returns-then-n-rest : goal.returns-then-n-rest
returns-then-n-rest c = sym (digits_end c.args.base _ (sym c.white_space_len-n.ensures.value ∙ c.if-n-rest.true))

pub returns-then-not-begins_number : goal.returns-then-not-begins_number
returns-then-not-begins_number c = sym (digits_no c.args.base _ _ c.white_space_len-n.ensures.value (omega arith) (sym c.begins_number.ensures ∙ c.if-not-begins_number.true))

pub returns : goal.returns
returns c = rw (c.number_len-length.ensures.value, c.past-more.ensures) (sym (digits_yes c.args.base c.args.rest.now _ c.white_space_len-n.ensures.value (omega arith) (sym c.begins_number.ensures ∙ c.if-not-begins_number.false)))
