use Rattle.std.proofs.Common.{sym, ◌∙◌}
use Rattle.sve_form.proofs.Rows.{first_operand}
use Rattle.sve_form.proofs.tokens.empty_at.Goals as goal

pub returns : goal.returns
returns c =
    c.count_token.ensures ∙ sym (first_operand c.args.opening c.args.operands.now.items c.index.result.now c.index.ensures (sym c.is_empty.ensures ∙ c.if-is_empty.false))
