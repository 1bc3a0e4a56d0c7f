use Rattle.sve_parse_expr.proofs.levels.closes_operand.Goals as goal

pub returns-in-Some : goal.returns-in-Some
returns-in-Some c told level lo hi = rw (← c.in-Some.ensures) (c.is_closing.ensures told level lo hi)
