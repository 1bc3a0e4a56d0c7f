-- What this profile leaves out: it is no constant, at its first token (own).
use Rattle.std.specs.Global.{Vec}
use Rattle.std.specs.Prelude.{ℕ}
use Rattle.sve_tree.specs.declared.expression.Expr.{Row_of-Select, end_of-Select, more_of-Select}
use Rattle.sve_tree.specs.declared.expression.Select.{Select}
use Rattle.sve_tree.specs.declared.expression.Arg.TheBlock.{hidden-the_row-Select-4}
use Rattle.sve_rule.specs.Judged.{Judged}
use Rattle.sve_rule.specs.Rules.{outside_judged}

-- selects of what a system function gives
abbrev pub unless_part : {n : _} → Row_of-Select n → ℕ → Judged → Judged
unless_part end_of-Select token a = a
unless_part (more_of-Select select rest) token a = outside_judged token

-- the same over what a tree holds
abbrev pub unless_parts : Vec Select → ℕ → Judged → Judged
unless_parts selects token a = unless_part (hidden-the_row-Select-4 selects) token a
