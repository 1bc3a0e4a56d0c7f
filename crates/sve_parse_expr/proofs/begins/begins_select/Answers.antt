use Rattle.std.proofs.Common.{◌∙◌ as ◌∘◌}
use Rattle.sve_grammar.proofs.Begins.{or_none}
use Rattle.sve_grammar.proofs.StartsOfExpressions.{select_starts}
use Rattle.sve_parse_expr.proofs.begins.begins_select.Goals as goal

pub returns : goal.returns
returns c = c.is_one_of.ensures ∘ rw (select_starts _) (simp or_none)
