-- A `case` by its items, as they are seen from outside.
use Rattle.std.proofs.Common.{arith}
use Rattle.std.proofs.lemmas.Grind.{common_steps}
use Rattle.sve_statement_use.proofs.Rows.{of_case}
use Rattle.sve_statement_use.proofs.walk.+statement.Goals as goal

pub names_in_statement-returns-in-Case : goal.names_in_statement-returns-in-Case
names_in_statement-returns-in-Case g t c = grind (arith, common_steps, of_case c.in-Case.uniqueness c.in-Case.statement)
