use Rattle.std.proofs.Common.{◌∙◌, ap, sym}
use Rattle.sve_lex.specs.Longest.{longest}
use Rattle.sve_lex.specs.Classes.{listed}
use Rattle.sve_lex.proofs.Numbers.{as_found, operator_longest}
use Rattle.sve_lex.proofs.scan.operator.Goals as goal

pub returns-in-Some : goal.returns-in-Some
returns-in-Some c = sym (operator_longest c.args.first c.args.rest.now ∙ ap as_found (ap (λ es. longest c.args.rest.now (listed es)) (sym c.operators_from.ensures.table) ∙ sym c.in-Some.ensures))

pub returns-in-None : goal.returns-in-None
returns-in-None c = sym (operator_longest c.args.first c.args.rest.now ∙ ap as_found (ap (λ es. longest c.args.rest.now (listed es)) (sym c.operators_from.ensures.table) ∙ sym c.in-None.ensures))
