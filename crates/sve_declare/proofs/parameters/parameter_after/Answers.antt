-- What is found of the parameter, and the token behind it, stand in the call.
use Rattle.std.proofs.Common.{◌≡◌, ℕ, IfOk, subst}
use Rattle.sve_declare.specs.declared.parameters.Found.{Found}
use Rattle.sve_declare.specs.Parameters.{parameter_after, separator, with_value}
use Rattle.sve_declare.proofs.parameters.parameter_after.Goals as goal

pub returns : goal.returns
unfolding parameter_after
returns c =
    subst (λ (f : Found). IfOk c.with_value.result (λ p. p ≡ with_value c.args.text.words.now c.args.form.now c.args.passed f c.args.assignment.now.declarator.name (separator c.args.written.now c.args.place))) c.in_ok-found.ensures
    (subst (λ (from : ℕ). IfOk c.with_value.result (λ p. p ≡ with_value c.args.text.words.now c.args.form.now c.args.passed c.in_ok-found.found c.args.assignment.now.declarator.name from)) c.separator-from.ensures c.with_value.ensures)
