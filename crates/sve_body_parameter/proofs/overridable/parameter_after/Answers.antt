-- What is given to the parameter, what is found of it, and the token behind it, stand in the call.
use Rattle.std.proofs.Common.{◌≡◌, ℕ, IfOk, subst}
use Rattle.sve_spec.specs.declared.given.Given.{Given}
use Rattle.sve_scoped.specs.Known.{told_in}
use Rattle.sve_declare.specs.declared.parameters.Found.{Found}
use Rattle.sve_declare.specs.declared.parameters.Settled.{Settled}
use Rattle.sve_declare.specs.Parameters.{separator}
use Rattle.sve_body_parameter.specs.Values.{found_by}
use Rattle.sve_body_parameter.specs.Overridable.{come_in, found_behind, parameter_after}
use Rattle.sve_body_parameter.proofs.overridable.parameter_after.Goals as goal

pub returns : goal.returns
unfolding parameter_after
returns c =
    let ws = c.args.text.words.now in
    let form = c.args.form.now in
    let s = c.args.so_far in
    let a = c.args.assignment.now in
    let m = told_in c.args.text.packages.now ws s.passed.contents in
    let from = separator c.args.written.now c.args.index in
    subst (λ (g : Given). IfOk c.come_in.result (λ p. p ≡ found_behind ws form s (found_by m form c.args.is_array g a) a.declarator.name from)) c.given_at-given.ensures
    (subst (λ (f : Found). IfOk c.come_in.result (λ p. p ≡ found_behind ws form s f a.declarator.name from)) c.in_ok-found.ensures
    (subst (λ (n : ℕ). IfOk c.come_in.result (λ p. p ≡ found_behind ws form s c.in_ok-found.found a.declarator.name n)) c.separator-from.ensures
    (subst (λ (t : Settled). IfOk c.come_in.result (λ p. p ≡ come_in ws s.values s.place t a.declarator.name c.separator-from.result)) c.in_ok-settled.ensures c.come_in.ensures)))
