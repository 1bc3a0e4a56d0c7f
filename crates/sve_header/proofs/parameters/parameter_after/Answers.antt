-- What the parameter's type declares, what it stands for, and the token behind it, stand in the call.
use Rattle.std.proofs.Common.{◌≡◌, ◌∙◌, ℕ, IfOk, List, Option, ap, subst}
use Rattle.sve_tree.specs.declared.header.ParameterPort.{ParameterPort}
use Rattle.sve_scope.specs.declared.what.What.{What}
use Rattle.sve_enumerated.specs.declared.passed.Passed.{Passed}
use Rattle.sve_header.specs.Coming.{come_in, separator}
use Rattle.sve_header.specs.Parameters.{names_at, parameter_after, what_of}
use Rattle.sve_header.proofs.parameters.parameter_after.Goals as goal

pub returns : goal.returns
unfolding parameter_after
returns c =
    let list = c.args.list.now in
    let ws = c.args.words.now in
    let r = c.args.resolved.now in
    let written = c.written_at-written.ensures in
    let from = c.separator-from.ensures ∙ ap (λ (commas : List ℕ). separator commas list.closing c.args.place) c.as_slice.ensures.value in
    subst (λ (o : Option ParameterPort). IfOk c.come_in.result (λ p. p ≡ come_in ws (names_at ws r c.args.passed o) r.token (what_of r) (separator list.parameters.separators.items list.closing c.args.place))) written
    (subst (λ (q : Passed). IfOk c.come_in.result (λ p. p ≡ come_in ws q r.token (what_of r) (separator list.parameters.separators.items list.closing c.args.place))) c.in_ok-passed.ensures
    (subst (λ (w : What). IfOk c.come_in.result (λ p. p ≡ come_in ws c.in_ok-passed.passed r.token w (separator list.parameters.separators.items list.closing c.args.place))) c.in_ok-what.ensures
    (subst (λ (f : ℕ). IfOk c.come_in.result (λ p. p ≡ come_in ws c.in_ok-passed.passed r.token c.in_ok-what.what f)) from c.come_in.ensures)))
