use Rattle.std.proofs.Common.{◌∙◌, ◌-◌, ap, arith, sym}
use Rattle.std.proofs.lemmas.List.{length-reverse}
use Rattle.sve_scope.proofs.Enclosed.{none_taken, taken_behind}
use Rattle.sve_scope.proofs.enclosing.Enclosing+Scope.take.Goals as goal

pub returns-in_ok-take-clause-scopes : goal.returns-in_ok-take-clause-scopes
returns-in_ok-take-clause-scopes c =
    rw (c.in_ok-take.ensures.scope, sym c.self.view_is)
    (taken_behind c.self.inside.items.items c.args.place (c.len-then-place-len.result - 1 - c.args.place) c.index_mut.result.now c.args.name.now
    (omega (arith, c.if-place-len.true, c.len.ensures ∙ c.self.inside.items.ok.0))
    (ap (λ k. k - 1 - c.args.place) (c.len-then-place-len.ensures ∙ c.self.inside.items.ok.0))
    c.index_mut.ensures.value)

pub returns-else-place-len-clause-scopes : goal.returns-else-place-len-clause-scopes
returns-else-place-len-clause-scopes c =
    sym (none_taken c.args.self.now c.args.place c.args.name.now
    (rw (sym c.self.view_is, length-reverse c.self.inside.items.items) (omega (arith, c.if-place-len.false, c.len.ensures ∙ c.self.inside.items.ok.0))))
