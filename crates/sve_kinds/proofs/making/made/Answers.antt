use Rattle.std.proofs.Common.{◌≡◌, IfOk, sym, subst}
use Rattle.sve_store.specs.Made.{Needs, Done}
use Rattle.sve_key.specs.declared.key.Key.{Key}
use Rattle.sve_make.specs.Make.{make_of}
use Rattle.sve_kinds.proofs.making.made.Goals as goal

pub returns-in-Element-clause-made : goal.returns-in-Element-clause-made
returns-in-Element-clause-made g c = λ told h. subst (λ (k : Key). IfOk c.element_value.result (λ v. make_of k 0 told ≡ Done v)) (sym c.in-Element.is) (c.element_value.ensures.made told h)

pub returns-in-Element-clause-halted : goal.returns-in-Element-clause-halted
returns-in-Element-clause-halted g c = λ told m none j is.
    let at = c.element_value.ensures.halted told m none j is in
    (at.0, subst (λ (k : Key). make_of k 0 told ≡ Needs j) (sym c.in-Element.is) at.1)

pub returns-in-Index-clause-halted : goal.returns-in-Index-clause-halted
returns-in-Index-clause-halted g c = λ told m none j is.
    let at = c.whole_index.ensures.halted told m none j is in
    (at.0, subst (λ (k : Key). make_of k 0 told ≡ Needs j) (sym c.in-Index.is) at.1)
