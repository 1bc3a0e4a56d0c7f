use Rattle.std.proofs.Common.{ℕ, List, subst}
use Rattle.sve_key.specs.declared.key.Key.TheVariants.{Text}
use Rattle.sve_kinds.specs.Asked.{IsUntold}
use Rattle.sve_kinds.proofs.asking.ask_text.Goals as goal

pub returns-clause-halted : goal.returns-clause-halted
returns-clause-halted g c = λ told m none j is.
    let at = c.ask.ensures.halted told m none j is in
    (at.0, subst (λ (n : List ℕ). IsUntold told (Text n) j) c.in_ok-copy.ensures at.1)
