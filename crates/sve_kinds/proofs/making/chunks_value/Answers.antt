use Rattle.sve_store.specs.Made.{Done}
use Rattle.sve_key.specs.declared.key.Key.TheVariants.{Tokens}
use Rattle.sve_make.specs.Make.{chunks_made}
use Rattle.sve_kinds.proofs.Calls.{needs_this}
use Rattle.sve_kinds.proofs.making.chunks_value.Goals as goal

pub returns-in_err-value-clause-halted : goal.returns-in_err-value-clause-halted
returns-in_err-value-clause-halted g c = λ told m none j is.
    let at = c.in_err-value.ensures.halted told m none j is in
    (c.from_residual.ensures.0, needs_this told (Tokens c.args.name.now) (λ v. Done (chunks_made v)) j at.1)
