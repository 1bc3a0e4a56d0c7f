use Rattle.sve_store.specs.Made.{Done}
use Rattle.sve_key.specs.declared.key.Key.TheVariants.{Element}
use Rattle.sve_key.specs.Values.{reading_in_value}
use Rattle.sve_make.specs.Make.{gists_in}
use Rattle.sve_kinds.proofs.Calls.{needs_this}
use Rattle.sve_kinds.proofs.indexing.add_element.Goals as goal

pub returns-in_err-value-clause-halted : goal.returns-in_err-value-clause-halted
returns-in_err-value-clause-halted g c = λ told m none j is.
    let at = c.in_err-value.ensures.halted told m none j is in
    (c.from_residual.ensures.0, needs_this told (Element c.args.file.now c.args.n) (λ v. Done (gists_in c.args.file.now c.args.n (reading_in_value v))) j at.1)
