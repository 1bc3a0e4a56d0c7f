use Rattle.std.proofs.Common.{◌∙◌}
use Rattle.std.specs.Arc.{arc_value}
use Rattle.sve_key.specs.declared.key.Key.TheVariants.{Tokens, Chunks}
use Rattle.sve_kinds.proofs.Calls.{matches_on, needs_this, then_needs}
use Rattle.sve_kinds.proofs.making.element_value.Goals as goal

pub returns-in_err-file-clause-halted : goal.returns-in_err-file-clause-halted
returns-in_err-file-clause-halted g c = λ told m none j is.
    let at = c.in_err-file.ensures.halted told m none j is in
    (c.from_residual.ensures.0, needs_this told (Tokens c.args.name.now) _ j at.1)

pub returns-in_err-all-clause-halted : goal.returns-in_err-all-clause-halted
returns-in_err-all-clause-halted g c = λ told m none j is.
    let v = arc_value c.in_ok-file.file in
    let at = c.in_err-all.ensures.halted told (matches_on told (g.F.Fetch.tells c.args.from.now) (g.F.Fetch.tells c.ask_tokens.new.from) c.in_ok-file.ensures.passes.same m) (c.in_ok-file.ensures.calm ∙ none) j is in
    (c.from_residual-in_err-all.ensures.0, then_needs told (Tokens c.args.name.now) (Chunks c.args.name.now) _ v j ((m (Tokens c.args.name.now) 0 v).0 c.in_ok-file.ensures.found) at.1)
