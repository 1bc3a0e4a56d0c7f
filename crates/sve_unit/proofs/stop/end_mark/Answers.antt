use Rattle.std.proofs.Common.{◌≡◌, sym, ◌∙◌, true}
use Rattle.sve_unit.specs.Stops.{is_closed}
use Rattle.sve_unit.proofs.Closed.{last_is}
use Rattle.sve_unit.proofs.stop.end_mark.Goals as goal

pub returns-then-is_closed : goal.returns-then-is_closed
returns-then-is_closed c =
    let closed : is_closed c.args.tokens.now ≡ true = sym c.is_closed.ensures ∙ c.if-is_closed.true in
    rw closed (sym (last_is c.args.tokens.now c.in-Some.token.now c.args.file_end.now (sym c.in-Some.ensures.value)))
