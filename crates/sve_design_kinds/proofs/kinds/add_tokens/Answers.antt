-- One after another.
use Rattle.std.proofs.Common.{◌+◌, drop, get_or, refl}
use Rattle.std.proofs.lemmas.Result.{err_from_is_err_and}
use Rattle.sve_told.specs.Told.{Sight}
use Rattle.sve_plan.specs.Plan.{Give, and_then, each}
use Rattle.sve_plan.proofs.Each.{each_end, each_next}
use Rattle.sve_plan.proofs.Steps.{goes_on, leaves, rests}
use Rattle.sve_look.specs.Questions.{Reply}
use Rattle.sve_design_kinds.specs.Kinds.{with_token}
use Rattle.sve_design_kinds.proofs.kinds.add_tokens.Goals as goal

pub tokens-preserved : goal.tokens-preserved
tokens-preserved g c =
    let s : Sight Reply _ = record { tells = g.W.Look.tells; keeps = g.W.Look.keeps; halted = g.W.Look.halted; stops = g.W.Look.stops; asked = g.W.Look.asked } in
    let f = with_token c.args.index.now c.args.words.now in
    let token = get_or c.args.tokens.now c.tokens.token-index 0 in
    let one = f token c.tokens.known in
    let more = each f (drop (c.tokens.token-index + 1) c.args.tokens.now) in
    goes_on s g.met.W.Look.keeps_itself g.met.W.Look.keeps_on one more
    (rests s g.met.W.Look.keeps_itself g.met.W.Look.keeps_on (and_then one more) c.tokens.invariant (each_next f c.args.tokens.now c.tokens.token-index token 0 c.tokens.known c.tokens-test.true refl)) c.add_token.new.known c.in_ok-add_token.ensures

pub returns-in_err-add_token : goal.returns-in_err-add_token
returns-in_err-add_token g c =
    let s : Sight Reply _ = record { tells = g.W.Look.tells; keeps = g.W.Look.keeps; halted = g.W.Look.halted; stops = g.W.Look.stops; asked = g.W.Look.asked } in
    let r = err_from_is_err_and c.from_residual.result c.from_residual.ensures.1 in
    let f = with_token c.args.index.now c.args.words.now in
    let token = get_or c.args.tokens.now c.tokens.token-index 0 in
    let one = f token c.tokens.known in
    let more = each f (drop (c.tokens.token-index + 1) c.args.tokens.now) in
    leaves s g.met.W.Look.keeps_itself g.met.W.Look.keeps_on c.add_token.new.world c.args.fuel.now one more c.in_err-add_token.field-0.0 r.0 c.from_residual.result _ r.1 r.2
    (rests s g.met.W.Look.keeps_itself g.met.W.Look.keeps_on (and_then one more) c.tokens.invariant (each_next f c.args.tokens.now c.tokens.token-index token 0 c.tokens.known c.tokens-test.true refl)) c.in_err-add_token.ensures

pub returns : goal.returns
returns g c =
    let s : Sight Reply _ = record { tells = g.W.Look.tells; keeps = g.W.Look.keeps; halted = g.W.Look.halted; stops = g.W.Look.stops; asked = g.W.Look.asked } in
    rests s g.met.W.Look.keeps_itself g.met.W.Look.keeps_on (Give c.tokens.known) c.tokens.invariant (each_end (with_token c.args.index.now c.args.words.now) c.args.tokens.now c.tokens.token-index c.tokens.known c.tokens-test.false)
