use Rattle.std.proofs.Common.{◌+◌, drop, get_or}
use Rattle.std.proofs.lemmas.Result.{err_from_is_err_and}
use Rattle.sve_told.specs.Told.{Sight}
use Rattle.sve_plan.specs.Plan.{Give, and_then, each}
use Rattle.sve_plan.proofs.Steps.{goes_on, leaves, rests}
use Rattle.sve_look.specs.Questions.{Reply}
use Rattle.sve_body.specs.Items.{implied}
use Rattle.sve_body_item.proofs.Each.{next_number, no_item}
use Rattle.sve_body_item.proofs.assigning.implied_all.Goals as goal

pub tokens-preserved : goal.tokens-preserved
tokens-preserved g c =
    let s : Sight Reply _ = record { tells = g.W.Look.tells; keeps = g.W.Look.keeps; halted = g.W.Look.halted; stops = g.W.Look.stops; asked = g.W.Look.asked } in
    goes_on s g.met.W.Look.keeps_itself g.met.W.Look.keeps_on (implied g.S.Work.steps (get_or c.args.tokens.now c.tokens.token-index 0) c.tokens.work) (each (implied g.S.Work.steps) (drop (c.tokens.token-index + 1) c.args.tokens.now)) (rests s g.met.W.Look.keeps_itself g.met.W.Look.keeps_on (and_then (implied g.S.Work.steps (get_or c.args.tokens.now c.tokens.token-index 0) c.tokens.work) (each (implied g.S.Work.steps) (drop (c.tokens.token-index + 1) c.args.tokens.now))) c.tokens.invariant (next_number (implied g.S.Work.steps) c.args.tokens.now c.tokens.token-index c.tokens.work c.tokens-test.true)) c.implied.new.work c.in_ok-implied.ensures

pub returns-in_err-implied : goal.returns-in_err-implied
returns-in_err-implied g c =
    let s : Sight Reply _ = record { tells = g.W.Look.tells; keeps = g.W.Look.keeps; halted = g.W.Look.halted; stops = g.W.Look.stops; asked = g.W.Look.asked } in
    let r = err_from_is_err_and c.from_residual.result c.from_residual.ensures.1 in
    leaves s g.met.W.Look.keeps_itself g.met.W.Look.keeps_on c.implied.new.world c.args.fuel.now (implied g.S.Work.steps (get_or c.args.tokens.now c.tokens.token-index 0) c.tokens.work) (each (implied g.S.Work.steps) (drop (c.tokens.token-index + 1) c.args.tokens.now)) c.in_err-implied.field-0.0 r.0 c.from_residual.result _ r.1 r.2 (rests s g.met.W.Look.keeps_itself g.met.W.Look.keeps_on (and_then (implied g.S.Work.steps (get_or c.args.tokens.now c.tokens.token-index 0) c.tokens.work) (each (implied g.S.Work.steps) (drop (c.tokens.token-index + 1) c.args.tokens.now))) c.tokens.invariant (next_number (implied g.S.Work.steps) c.args.tokens.now c.tokens.token-index c.tokens.work c.tokens-test.true)) c.in_err-implied.ensures

pub returns : goal.returns
returns g c =
    let s : Sight Reply _ = record { tells = g.W.Look.tells; keeps = g.W.Look.keeps; halted = g.W.Look.halted; stops = g.W.Look.stops; asked = g.W.Look.asked } in
    rests s g.met.W.Look.keeps_itself g.met.W.Look.keeps_on (Give c.tokens.work) c.tokens.invariant (no_item (implied g.S.Work.steps) c.args.tokens.now c.tokens.token-index c.tokens.work c.tokens-test.false)
