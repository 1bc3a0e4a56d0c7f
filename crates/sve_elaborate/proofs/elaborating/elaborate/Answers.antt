-- Each clause follows from how the call ended that follows the plan.
use Rattle.sve_told.specs.Told.{Sight}
use Rattle.sve_look.specs.Questions.{Reply}
use Rattle.sve_elaborate.specs.Bodies.{elaborated}
use Rattle.sve_elaborate.proofs.Ended.{asked_as, found_as, halts_on, keeps_on, not_halted_as, not_stopped_as, stopped_as, tells_on, within_as}
use Rattle.sve_elaborate.proofs.elaborating.elaborate.Goals as goal

pub returns-clause-tells : goal.returns-clause-tells
returns-clause-tells g c =
    let s : Sight Reply _ = record { tells = g.W.Look.tells; keeps = g.W.Look.keeps; halted = g.W.Look.halted; stops = g.W.Look.stops; asked = g.W.Look.asked } in
    tells_on s c.args.world.now c.elaborated_to-end.new.world (record { used = 0; most = c.args.most }) c.elaborated_to-end.new.fuel (elaborated c.args.spec.now) c.elaborated_to-end.result c.elaborated_to-end.ensures

pub returns-clause-keeps : goal.returns-clause-keeps
returns-clause-keeps g c =
    let s : Sight Reply _ = record { tells = g.W.Look.tells; keeps = g.W.Look.keeps; halted = g.W.Look.halted; stops = g.W.Look.stops; asked = g.W.Look.asked } in
    keeps_on s c.args.world.now c.elaborated_to-end.new.world (record { used = 0; most = c.args.most }) c.elaborated_to-end.new.fuel (elaborated c.args.spec.now) c.elaborated_to-end.result c.elaborated_to-end.ensures

pub returns-clause-found : goal.returns-clause-found
returns-clause-found g c =
    let s : Sight Reply _ = record { tells = g.W.Look.tells; keeps = g.W.Look.keeps; halted = g.W.Look.halted; stops = g.W.Look.stops; asked = g.W.Look.asked } in
    λ told holds. found_as s c.args.world.now c.elaborated_to-end.new.world (record { used = 0; most = c.args.most }) c.elaborated_to-end.new.fuel (elaborated c.args.spec.now) c.elaborated_to-end.result c.body_of.result c.elaborated_to-end.ensures c.body_of.ensures told holds

pub returns-clause-within : goal.returns-clause-within
returns-clause-within g c =
    let s : Sight Reply _ = record { tells = g.W.Look.tells; keeps = g.W.Look.keeps; halted = g.W.Look.halted; stops = g.W.Look.stops; asked = g.W.Look.asked } in
    within_as s c.args.world.now c.elaborated_to-end.new.world (record { used = 0; most = c.args.most }) c.elaborated_to-end.new.fuel (elaborated c.args.spec.now) c.elaborated_to-end.result c.body_of.result c.elaborated_to-end.ensures c.body_of.ensures

pub returns-clause-asked : goal.returns-clause-asked
returns-clause-asked g c =
    let s : Sight Reply _ = record { tells = g.W.Look.tells; keeps = g.W.Look.keeps; halted = g.W.Look.halted; stops = g.W.Look.stops; asked = g.W.Look.asked } in
    λ told holds. asked_as s c.args.world.now c.elaborated_to-end.new.world (record { used = 0; most = c.args.most }) c.elaborated_to-end.new.fuel (elaborated c.args.spec.now) c.elaborated_to-end.result c.body_of.result c.elaborated_to-end.ensures c.body_of.ensures told holds

pub returns-clause-not_halted : goal.returns-clause-not_halted
returns-clause-not_halted g c =
    let s : Sight Reply _ = record { tells = g.W.Look.tells; keeps = g.W.Look.keeps; halted = g.W.Look.halted; stops = g.W.Look.stops; asked = g.W.Look.asked } in
    not_halted_as s c.args.world.now c.elaborated_to-end.new.world (record { used = 0; most = c.args.most }) c.elaborated_to-end.new.fuel (elaborated c.args.spec.now) c.elaborated_to-end.result c.body_of.result c.elaborated_to-end.ensures c.body_of.ensures

pub returns-clause-halted : goal.returns-clause-halted
returns-clause-halted g c =
    let s : Sight Reply _ = record { tells = g.W.Look.tells; keeps = g.W.Look.keeps; halted = g.W.Look.halted; stops = g.W.Look.stops; asked = g.W.Look.asked } in
    λ told matches none question some. halts_on s c.args.world.now c.elaborated_to-end.new.world (record { used = 0; most = c.args.most }) c.elaborated_to-end.new.fuel (elaborated c.args.spec.now) c.elaborated_to-end.result c.elaborated_to-end.ensures told matches none question some

pub returns-clause-stopped : goal.returns-clause-stopped
returns-clause-stopped g c =
    let s : Sight Reply _ = record { tells = g.W.Look.tells; keeps = g.W.Look.keeps; halted = g.W.Look.halted; stops = g.W.Look.stops; asked = g.W.Look.asked } in
    stopped_as s c.args.world.now c.elaborated_to-end.new.world (record { used = 0; most = c.args.most }) c.elaborated_to-end.new.fuel (elaborated c.args.spec.now) c.elaborated_to-end.result c.body_of.result c.elaborated_to-end.ensures c.body_of.ensures

pub returns-clause-not_stopped : goal.returns-clause-not_stopped
returns-clause-not_stopped g c =
    let s : Sight Reply _ = record { tells = g.W.Look.tells; keeps = g.W.Look.keeps; halted = g.W.Look.halted; stops = g.W.Look.stops; asked = g.W.Look.asked } in
    not_stopped_as s c.args.world.now c.elaborated_to-end.new.world (record { used = 0; most = c.args.most }) c.elaborated_to-end.new.fuel (elaborated c.args.spec.now) c.elaborated_to-end.result c.body_of.result c.elaborated_to-end.ensures c.body_of.ensures
