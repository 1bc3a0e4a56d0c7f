-- Each clause follows from how the call ended that follows the plan.
use Rattle.std.proofs.Common.{◌-◌, ◌^◌}
use Rattle.sve_told.specs.Told.{Sight}
use Rattle.sve_look.specs.Questions.{Reply}
use Rattle.sve_elaborate.specs.Bodies.{header_ports}
use Rattle.sve_elaborate.proofs.Ended.{halts_on, keeps_on, value_asked, value_found, value_not_halted, value_not_stopped, value_stopped, tells_on}
use Rattle.sve_elaborate.proofs.heading.ports.Goals as goal

pub returns-clause-tells : goal.returns-clause-tells
returns-clause-tells g c =
    let s : Sight Reply _ = record { tells = g.W.Look.tells; keeps = g.W.Look.keeps; halted = g.W.Look.halted; stops = g.W.Look.stops; asked = g.W.Look.asked } in
    tells_on s c.args.world.now c.header_ports-end.new.world (record { used = 0; most = 2 ^ 64 - 1 }) c.header_ports-end.new.fuel (header_ports c.args.spec.now) c.header_ports-end.result c.header_ports-end.ensures

pub returns-clause-keeps : goal.returns-clause-keeps
returns-clause-keeps g c =
    let s : Sight Reply _ = record { tells = g.W.Look.tells; keeps = g.W.Look.keeps; halted = g.W.Look.halted; stops = g.W.Look.stops; asked = g.W.Look.asked } in
    keeps_on s c.args.world.now c.header_ports-end.new.world (record { used = 0; most = 2 ^ 64 - 1 }) c.header_ports-end.new.fuel (header_ports c.args.spec.now) c.header_ports-end.result c.header_ports-end.ensures

pub returns-clause-found : goal.returns-clause-found
returns-clause-found g c =
    let s : Sight Reply _ = record { tells = g.W.Look.tells; keeps = g.W.Look.keeps; halted = g.W.Look.halted; stops = g.W.Look.stops; asked = g.W.Look.asked } in
    λ told holds. value_found s c.args.world.now c.header_ports-end.new.world (record { used = 0; most = 2 ^ 64 - 1 }) c.header_ports-end.new.fuel (header_ports c.args.spec.now) c.header_ports-end.result c.given.result c.header_ports-end.ensures c.given.ensures told holds

pub returns-clause-asked : goal.returns-clause-asked
returns-clause-asked g c =
    let s : Sight Reply _ = record { tells = g.W.Look.tells; keeps = g.W.Look.keeps; halted = g.W.Look.halted; stops = g.W.Look.stops; asked = g.W.Look.asked } in
    λ told holds. value_asked s c.args.world.now c.header_ports-end.new.world (record { used = 0; most = 2 ^ 64 - 1 }) c.header_ports-end.new.fuel (header_ports c.args.spec.now) c.header_ports-end.result c.given.result c.header_ports-end.ensures c.given.ensures told holds

pub returns-clause-not_halted : goal.returns-clause-not_halted
returns-clause-not_halted g c =
    let s : Sight Reply _ = record { tells = g.W.Look.tells; keeps = g.W.Look.keeps; halted = g.W.Look.halted; stops = g.W.Look.stops; asked = g.W.Look.asked } in
    value_not_halted s c.args.world.now c.header_ports-end.new.world (record { used = 0; most = 2 ^ 64 - 1 }) c.header_ports-end.new.fuel (header_ports c.args.spec.now) c.header_ports-end.result c.given.result c.header_ports-end.ensures c.given.ensures

pub returns-clause-halted : goal.returns-clause-halted
returns-clause-halted g c =
    let s : Sight Reply _ = record { tells = g.W.Look.tells; keeps = g.W.Look.keeps; halted = g.W.Look.halted; stops = g.W.Look.stops; asked = g.W.Look.asked } in
    λ told matches none question some. halts_on s c.args.world.now c.header_ports-end.new.world (record { used = 0; most = 2 ^ 64 - 1 }) c.header_ports-end.new.fuel (header_ports c.args.spec.now) c.header_ports-end.result c.header_ports-end.ensures told matches none question some

pub returns-clause-stopped : goal.returns-clause-stopped
returns-clause-stopped g c =
    let s : Sight Reply _ = record { tells = g.W.Look.tells; keeps = g.W.Look.keeps; halted = g.W.Look.halted; stops = g.W.Look.stops; asked = g.W.Look.asked } in
    value_stopped s c.args.world.now c.header_ports-end.new.world (record { used = 0; most = 2 ^ 64 - 1 }) c.header_ports-end.new.fuel (header_ports c.args.spec.now) c.header_ports-end.result c.given.result c.header_ports-end.ensures c.given.ensures

pub returns-clause-not_stopped : goal.returns-clause-not_stopped
returns-clause-not_stopped g c =
    let s : Sight Reply _ = record { tells = g.W.Look.tells; keeps = g.W.Look.keeps; halted = g.W.Look.halted; stops = g.W.Look.stops; asked = g.W.Look.asked } in
    value_not_stopped s c.args.world.now c.header_ports-end.new.world (record { used = 0; most = 2 ^ 64 - 1 }) c.header_ports-end.new.fuel (header_ports c.args.spec.now) c.header_ports-end.result c.given.result c.header_ports-end.ensures c.given.ensures
