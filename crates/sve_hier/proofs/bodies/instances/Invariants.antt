-- The instances so far, and what was asked for.
use Rattle.std.proofs.Common.{◌≡◌, true, map, take}
use Rattle.std.specs.List.{list_all}
use Rattle.sve_told.specs.Told.{TellSame, asked_on}
use Rattle.sve_facts.specs.Bodies.{Design, IsOf}
use Rattle.sve_hier.specs.Instances.{asked_within, fits, instance_of, instance_value}
use Rattle.sve_hier.proofs.bodies.instances.Given as goal

abbrev pub invariant-visits : goal.invariant-visits
invariant-visits g l = record {
  tells : TellSame (g.B.Bodies.tells l.fn.bodies) (g.B.Bodies.tells l.bodies);
  keeps : g.B.Bodies.keeps l.fn.bodies l.bodies;
  not_halted : g.B.Bodies.halted l.bodies ≡ g.B.Bodies.halted l.fn.bodies;
  not_stopped : g.B.Bodies.stops l.bodies ≡ g.B.Bodies.stops l.fn.bodies;
  fit : (design : Design) → IsOf design (g.B.Bodies.tells l.fn.bodies) → list_all (fits design l.fuel) (take l.visit-index l.visits) ≡ true;
  made : (design : Design) → IsOf design (g.B.Bodies.tells l.fn.bodies) → map instance_value l.instances.items ≡ map (instance_of design) (take l.visit-index l.visits);
  asked : (design : Design) → IsOf design (g.B.Bodies.tells l.fn.bodies) → g.B.Bodies.asked l.bodies ≡ asked_on (asked_within design l.fuel (take l.visit-index l.visits)) (g.B.Bodies.asked l.fn.bodies);
}
