use Rattle.std.proofs.Common.{◌≡◌, ◌+◌, ◌-◌, drop}
use Rattle.std.specs.List.{Contains, flat_map}
use Rattle.sve_told.specs.Told.{TellSame}
use Rattle.sve_facts.specs.declared.facts.Child.{Child}
use Rattle.sve_facts.specs.Bodies.{Design, IsOf, Question}
use Rattle.sve_design.specs.Walk.{inside, subtree}
use Rattle.sve_design.specs.Paying.{bodies_asked, pay_all}
use Rattle.sve_design.proofs.walking.+enter.Given as goal

abbrev pub decreases-enter : goal.decreases-enter
decreases-enter g l = l.levels

-- what is left to pay for is what the children from this one on give
abbrev pub invariant-children : goal.invariant-children
invariant-children g l = record {
  tells : TellSame (g.B.Bodies.tells l.fn.bodies) (g.B.Bodies.tells l.bodies);
  keeps : g.B.Bodies.keeps l.fn.bodies l.bodies;
  not_halted : g.B.Bodies.halted l.bodies ≡ g.B.Bodies.halted l.fn.bodies;
  not_stopped : g.B.Bodies.stops l.bodies ≡ g.B.Bodies.stops l.fn.bodies;
  paid : (design : Design) → IsOf design (g.B.Bodies.tells l.fn.bodies) → pay_all design (subtree design l.levels (65 - l.levels) (inside l.parent l.child) l.spec) (record { visits = l.fn.progress.visits.items; left = l.fn.progress.left; asked = g.B.Bodies.asked l.fn.bodies }) ≡ pay_all design (flat_map (λ (c : Child). subtree design (l.levels - 1) (65 - l.levels + 1) (inside (inside l.parent l.child) c.path) c.spec) (drop l.below-index l.below-items)) (record { visits = l.progress.visits.items; left = l.progress.left; asked = g.B.Bodies.asked l.bodies });
  asks : (design : Design) → IsOf design (g.B.Bodies.tells l.fn.bodies) → (q : Question) → Contains (bodies_asked design l.progress.left (flat_map (λ (c : Child). subtree design (l.levels - 1) (65 - l.levels + 1) (inside (inside l.parent l.child) c.path) c.spec) (drop l.below-index l.below-items))) q → Contains (bodies_asked design l.fn.progress.left (subtree design l.levels (65 - l.levels) (inside l.parent l.child) l.spec)) q;
}
