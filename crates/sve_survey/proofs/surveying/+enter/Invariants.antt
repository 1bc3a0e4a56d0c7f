use Rattle.std.proofs.Common.{◌≡◌, ◌+◌, ◌-◌, drop}
use Rattle.std.specs.List.{Contains, flat_map}
use Rattle.sve_told.specs.Told.{TellSame}
use Rattle.sve_facts.specs.declared.facts.Child.{Child}
use Rattle.sve_facts.specs.Bodies.{Design, IsOf, Question}
use Rattle.sve_design.specs.Walk.{inside, subtree}
use Rattle.sve_design.specs.Paying.{bodies_asked}
use Rattle.sve_survey.specs.Seen.{child_visit, seen_below}
use Rattle.sve_survey.specs.Showing.{show_all}
use Rattle.sve_survey.proofs.surveying.+enter.Given as goal

abbrev pub decreases-enter : goal.decreases-enter
decreases-enter g l = l.levels

-- what is left to show is what the children from this one on give
abbrev pub invariant-children : goal.invariant-children
invariant-children g l = record {
  tells : TellSame (g.B.Bodies.tells l.fn.bodies) (g.B.Bodies.tells l.bodies);
  keeps : g.B.Bodies.keeps l.fn.bodies l.bodies;
  not_halted : g.B.Bodies.halted l.bodies ≡ g.B.Bodies.halted l.fn.bodies;
  not_stopped : g.B.Bodies.stops l.bodies ≡ g.B.Bodies.stops l.fn.bodies;
  shown : (design : Design) → IsOf design (g.B.Bodies.tells l.fn.bodies) → show_all design (seen_below design l.levels l.visit l.unconnected) (record { visitor = g.V.Visitor.state l.fn.visitor; left = l.fn.left; asked = g.B.Bodies.asked l.fn.bodies }) ≡ show_all design (flat_map (λ (c : Child). seen_below design (l.levels - 1) (child_visit l.visit c) c.unconnected) (drop l.child-index l.child-items)) (record { visitor = g.V.Visitor.state l.visitor; left = l.left; asked = g.B.Bodies.asked l.bodies });
  asks : (design : Design) → IsOf design (g.B.Bodies.tells l.fn.bodies) → (q : Question) → Contains (bodies_asked design l.left (flat_map (λ (c : Child). subtree design (l.levels - 1) (l.visit.depth + 1) (inside l.visit.path c.path) c.spec) (drop l.child-index l.child-items))) q → Contains (bodies_asked design l.fn.left (subtree design l.levels l.visit.depth l.visit.path l.visit.spec)) q;
}
