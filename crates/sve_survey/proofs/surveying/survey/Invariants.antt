use Rattle.std.proofs.Common.{◌≡◌, [], ◌∷◌, drop}
use Rattle.std.specs.List.{Contains, flat_map}
use Rattle.sve_told.specs.Told.{TellSame, asked_on}
use Rattle.sve_facts.specs.Bodies.{Design, IsOf, OfTops, Question}
use Rattle.sve_design.specs.Walk.{subtree, top_path, instances}
use Rattle.sve_design.specs.Paying.{bodies_asked}
use Rattle.sve_survey.specs.Seen.{seen, seen_below, top_visit}
use Rattle.sve_survey.specs.Showing.{show_all}
use Rattle.sve_survey.proofs.surveying.survey.Given as goal

-- what is left to show is what the tops from this one on give
abbrev pub invariant-tops : goal.invariant-tops
invariant-tops g l = record {
  tells : TellSame (g.B.Bodies.tells l.fn.bodies) (g.B.Bodies.tells l.bodies);
  keeps : g.B.Bodies.keeps l.fn.bodies l.bodies;
  not_halted : g.B.Bodies.halted l.bodies ≡ g.B.Bodies.halted l.fn.bodies;
  not_stopped : g.B.Bodies.stops l.bodies ≡ g.B.Bodies.stops l.fn.bodies;
  shown : (design : Design) → IsOf design (g.B.Bodies.tells l.fn.bodies) → show_all design (seen design) (record { visitor = g.V.Visitor.state l.fn.visitor; left = l.budget; asked = asked_on (OfTops ∷ []) (g.B.Bodies.asked l.fn.bodies) }) ≡ show_all design (flat_map (λ top. seen_below design 64 (top_visit top) []) (drop l.top-index l.top-items)) (record { visitor = g.V.Visitor.state l.visitor; left = l.left; asked = g.B.Bodies.asked l.bodies });
  asks : (design : Design) → IsOf design (g.B.Bodies.tells l.fn.bodies) → (q : Question) → Contains (bodies_asked design l.left (flat_map (λ top. subtree design 64 1 (top_path top) top) (drop l.top-index l.top-items))) q → Contains (bodies_asked design l.budget (instances design)) q;
}
