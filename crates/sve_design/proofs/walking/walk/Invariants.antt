use Rattle.std.proofs.Common.{◌≡◌, [], ◌∷◌, drop}
use Rattle.std.specs.List.{Contains, flat_map}
use Rattle.sve_told.specs.Told.{TellSame, asked_on}
use Rattle.sve_facts.specs.Bodies.{Design, IsOf, OfTops, Question}
use Rattle.sve_design.specs.Walk.{subtree, top_path, instances}
use Rattle.sve_design.specs.Paying.{bodies_asked, pay_all}
use Rattle.sve_design.proofs.walking.walk.Given as goal

-- what is left to pay for is what the tops from this one on give
abbrev pub invariant-tops : goal.invariant-tops
invariant-tops g l = record {
  tells : TellSame (g.B.Bodies.tells l.fn.bodies) (g.B.Bodies.tells l.bodies);
  keeps : g.B.Bodies.keeps l.fn.bodies l.bodies;
  not_halted : g.B.Bodies.halted l.bodies ≡ g.B.Bodies.halted l.fn.bodies;
  not_stopped : g.B.Bodies.stops l.bodies ≡ g.B.Bodies.stops l.fn.bodies;
  paid : (design : Design) → IsOf design (g.B.Bodies.tells l.fn.bodies) → pay_all design (instances design) (record { visits = []; left = l.budget; asked = asked_on (OfTops ∷ []) (g.B.Bodies.asked l.fn.bodies) }) ≡ pay_all design (flat_map (λ top. subtree design 64 1 (top_path top) top) (drop l.top-index l.top-items)) (record { visits = l.progress.visits.items; left = l.progress.left; asked = g.B.Bodies.asked l.bodies });
  asks : (design : Design) → IsOf design (g.B.Bodies.tells l.fn.bodies) → (q : Question) → Contains (bodies_asked design l.progress.left (flat_map (λ top. subtree design 64 1 (top_path top) top) (drop l.top-index l.top-items))) q → Contains (bodies_asked design l.budget (instances design)) q;
}
