-- The visits of the instances that a survey shows are those of a walk.
use Rattle.std.proofs.Common.{◌≡◌, ℕ, zero, suc, ◌+◌, List, [], ◌∷◌, ◌++◌, map, refl, ap, ◌∙◌}
use Rattle.std.specs.List.{flat_map}
use Rattle.std.proofs.lemmas.List.{map-append}
use Rattle.sve_spec.specs.declared.spec.Spec.{Spec}
use Rattle.sve_facts.specs.declared.facts.Child.{Child}
use Rattle.sve_facts.specs.Bodies.{Design}
use Rattle.sve_design.specs.declared.visits.Visit.{Visit}
use Rattle.sve_design.specs.Walk.{inside, top_path, subtree, instances}
use Rattle.sve_survey.specs.Seen.{Instance, visit_of, child_visit, top_visit, seen_below, seen}

visits_of_each : {X : Type 0} (f : X → List Instance) (g : X → List Visit) (xs : List X) → ((x : X) → map visit_of (f x) ≡ g x) → map visit_of (flat_map f xs) ≡ flat_map g xs
visits_of_each f g [] each = refl
visits_of_each f g (x ∷ xs) each =
    map-append visit_of (f x) (flat_map f xs) ∙ ap (λ (vs : List Visit). vs ++ map visit_of (flat_map f xs)) (each x) ∙ ap (λ (vs : List Visit). g x ++ vs) (visits_of_each f g xs each)

pub visits_below : (design : Design) (levels : ℕ) (visit : Visit) (unconnected : List (List ℕ)) → map visit_of (seen_below design levels visit unconnected) ≡ subtree design levels visit.depth visit.path visit.spec
visits_below design zero visit unconnected = refl
visits_below design (suc levels) visit unconnected =
    ap (λ (vs : List Visit). visit ∷ vs)
    (visits_of_each (λ (child : Child). seen_below design levels (child_visit visit child) child.unconnected) (λ (child : Child). subtree design levels (visit.depth + 1) (inside visit.path child.path) child.spec) (design.facts visit.spec).children
    (λ child. visits_below design levels (child_visit visit child) child.unconnected))

pub visits_of_all : (design : Design) → map visit_of (seen design) ≡ instances design
visits_of_all design =
    visits_of_each (λ (top : Spec). seen_below design 64 (top_visit top) []) (λ (top : Spec). subtree design 64 1 (top_path top) top) design.tops (λ top. visits_below design 64 (top_visit top) [])
