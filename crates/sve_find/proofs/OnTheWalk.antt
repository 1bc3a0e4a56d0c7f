-- The instances on a path are among those of the walk.
use Rattle.std.proofs.Common.{◌≡◌, ℕ, zero, suc, ◌+◌, ◌<◌, ◌⊎◌, inl, inr, Bool, true, false, cond, Option, Some, None, List, [], ◌∷◌, ◌++◌, length, drop, refl, sym, subst, arith}
use Rattle.std.specs.List.{Contains, flat_map}
use Rattle.std.specs.List as list
use Rattle.std.proofs.lemmas.List.Elements.{Contains-append_cases, Contains-append_left, Contains-append_right}
use Rattle.sve_bytes.specs.declared.path.Path.{Path}
use Rattle.sve_bytes.specs.declared.path.Step.{Step}
use Rattle.sve_spec.specs.declared.spec.Spec.{Spec}
use Rattle.sve_scope.specs.declared.spot.Spot.{Spot}
use Rattle.sve_facts.specs.declared.facts.Child.{Child}
use Rattle.sve_facts.specs.Bodies.{Design}
use Rattle.sve_design.specs.declared.visits.Visit.{Visit}
use Rattle.sve_find.specs.Ends.{token_place}
use Rattle.sve_design.specs.Walk.{inside, top_path, subtree, instances}
use Rattle.sve_find.specs.Along.{Reached, through, leads, names_top, way, along, visits}

-- what is behind the first thing that passes stands in what is behind all of them
by_first : {A : Type 0} (b : Bool) (f : A → List Visit) (x y : A) (rest : Option A) (others : List Visit) (v : Visit) → cond b (Some y) rest ≡ Some x → (rest ≡ Some x → Contains others v) → Contains (f x) v → Contains (f y ++ others) v
by_first true f x y rest others v e later c = let same : y ≡ x = cc in Contains-append_left (f y) others v (subst (λ z. Contains (f z) v) (sym same) c)
by_first false f x y rest others v e later c = Contains-append_right (f y) others v (later e)

first_among : {A : Type 0} (f : A → List Visit) (p : A → Bool) (xs : List A) (x : A) (v : Visit) → list.find p xs ≡ Some x → Contains (f x) v → Contains (flat_map f xs) v
first_among f p [] x v e c = cc
first_among f p (y ∷ ys) x v e c = by_first (p y) f x y (list.find p ys) (flat_map f ys) v e (λ later. first_among f p ys x v later c) c

nowhere : (v : Visit) → Contains [] v → ⊥
nowhere v c = let l : c.0 < 0 = c.1 in omega arith

behind_first : {A : Type 0} (f : A → List Reached) (g : A → List Visit) (p : A → Bool) (xs : List A) (v : Visit) (found : Option A) → list.find p xs ≡ found → ((x : A) → Contains (visits (f x)) v → Contains (g x) v) → Contains (visits (through f found)) v → Contains (flat_map g xs) v
behind_first f g p xs v None e each c = absurd (nowhere v c)
behind_first f g p xs v (Some x) e each c = first_among g p xs x v e (each x c)

in_either : (u v : Visit) (some all : List Visit) → (Contains some v → Contains all v) → (Contains (u ∷ []) v ⊎ Contains some v) → Contains (u ∷ all) v
in_either u v some all more (inl c) = Contains-append_left (u ∷ []) all v c
in_either u v some all more (inr c) = Contains-append_right (u ∷ []) all v (more c)

way_in : (design : Design) (levels depth : ℕ) (path : Path) (at : Option Spot) (spec : Spec) (steps : List Step) (v : Visit) → Contains (visits (way design levels depth path at spec steps)) v → Contains (subtree design levels depth path spec) v
way_in design zero depth path at spec steps v c = c
way_in design (suc levels) depth path at spec steps v c =
    let u : Visit = record { path = path; spec = spec; depth = depth } in
    let name = λ (child : Child). token_place (design.facts spec).scopes child.token in
    let f = λ (child : Child). way design levels (depth + 1) (inside path child.path) (name child) child.spec (drop (length child.path.steps) steps) in
    let g = λ (child : Child). subtree design levels (depth + 1) (inside path child.path) child.spec in
    let found = list.find (leads steps) (design.facts spec).children in
    in_either u v (visits (through f found)) (flat_map g (design.facts spec).children)
    (behind_first f g (leads steps) (design.facts spec).children v found refl (λ child. way_in design levels (depth + 1) (inside path child.path) (name child) child.spec (drop (length child.path.steps) steps) v))
    (Contains-append_cases (u ∷ []) (visits (through f found)) v c)

pub found_is_visited : (design : Design) (path : Path) (v : Visit) → Contains (visits (along design path)) v → Contains (instances design) v
found_is_visited design path v c =
    behind_first (λ top. way design 64 1 (top_path top) None top (drop 1 path.steps)) (λ top. subtree design 64 1 (top_path top) top) (names_top path.steps) design.tops v (list.find (names_top path.steps) design.tops) refl (λ top. way_in design 64 1 (top_path top) None top (drop 1 path.steps) v) c
