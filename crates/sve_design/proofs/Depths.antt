-- The depths of the instances of a design.
use Rattle.std.proofs.Common.{◌≡◌, ℕ, zero, suc, ◌+◌, ◌<◌, ◌≤◌, ◌⊎◌, inl, inr, List, [], ◌∷◌, refl, ap, sym, ◌∙◌, arith}
use Rattle.std.specs.List.{Contains, flat_map}
use Rattle.std.proofs.lemmas.List.Elements.{Contains-append_cases}
use Rattle.sve_bytes.specs.declared.path.Path.{Path}
use Rattle.sve_spec.specs.declared.spec.Spec.{Spec}
use Rattle.sve_facts.specs.declared.facts.Child.{Child}
use Rattle.sve_facts.specs.Bodies.{Design}
use Rattle.sve_design.specs.declared.visits.Visit.{Visit}
use Rattle.sve_design.specs.Walk.{inside, top_path, subtree, instances}
use Rattle.sve_design.proofs.Asked.{nothing_in}

-- of all that some things give, each is given by one of them
given_by_one : {A : Type 0} (P : Visit → Type 0) (f : A → List Visit) (xs : List A) → ((x : A) (v : Visit) → Contains (f x) v → P v) → (v : Visit) → Contains (flat_map f xs) v → P v
given_by_one P f [] each v c = absurd (nothing_in v c)
given_by_one P f (x ∷ xs) each v c = elim (Contains-append_cases (f x) (flat_map f xs) v c) [ inl h ↦ each x v h | inr h ↦ given_by_one P f xs each v h ]

-- the depths of an instance and those below it
abbrev IsWithin : ℕ → ℕ → Visit → Type 0
IsWithin low high v = (low ≤ v.depth) × (v.depth < high)

itself_or : (u v : Visit) (vs : List Visit) (low high : ℕ) → u.depth ≡ low → low < high → (Contains vs v → IsWithin (low + 1) high v) → (Contains (u ∷ []) v ⊎ Contains vs v) → IsWithin low high v
itself_or u v vs low high at within rest (inr c) = let r = rest c in (omega (arith, r.0), r.1)
itself_or u v vs low high at within rest (inl (zero, lt, is)) = let same : v.depth ≡ low = ap (λ (w : Visit). w.depth) (sym is) ∙ at in (omega (arith, same), omega (arith, same, within))
itself_or u v vs low high at within rest (inl (suc k, lt, is)) = absurd (omega (arith, lt))

depths_in : (design : Design) (levels depth high : ℕ) (path : Path) (spec : Spec) → depth + levels ≡ high → (v : Visit) → Contains (subtree design levels depth path spec) v → IsWithin depth high v
depths_in design zero depth high path spec e v c = absurd (nothing_in v c)
depths_in design (suc levels) depth high path spec e v c =
    let u : Visit = record { path = path; spec = spec; depth = depth } in
    let g = λ (child : Child). subtree design levels (depth + 1) (inside path child.path) child.spec in
    let vs = flat_map g (design.facts spec).children in
    itself_or u v vs depth high refl (omega (arith, e)) (given_by_one (IsWithin (depth + 1) high) g (design.facts spec).children (λ child. depths_in design levels (depth + 1) high (inside path child.path) child.spec (omega (arith, e))) v) (Contains-append_cases (u ∷ []) vs v c)

pub depth_within : (design : Design) (v : Visit) → Contains (instances design) v → (0 < v.depth) × (v.depth ≤ 64)
depth_within design v c =
    let w : IsWithin 1 65 v = given_by_one (IsWithin 1 65) (λ top. subtree design 64 1 (top_path top) top) design.tops (λ top. depths_in design 64 1 65 (top_path top) top (omega arith)) v c in
    (omega (arith, w.0), omega (arith, w.1))
