-- Each instance on the way along a path stands on the path: the steps of its own path, and those behind it, are the steps of the path.
use Rattle.std.proofs.Common.{◌≡◌, ℕ, zero, suc, ◌+◌, ◌-◌, Bool, true, false, cond, Option, Some, None, List, [], ◌∷◌, ◌++◌, length, drop, refl, ap, sym, ◌∙◌, subst}
use Rattle.std.specs.Prelude.{is_none, nat_le, nat_eq}
use Rattle.std.specs.Bool.{Decides}
use Rattle.std.specs.List.{All, starts_with}
use Rattle.std.specs.List as list
use Rattle.std.specs.Ordering.{eq_by_cmp, is_eq}
use Rattle.std.specs.Cmp.Lexicographic.{pointwise, same_text}
use Rattle.std.proofs.lemmas.Cmp.{tied_itself}
use Rattle.std.proofs.lemmas.List.{append_assoc}
use Rattle.std.proofs.lemmas.List.Elements.{All-cons, All-head, All-nil, All-tail}
use Rattle.std.proofs.lemmas.Map.Views.{tells_apart}
use Rattle.std.proofs.lemmas.Slice.Eq.{starts_is}
use Rattle.sve_bytes.specs.PathOrder.{step_cmp, step_total}
use Rattle.sve_bytes.specs.declared.path.Path.{Path}
use Rattle.sve_bytes.specs.declared.path.Step.{Step}
use Rattle.sve_bytes.proofs.PathsAreExact.{step_exact}
use Rattle.sve_spec.specs.declared.spec.Spec.{Spec}
use Rattle.sve_scope.specs.declared.spot.Spot.{Spot}
use Rattle.sve_facts.specs.declared.facts.Child.{Child}
use Rattle.sve_facts.specs.declared.facts.Facts.{Facts}
use Rattle.sve_facts.specs.Bodies.{Design}
use Rattle.sve_design.specs.Walk.{cost_of_all, inside, top_path}
use Rattle.sve_find.specs.Ends.{FindValue, FoundValue, Here, Nowhere, Spent, token_place}
use Rattle.sve_find.specs.Along.{Reached, StandsOn, along, end_of, find, first_of, leads, may_end, names_top, through, visits, way}

-- a path that begins steps, and those behind it, are the steps
same_step : (s t : Step) → Decides (eq_by_cmp step_cmp s t) (s ≡ t)
same_step s t = (λ e. tells_apart step_exact s t e, λ same. subst (λ (u : Step). eq_by_cmp step_cmp s u ≡ true) same (ap is_eq (tied_itself step_total s)))

begun : (steps path : List Step) → starts_with (eq_by_cmp step_cmp) steps path ≡ true → path ++ drop (length path) steps ≡ steps
begun steps path e = sym ((starts_is same_step steps path (starts_with (eq_by_cmp step_cmp) steps path) refl).0 e)

-- the first thing that passes does
behind_it : {A : Type 0} (p : A → Bool) (b : Bool) (y x : A) (rest : Option A) → p y ≡ b → cond b (Some y) rest ≡ Some x → (rest ≡ Some x → p x ≡ true) → p x ≡ true
behind_it p true y x rest h e later = let same : y ≡ x = cc in subst (λ z. p z ≡ true) same h
behind_it p false y x rest h e later = later e

passes : {A : Type 0} (p : A → Bool) (xs : List A) (x : A) → list.find p xs ≡ Some x → p x ≡ true
passes p [] x e = cc
passes p (y ∷ ys) x e = behind_it p (p y) y x (list.find p ys) refl e (λ later. passes p ys x later)

all_through : {A : Type 0} (P : Reached → Type 0) (f : A → List Reached) (p : A → Bool) (xs : List A) (o : Option A) → list.find p xs ≡ o → ((x : A) → p x ≡ true → All P (f x)) → All P (through f o)
all_through P f p xs None e each = All-nil P
all_through P f p xs (Some x) e each = each x (passes p xs x e)

stand : (design : Design) (levels depth : ℕ) (path : Path) (at : Option Spot) (spec : Spec) (steps whole : List Step) → path.steps ++ steps ≡ whole → All (StandsOn whole) (way design levels depth path at spec steps)
stand design zero depth path at spec steps whole e = All-nil (StandsOn whole)
stand design (suc levels) depth path at spec steps whole e =
    let name = λ (child : Child). token_place (design.facts spec).scopes child.token in
    let f = λ (child : Child). way design levels (depth + 1) (inside path child.path) (name child) child.spec (drop (length child.path.steps) steps) in
    let found = list.find (leads steps) (design.facts spec).children in
    All-cons (StandsOn whole) (first_of path at spec depth steps) (through f found) e
    (all_through (StandsOn whole) f (leads steps) (design.facts spec).children found refl
    (λ child led. stand design levels (depth + 1) (inside path child.path) (name child) child.spec (drop (length child.path.steps) steps) whole
    (append_assoc path.steps child.path.steps (drop (length child.path.steps) steps) ∙ ap (λ (ss : List Step). path.steps ++ ss) (begun steps child.path.steps led) ∙ e)))

-- the first step of a path is the path of the top that it names
no_index : {A : Type 0} (o : Option A) (b : Bool) → cond (is_none o) b false ≡ true → (o ≡ None) × (b ≡ true)
no_index None b e = (refl, e)
no_index (Some x) b e = cc

top_begins : (top : Spec) (steps : List Step) → names_top steps top ≡ true → (top_path top).steps ++ drop 1 steps ≡ steps
top_begins top [] e = cc
top_begins top (s ∷ ss) e =
    let both = no_index s.index (pointwise nat_eq top.definition s.name) e in
    let name : top.definition ≡ s.name = same_text top.definition s.name (sym both.1) in
    let index : None ≡ s.index = sym both.0 in
    λ i. record { name = name i; index = index i } ∷ ss

all_stand : (design : Design) (path : Path) → All (StandsOn path.steps) (along design path)
all_stand design path =
    let f = λ (top : Spec). way design 64 1 (top_path top) None top (drop 1 path.steps) in
    all_through (StandsOn path.steps) f (names_top path.steps) design.tops (list.find (names_top path.steps) design.tops) refl
    (λ top named. stand design 64 1 (top_path top) None top (drop 1 path.steps) path.steps (top_begins top path.steps named))

-- and so does what is found
here_stands : (b : Bool) (r : Reached) (facts : Facts) (left : ℕ) (found : FoundValue) (steps : List Step) → StandsOn steps r → cond b (Here (record { visit = r.visit; at = r.at; facts = facts; rest = r.rest; left = left })) Nowhere ≡ Here found → found.visit.path.steps ++ found.rest ≡ steps
here_stands true r facts left found steps s e =
    let value : FoundValue = record { visit = r.visit; at = r.at; facts = facts; rest = r.rest; left = left } in
    let same : value ≡ found = cc in
    sym (ap (λ (v : FoundValue). v.visit.path.steps ++ v.rest) same) ∙ s
here_stands false r facts left found steps s e = cc

last_stands : (design : Design) (reached : List Reached) (left : ℕ) (found : FoundValue) (steps : List Step) → All (StandsOn steps) reached → end_of design reached left ≡ Here found → found.visit.path.steps ++ found.rest ≡ steps
last_stands design [] left found steps all e = cc
last_stands design (r ∷ []) left found steps all e = here_stands (may_end (design.facts r.visit.spec) r.rest) r (design.facts r.visit.spec) left found steps (All-head (StandsOn steps) r [] all) e
last_stands design (r ∷ next ∷ rest) left found steps all e = last_stands design (next ∷ rest) left found steps (All-tail (StandsOn steps) r (next ∷ rest) all) e

where_paid : (b : Bool) (value : FindValue) (found : FoundValue) → cond b value Spent ≡ Here found → value ≡ Here found
where_paid true value found e = e
where_paid false value found e = cc

pub found_stands : (design : Design) (budget : ℕ) (path : Path) (found : FoundValue) → find design budget path ≡ Here found → found.visit.path.steps ++ found.rest ≡ path.steps
found_stands design budget path found e =
    let reached = along design path in
    let cost = cost_of_all design (visits reached) in
    last_stands design reached (budget - cost) found path.steps (all_stand design path) (where_paid (nat_le cost budget) (end_of design reached (budget - cost)) found e)
