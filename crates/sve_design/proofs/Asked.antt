-- What a part of a walk asks for is among what the whole asks for, and where an object halts in a part, it halts in the whole.
use Rattle.std.proofs.Common.{◌≡◌, ℕ, zero, suc, ◌+◌, ◌-◌, ◌<◌, ◌≤◌, ◌⊎◌, inl, inr, Bool, true, false, cond, Option, Some, Result, Ok, Err, List, [], ◌∷◌, ◌++◌, length, get_or, drop, refl, ap, sym, ◌∙◌, subst, arith}
use Rattle.std.specs.Prelude.{nat_le, IfErr}
use Rattle.std.specs.List.{Contains, flat_map}
use Rattle.std.proofs.lemmas.List.Elements.{Contains-append_cases, Contains-append_left, Contains-append_right}
use Rattle.std.proofs.lemmas.Bool.{le-leb}
use Rattle.sve_bytes.specs.declared.path.Path.{Path}
use Rattle.sve_spec.specs.declared.spec.Spec.{Spec}
use Rattle.sve_told.specs.Told.{Tells, TellSame}
use Rattle.sve_facts.specs.declared.facts.Child.{Child}
use Rattle.sve_facts.specs.declared.facts.Facts.{Facts}
use Rattle.sve_facts.specs.Bodies.{Answer, Design, Question, OfBody, Costs, answer_of}
use Rattle.sve_design.specs.declared.visits.Visit.{Visit}
use Rattle.sve_design.specs.Walk.{inside, subtree, cost_of_all}
use Rattle.sve_design.specs.Paying.{Account, bodies_asked, pay_all}
use Rattle.sve_design.specs.Halts.{HaltedAmong}
use Rattle.sve_design.proofs.Accounts.{IsPaid, ComesTo, comes_to, asks_next, next_at, so_done}

pub nothing_in : {X : Type 0} (x : X) → Contains [] x → ⊥
nothing_in x c = let l : c.0 < 0 = c.1 in omega arith

pub first_in : {X : Type 0} (x : X) (xs : List X) → Contains (x ∷ xs) x
first_in x xs = (0, omega arith, refl)

pub later_in : {X : Type 0} (y x : X) (xs : List X) → Contains xs x → Contains (y ∷ xs) x
later_in y x xs c = Contains-append_right (y ∷ []) xs x c

-- the first part asks for no less in front of another
in_either : (b : Bool) (first q : Question) (some all : List Question) → (Contains some q → Contains all q) → Contains (first ∷ cond b some []) q → Contains (first ∷ cond b all []) q
in_either false first q some all more c = c
in_either true first q some all more c = elim (Contains-append_cases (first ∷ []) some q c) [ inl h ↦ Contains-append_left (first ∷ []) all q h | inr h ↦ later_in first q all (more h) ]

pub asks_first : (design : Design) (vs ws : List Visit) (left : ℕ) (q : Question) → Contains (bodies_asked design left vs) q → Contains (bodies_asked design left (vs ++ ws)) q
asks_first design [] ws left q c = absurd (nothing_in q c)
asks_first design (v ∷ vs) ws zero q c = absurd (nothing_in q c)
asks_first design (v ∷ vs) ws (suc n) q c =
    in_either (nat_le (design.cost v.spec) n) (OfBody v.spec n) q (bodies_asked design (n - design.cost v.spec) vs) (bodies_asked design (n - design.cost v.spec) (vs ++ ws)) (asks_first design vs ws (n - design.cost v.spec) q) c

-- and so does what is behind a part that is paid for
pub asks_tail : (design : Design) (v : Visit) (vs : List Visit) (left n : ℕ) (q : Question) → left ≡ suc n → nat_le (design.cost v.spec) n ≡ true → Contains (bodies_asked design (n - design.cost v.spec) vs) q → Contains (bodies_asked design left (v ∷ vs)) q
asks_tail design v vs left n q some fits c =
    subst (λ (qs : List Question). Contains qs q) (sym (asks_next design v vs left n true some fits)) (later_in (OfBody v.spec n) q (bodies_asked design (n - design.cost v.spec) vs) c)

pub asks_behind : (design : Design) (vs ws : List Visit) (left : ℕ) (q : Question) → cost_of_all design vs ≤ left → Contains (bodies_asked design (left - cost_of_all design vs) ws) q → Contains (bodies_asked design left (vs ++ ws)) q
asks_behind design [] ws left q h c = subst (λ (n : ℕ). Contains (bodies_asked design n ws) q) (omega arith) c
asks_behind design (v ∷ vs) ws zero q h c = absurd (omega (arith, h))
asks_behind design (v ∷ vs) ws (suc n) q h c =
    let rest = cost_of_all design vs in
    let less : suc n - (1 + design.cost v.spec + rest) ≡ n - design.cost v.spec - rest = omega (arith, h) in
    asks_tail design v (vs ++ ws) (suc n) n q refl (le-leb (design.cost v.spec) n (omega (arith, h)))
    (asks_behind design vs ws (n - design.cost v.spec) q (omega (arith, h)) (subst (λ (m : ℕ). Contains (bodies_asked design m ws) q) less c))

-- what one of some things asks for, and what those behind it do
pub asks_one : {A : Type 0} (design : Design) (f : A → List Visit) (xs : List A) (i : ℕ) (x : A) (part : List Visit) (left : ℕ) (q : Question) → i < length xs → x ≡ get_or xs i x → part ≡ f x → Contains (bodies_asked design left part) q → Contains (bodies_asked design left (flat_map f (drop i xs))) q
asks_one design f xs i x part left q lt e same c =
    subst (λ ys. Contains (bodies_asked design left (flat_map f ys)) q) (sym (next_at xs i x lt e)) (asks_first design (f x) (flat_map f (drop (i + 1) xs)) left q (subst (λ (vs : List Visit). Contains (bodies_asked design left vs) q) same c))

pub asks_rest : {A : Type 0} (design : Design) (f : A → List Visit) (xs : List A) (i : ℕ) (x : A) (part : List Visit) (a b : Account) (q : Question) → i < length xs → x ≡ get_or xs i x → part ≡ f x → (true, b) ≡ pay_all design part a → Contains (bodies_asked design b.left (flat_map f (drop (i + 1) xs))) q → Contains (bodies_asked design a.left (flat_map f (drop i xs))) q
asks_rest design f xs i x part a b q lt e same h c =
    let p : IsPaid design (f x) a b = subst (λ (r : Bool × Account). ComesTo design (f x) a r) (sym (h ∙ ap (λ (vs : List Visit). pay_all design vs a) same)) (comes_to design (f x) a) in
    subst (λ ys. Contains (bodies_asked design a.left (flat_map f ys)) q) (sym (next_at xs i x lt e))
    (asks_behind design (f x) (flat_map f (drop (i + 1) xs)) a.left q p.enough (subst (λ (n : ℕ). Contains (bodies_asked design n (flat_map f (drop (i + 1) xs))) q) p.left c))

-- an instance asks for its body, and what is below it asks for what it does
pub asks_itself : (design : Design) (levels below depth left n : ℕ) (path : Path) (spec : Spec) → levels ≡ suc below → left ≡ suc n → Contains (bodies_asked design left (subtree design levels depth path spec)) (OfBody spec n)
asks_itself design levels below depth left n path spec more some =
    let v : Visit = record { path = path; spec = spec; depth = depth } in
    let vs = flat_map (λ (child : Child). subtree design below (depth + 1) (inside path child.path) child.spec) (design.facts spec).children in
    let whole : bodies_asked design left (subtree design levels depth path spec) ≡ OfBody spec n ∷ cond (nat_le (design.cost spec) n) (bodies_asked design (n - design.cost spec) vs) [] =
    ap (λ (l : ℕ). bodies_asked design left (subtree design l depth path spec)) more ∙ asks_next design v vs left n (nat_le (design.cost spec) n) some refl in
    subst (λ (qs : List Question). Contains qs (OfBody spec n)) (sym whole) (first_in (OfBody spec n) (cond (nat_le (design.cost spec) n) (bodies_asked design (n - design.cost spec) vs) []))

pub asks_below : (design : Design) (levels below depth left n : ℕ) (path : Path) (spec : Spec) (facts : Facts) (cost : ℕ) (children : List Child) (q : Question) → levels ≡ suc below → left ≡ suc n → Costs facts cost ≡ answer_of design (OfBody spec n) → children ≡ facts.children → Contains (bodies_asked design (n - cost) (flat_map (λ (child : Child). subtree design below (depth + 1) (inside path child.path) child.spec) children)) q → Contains (bodies_asked design left (subtree design levels depth path spec)) q
asks_below design levels below depth left n path spec facts cost children q more some told same c =
    let v : Visit = record { path = path; spec = spec; depth = depth } in
    let f = λ (child : Child). subtree design below (depth + 1) (inside path child.path) child.spec in
    let s = so_done design spec n facts cost told in
    let children_are : children ≡ (design.facts spec).children = same ∙ ap (λ (x : Facts). x.children) (sym s.1) in
    subst (λ (l : ℕ). Contains (bodies_asked design left (subtree design l depth path spec)) q) (sym more)
    (asks_tail design v (flat_map f (design.facts spec).children) left n q some s.0
    (subst (λ (cs : List Child). Contains (bodies_asked design (n - design.cost spec) (flat_map f cs)) q) children_are
    (subst (λ (m : ℕ). Contains (bodies_asked design (n - m) (flat_map f children)) q) (sym s.2) c)))

-- a call halts the object at its question, which is one of these
pub halts_at : {P Q : Type 0} (tells : Tells Answer) (questions : List Question) (old new : Option Question) (question : Question) → Contains questions question → ((other : Question) → new ≡ Some other → (old ≡ Some other) ⊎ (P × (other ≡ question) × ((answer : Answer question) → tells question answer → ⊥) × Q)) → HaltedAmong tells questions old new
halts_at tells questions old new question c h other is =
    elim (h other is) [
      | inl e ↦ inl e
      | inr m ↦ inr (subst (λ (q : Question). Contains questions q) (sym m.1) c, subst (λ (q : Question). (answer : Answer q) → tells q answer → ⊥) (sym m.1) m.2)
    ]

-- and one that asks a part of these halts it at one of the part
pub halts_in : (tells now : Tells Answer) (all some : List Question) (old between new : Option Question) → TellSame tells now → between ≡ old → ((q : Question) → Contains some q → Contains all q) → HaltedAmong now some between new → HaltedAmong tells all old new
halts_in tells now all some old between new same still more h other is =
    elim (h other is) [
      | inl e ↦ inl (sym still ∙ e)
      | inr m ↦ inr (more other m.0, λ answer told. m.1 answer ((same other answer).0 told))
    ]

-- one that halted at no question in between
pub halts_not : (tells : Tells Answer) (questions : List Question) (old new : Option Question) → new ≡ old → HaltedAmong tells questions old new
halts_not tells questions old new still other is = inl (sym still ∙ is)

-- what holds whatever the error is
pub if_err : {R E P : Type 0} (r : Result R E) → P → IfErr r (λ (e : E). P)
if_err (Ok x) h = tt
if_err (Err e) h = h
