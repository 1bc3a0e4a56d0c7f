-- Instances that are paid for one after the other.
use Rattle.std.proofs.Common.{◌≡◌, ℕ, zero, suc, ◌+◌, ◌-◌, ◌<◌, ◌≤◌, Bool, true, false, cond, Option, Some, None, List, [], ◌∷◌, ◌++◌, length, get_or, drop, refl, ap, sym, ◌∙◌, arith}
use Rattle.std.specs.Prelude.{nat_le}
use Rattle.std.specs.List.{flat_map}
use Rattle.std.proofs.Math.Seq.{drop-cons}
use Rattle.std.proofs.lemmas.List.{append_assoc, append-nil, drop_all}
use Rattle.std.proofs.lemmas.Bool.{leb-true, leb-false}
use Rattle.sve_bytes.specs.declared.path.Path.{Path}
use Rattle.sve_spec.specs.declared.spec.Spec.{Spec}
use Rattle.sve_facts.specs.declared.facts.Child.{Child}
use Rattle.sve_facts.specs.declared.facts.Facts.{Facts}
use Rattle.sve_told.specs.Told.{asked_on}
use Rattle.sve_facts.specs.Bodies.{Design, Question, OfBody, BodyValue, Costs, CostsMore, answer_of}
use Rattle.sve_design.specs.declared.visits.Visit.{Visit}
use Rattle.sve_design.specs.Walk.{inside, subtree, cost_of_all}
use Rattle.sve_design.specs.Paying.{Account, bodies_asked, asking, paid, pay_first, pay_all}

-- what was asked
pub asked_none : (asked : Option (List Question)) → asked_on [] asked ≡ asked
asked_none None = refl
asked_none (Some before) = ap Some (append-nil before)

pub asked_further : (q : Question) (qs : List Question) (asked : Option (List Question)) → asked_on qs (asked_on (q ∷ []) asked) ≡ asked_on (q ∷ qs) asked
asked_further q qs None = refl
asked_further q qs (Some before) = ap Some (append_assoc before (q ∷ []) qs)

-- two parts
abbrev pub on_paid : Bool × Account → (Account → Bool × Account) → Bool × Account
on_paid (true, a) rest = rest a
on_paid (false, a) rest = (false, a)

first-append : (design : Design) (v : Visit) (left : ℕ) (a : Account) (f g h : Account → Bool × Account) → ((b : Account) → h b ≡ on_paid (f b) g) → pay_first design v left a h ≡ on_paid (pay_first design v left a f) g
first-append design v zero a f g h e = refl
first-append design v (suc left) a f g h e = by (nat_le (design.cost v.spec) left)
  where
    by : (b : Bool) → cond b (h (paid design v left a)) (false, asking v left a) ≡ on_paid (cond b (f (paid design v left a)) (false, asking v left a)) g
    by true = e (paid design v left a)
    by false = refl

pub pay_all-append : (design : Design) (vs ws : List Visit) (a : Account) → pay_all design (vs ++ ws) a ≡ on_paid (pay_all design vs a) (pay_all design ws)
pay_all-append design [] ws a = refl
pay_all-append design (v ∷ vs) ws a = first-append design v a.left a (pay_all design vs) (pay_all design ws) (pay_all design (vs ++ ws)) (λ b. pay_all-append design vs ws b)

-- a body that is told, and one that costs more
abbrev facts_in : BodyValue → Facts → Facts
facts_in (Costs facts cost) other = facts
facts_in CostsMore other = other

abbrev cost_in : BodyValue → ℕ
cost_in (Costs facts cost) = cost
cost_in CostsMore = 0

pub so_done : (design : Design) (spec : Spec) (fuel : ℕ) (facts : Facts) (cost : ℕ) → Costs facts cost ≡ answer_of design (OfBody spec fuel) → (nat_le (design.cost spec) fuel ≡ true) × (design.facts spec ≡ facts) × (design.cost spec ≡ cost)
so_done design spec fuel facts cost e = by (nat_le (design.cost spec) fuel) e
  where
    by : (b : Bool) → Costs facts cost ≡ cond b (Costs (design.facts spec) (design.cost spec)) CostsMore → (b ≡ true) × (design.facts spec ≡ facts) × (design.cost spec ≡ cost)
    by true e = (refl, sym (ap (λ v. facts_in v facts) e), sym (ap cost_in e))
    by false e = cc

pub so_over : (design : Design) (spec : Spec) (fuel : ℕ) → CostsMore ≡ answer_of design (OfBody spec fuel) → nat_le (design.cost spec) fuel ≡ false
so_over design spec fuel e = by (nat_le (design.cost spec) fuel) e
  where
    by : (b : Bool) → CostsMore ≡ cond b (Costs (design.facts spec) (design.cost spec)) CostsMore → b ≡ false
    by true e = cc
    by false e = refl

-- an instance is entered: what is left to pay for is what is below it
pub entered : (design : Design) (levels below depth left : ℕ) (path : Path) (spec : Spec) (facts : Facts) (cost : ℕ) (children : List Child) (a b : Account) → levels ≡ suc below → a.left ≡ suc left → Costs facts cost ≡ answer_of design (OfBody spec left) → children ≡ facts.children → b ≡ record { visits = a.visits ++ record { path = path; spec = spec; depth = depth } ∷ []; left = left - cost; asked = asked_on (OfBody spec left ∷ []) a.asked } → pay_all design (subtree design levels depth path spec) a ≡ pay_all design (flat_map (λ (child : Child). subtree design below (depth + 1) (inside path child.path) child.spec) children) b
entered design levels below depth left path spec facts cost children a b more some told same after =
    let v : Visit = record { path = path; spec = spec; depth = depth } in
    let f = λ (child : Child). subtree design below (depth + 1) (inside path child.path) child.spec in
    let s = so_done design spec left facts cost told in
    let rest = pay_all design (flat_map f (design.facts spec).children) in
    ap (λ (n : ℕ). pay_all design (subtree design n depth path spec) a) more ∙ ap (λ (n : ℕ). pay_first design v n a rest) some ∙ ap (λ (x : Bool). cond x (rest (paid design v left a)) (false, asking v left a)) s.0
    ∙ ap (λ (cs : List Child). pay_all design (flat_map f cs) (paid design v left a)) (ap (λ (x : Facts). x.children) s.1 ∙ sym same)
    ∙ ap (pay_all design (flat_map f children)) (ap (λ (n : ℕ). record { visits = a.visits ++ v ∷ []; left = left - n; asked = asked_on (OfBody spec left ∷ []) a.asked }) s.2 ∙ sym after)

-- nothing is left
pub none_left : (design : Design) (levels below depth : ℕ) (path : Path) (spec : Spec) (a : Account) → levels ≡ suc below → a.left ≡ 0 → pay_all design (subtree design levels depth path spec) a ≡ (false, a)
none_left design levels below depth path spec a more none =
    let v : Visit = record { path = path; spec = spec; depth = depth } in
    let rest = pay_all design (flat_map (λ (child : Child). subtree design below (depth + 1) (inside path child.path) child.spec) (design.facts spec).children) in
    ap (λ (n : ℕ). pay_all design (subtree design n depth path spec) a) more ∙ ap (λ (n : ℕ). pay_first design v n a rest) none

-- too little is left
pub too_dear : (design : Design) (levels below depth left : ℕ) (path : Path) (spec : Spec) (a : Account) (asked : Option (List Question)) → levels ≡ suc below → a.left ≡ suc left → CostsMore ≡ answer_of design (OfBody spec left) → asked ≡ asked_on (OfBody spec left ∷ []) a.asked → pay_all design (subtree design levels depth path spec) a ≡ (false, record a { asked = asked })
too_dear design levels below depth left path spec a asked more some told after =
    let v : Visit = record { path = path; spec = spec; depth = depth } in
    let rest = pay_all design (flat_map (λ (child : Child). subtree design below (depth + 1) (inside path child.path) child.spec) (design.facts spec).children) in
    ap (λ (n : ℕ). pay_all design (subtree design n depth path spec) a) more ∙ ap (λ (n : ℕ). pay_first design v n a rest) some
    ∙ ap (λ (x : Bool). cond x (rest (paid design v left a)) (false, asking v left a)) (so_over design spec left told)
    ∙ ap (λ (o : Option (List Question)). (false, record a { asked = o })) (sym after)

-- the next of some things, each of which gives instances
pub next_paid : {A : Type 0} (design : Design) (f : A → List Visit) (xs rest : List A) (x : A) (a b : Account) (is_enough : Bool) → xs ≡ x ∷ rest → (is_enough, b) ≡ pay_all design (f x) a → pay_all design (flat_map f xs) a ≡ on_paid (is_enough, b) (pay_all design (flat_map f rest))
next_paid design f xs rest x a b is_enough e h =
    ap (λ l. pay_all design (flat_map f l) a) e ∙ pay_all-append design (f x) (flat_map f rest) a ∙ ap (λ (r : Bool × Account). on_paid r (pay_all design (flat_map f rest))) (sym h)

pub none_to_pay : {A : Type 0} (design : Design) (f : A → List Visit) (xs : List A) (a : Account) → xs ≡ [] → pay_all design (flat_map f xs) a ≡ (true, a)
none_to_pay design f xs a e = ap (λ l. pay_all design (flat_map f l) a) e

pub next_at : {A : Type 0} (xs : List A) (i : ℕ) (x : A) → i < length xs → x ≡ get_or xs i x → drop i xs ≡ x ∷ drop (i + 1) xs
next_at xs i x lt e =
    let k : suc i ≡ i + 1 = omega arith in
    drop-cons xs i x lt ∙ ap (λ y. y ∷ drop (suc i) xs) (sym e) ∙ ap (λ n. x ∷ drop n xs) k

-- with the next one of a list from a place on
pub paid_at : {A : Type 0} (design : Design) (f : A → List Visit) (xs : List A) (i : ℕ) (x : A) (part : List Visit) (a b : Account) (r : Bool) → i < length xs → x ≡ get_or xs i x → part ≡ f x → (r, b) ≡ pay_all design part a → pay_all design (flat_map f (drop i xs)) a ≡ on_paid (r, b) (pay_all design (flat_map f (drop (i + 1) xs)))
paid_at design f xs i x part a b r lt e same h =
    next_paid design f (drop i xs) (drop (i + 1) xs) x a b r (next_at xs i x lt e) (h ∙ ap (λ (vs : List Visit). pay_all design vs a) same)

-- none is left
pub paid_end : {A : Type 0} (design : Design) (f : A → List Visit) (xs : List A) (i : ℕ) (a : Account) → length xs ≤ i → pay_all design (flat_map f (drop i xs)) a ≡ (true, a)
paid_end design f xs i a le = none_to_pay design f (drop i xs) a (drop_all i xs le)

-- the part that a child gives, by another count of its levels
pub child_part : (design : Design) (levels depth other : ℕ) (path inner : Path) (child : Child) → other ≡ depth + 1 → inner ≡ path → subtree design levels other (inside inner child.path) child.spec ≡ subtree design levels (depth + 1) (inside path child.path) child.spec
child_part design levels depth other path inner child e f =
    ap (λ (n : ℕ). subtree design levels n (inside inner child.path) child.spec) e ∙ ap (λ (p : Path). subtree design levels (depth + 1) (inside p child.path) child.spec) f

pub account_is : (v w : List Visit) (l m : ℕ) (o p : Option (List Question)) → v ≡ w → l ≡ m → o ≡ p → ◌≡◌ {A = Account} (record { visits = v; left = l; asked = o }) (record { visits = w; left = m; asked = p })
account_is v w l m o p e f g =
    ap (λ (x : List Visit). record { visits = x; left = l; asked = o }) e ∙ ap (λ (n : ℕ). record { visits = w; left = n; asked = o }) f ∙ ap (λ (x : Option (List Question)). record { visits = w; left = m; asked = x }) g

-- what all of it comes to
pub record IsPaid (design : Design) (vs : List Visit) (a b : Account) : Type 0 where
  pub enough : cost_of_all design vs ≤ a.left
  pub visits : b.visits ≡ a.visits ++ vs
  pub left : b.left ≡ a.left - cost_of_all design vs
  pub asked : b.asked ≡ asked_on (bodies_asked design a.left vs) a.asked

pub record IsSpent (design : Design) (vs : List Visit) (a b : Account) : Type 0 where
  pub dear : a.left < cost_of_all design vs
  pub asked : b.asked ≡ asked_on (bodies_asked design a.left vs) a.asked

abbrev pub ComesTo : Design → List Visit → Account → Bool × Account → Type 0
ComesTo design vs a (true, b) = IsPaid design vs a b
ComesTo design vs a (false, b) = IsSpent design vs a b

pub asks_next : (design : Design) (v : Visit) (vs : List Visit) (left n : ℕ) (b : Bool) → left ≡ suc n → nat_le (design.cost v.spec) n ≡ b → bodies_asked design left (v ∷ vs) ≡ OfBody v.spec n ∷ cond b (bodies_asked design (n - design.cost v.spec) vs) []
asks_next design v vs left n b e h =
    ap (λ (l : ℕ). bodies_asked design l (v ∷ vs)) e ∙ ap (λ (x : Bool). OfBody v.spec n ∷ cond x (bodies_asked design (n - design.cost v.spec) vs) []) h

behind_paid : (design : Design) (v : Visit) (vs : List Visit) (n : ℕ) (a : Account) (r : Bool × Account) → a.left ≡ suc n → nat_le (design.cost v.spec) n ≡ true → ComesTo design vs (paid design v n a) r → ComesTo design (v ∷ vs) a r
behind_paid design v vs n a (true, b) e h p =
    let fits = leb-true (design.cost v.spec) n h in
    let enough = p.enough in
    let left = p.left in
    record {
      enough = omega (arith, e, fits, enough);
      visits = p.visits ∙ append_assoc a.visits (v ∷ []) vs;
      left = left ∙ omega (arith, e, fits, enough);
      asked = p.asked ∙ asked_further (OfBody v.spec n) (bodies_asked design (n - design.cost v.spec) vs) a.asked ∙ ap (λ (qs : List Question). asked_on qs a.asked) (sym (asks_next design v vs a.left n true e h));
    }
behind_paid design v vs n a (false, b) e h p =
    let fits = leb-true (design.cost v.spec) n h in
    let dear = p.dear in
    record {
      dear = omega (arith, e, fits, dear);
      asked = p.asked ∙ asked_further (OfBody v.spec n) (bodies_asked design (n - design.cost v.spec) vs) a.asked ∙ ap (λ (qs : List Question). asked_on qs a.asked) (sym (asks_next design v vs a.left n true e h));
    }

first_comes_to : (design : Design) (v : Visit) (vs : List Visit) (left : ℕ) (a : Account) → a.left ≡ left → ((b : Account) → ComesTo design vs b (pay_all design vs b)) → ComesTo design (v ∷ vs) a (pay_first design v left a (pay_all design vs))
first_comes_to design v vs zero a e rest = record {
  dear = omega (arith, e);
  asked = sym (asked_none a.asked) ∙ ap (λ (n : ℕ). asked_on (bodies_asked design n (v ∷ vs)) a.asked) (sym e);
}
first_comes_to design v vs (suc n) a e rest = by (nat_le (design.cost v.spec) n) refl
  where
    by : (b : Bool) → nat_le (design.cost v.spec) n ≡ b → ComesTo design (v ∷ vs) a (cond b (pay_all design vs (paid design v n a)) (false, asking v n a))
    by true h = behind_paid design v vs n a (pay_all design vs (paid design v n a)) e h (rest (paid design v n a))
    by false h =
        let dear = leb-false (design.cost v.spec) n h in
        record {
          dear = omega (arith, e, dear);
          asked = ap (λ (qs : List Question). asked_on qs a.asked) (sym (asks_next design v vs a.left n false e h));
        }

pub comes_to : (design : Design) (vs : List Visit) (a : Account) → ComesTo design vs a (pay_all design vs a)
comes_to design [] a = record { enough = omega arith; visits = sym (append-nil a.visits); left = omega arith; asked = sym (asked_none a.asked) }
comes_to design (v ∷ vs) a = first_comes_to design v vs a.left a refl (λ b. comes_to design vs b)
