-- What a plan comes to: one induction for each law.
use Rattle.std.proofs.Common.{ℕ, ◌-◌, ◌^◌, ◌≤◌, ◌<◌, ◌≡◌, ◌⊎◌, inl, inr, Bool, true, false, cond, nat_le, Option, Some, None, refl, ap, ◌∙◌, subst, arith}
use Rattle.std.proofs.lemmas.Bool.{leb-true, leb-false, le-leb, lt-leb}
use Rattle.sve_fault.specs.Counts.{counted_on}
use Rattle.sve_told.specs.Told.{Told}
use Rattle.sve_plan.specs.Plan.{Plan, Give, Ask, Spend, Outcome, Done, Over, Needs, answered, within, run, and_then, AsksOnly}
use Rattle.sve_plan.specs.Laws.{IsLarger, CostIsExact, LessIsOverOrSame, IsSettled, NeedsItsOwn}

-- ---- a count that is within the most, and one that is not

pub within_goes : {Y : Type 0} (most used : ℕ) (over : Y) (go : ℕ → Y) → used ≤ most → within most used over go ≡ go used
within_goes most used over go le = ap (λ b. cond b (go used) over) (le-leb used most le)

pub within_ends : {Y : Type 0} (most used : ℕ) (over : Y) (go : ℕ → Y) → most < used → within most used over go ≡ over
within_ends most used over go lt = ap (λ b. cond b (go used) over) (lt-leb used most lt)

by_test : {P : Type 0} (used most : ℕ) (b : Bool) → nat_le used most ≡ b → (used ≤ most → P) → (most < used → P) → P
by_test used most true is below above = below (leb-true used most is)
by_test used most false is below above = above (leb-false used most is)

pub by_most : {P : Type 0} (used most : ℕ) → (used ≤ most → P) → (most < used → P) → P
by_most used most below above = by_test used most (nat_le used most) refl below above

-- ---- one plan and then another

-- what follows where a plan is done
abbrev pub on_done : {Q X Y : Type 0} → Outcome Q X → (X → ℕ → Outcome Q Y) → Outcome Q Y
on_done (Done x used) next = next x used
on_done Over next = Over
on_done (Needs q) next = Needs q

answered_then : {Q X Y B : Type 0} (q : Q) (o : Option B) (f : B → Outcome Q X) (g : B → Outcome Q Y) (next : X → ℕ → Outcome Q Y) → ((answer : B) → g answer ≡ on_done (f answer) next) → answered o (Needs q) g ≡ on_done (answered o (Needs q) f) next
answered_then q None f g next same = refl
answered_then q (Some answer) f g next same = same answer

within_then : {Q X Y : Type 0} (b : Bool) (f : Outcome Q X) (g : Outcome Q Y) (next : X → ℕ → Outcome Q Y) → g ≡ on_done f next → cond b g Over ≡ on_done (cond b f Over) next
within_then true f g next same = same
within_then false f g next same = refl

-- the second begins where the first is done
pub run_then : {Q : Type 0} {A : Q → Type 0} {X Y : Type 0} (told : Told A) (most used : ℕ) (plan : Plan A X) (next : X → Plan A Y) → run told most used (and_then plan next) ≡ on_done (run told most used plan) (λ x u. run told most u (next x))
unfolding run and_then
run_then told most used (Give x) next = refl
run_then told most used (Ask q go) next = answered_then q (told q) _ _ _ (λ answer. run_then told most used (go answer) next)
run_then told most used (Spend n rest) next = within_then (nat_le (counted_on used n) most) _ _ _ (run_then told most (counted_on used n) rest next)

-- ---- exact cost

answered_done : {Q X B : Type 0} (q : Q) (o : Option B) (f : B → Outcome Q X) (x : X) (cost : ℕ) (P : Type 0) → answered o (Needs q) f ≡ Done x cost → ((answer : B) → o ≡ Some answer → f answer ≡ Done x cost → P) → P
answered_done q None f x cost P is go = absurd (cc)
answered_done q (Some answer) f x cost P is go = go answer refl is

within_done : {Q X : Type 0} (b : Bool) (f : Outcome Q X) (x : X) (cost : ℕ) → cond b f Over ≡ Done x cost → f ≡ Done x cost
within_done true f x cost is = is
within_done false f x cost is = absurd (cc)

record IsExact {Q : Type 0} {A : Q → Type 0} {X : Type 0} (told : Told A) (used : ℕ) (plan : Plan A X) (x : X) (cost : ℕ) : Type 0 where
  rises : used ≤ cost
  enough : (most : ℕ) → cost ≤ most → run told most used plan ≡ Done x cost
  short : (most : ℕ) → used ≤ most → most < cost → run told most used plan ≡ Over

give_exact : {Q : Type 0} {A : Q → Type 0} {X : Type 0} (told : Told A) (used : ℕ) (y x : X) (cost : ℕ) → y ≡ x → used ≡ cost → IsExact told used (Give y) x cost
unfolding run
give_exact told used y x cost same is = record {
  rises = omega arith;
  enough = λ most le. ap (λ z. Done z used) same ∙ ap (Done x) is;
  short = λ most le lt. absurd (omega arith);
}

ask_exact : {Q : Type 0} {A : Q → Type 0} {X : Type 0} (told : Told A) (used : ℕ) (q : Q) (go : A q → Plan A X) (x : X) (cost : ℕ) (answer : A q) → told q ≡ Some answer → IsExact told used (go answer) x cost → IsExact told used (Ask q go) x cost
unfolding run
ask_exact told used q go x cost answer is exact = record {
  rises = exact.rises;
  enough = λ most le. ap (λ o. answered o (Needs q) (λ a. run told most used (go a))) is ∙ exact.enough most le;
  short = λ most le lt. ap (λ o. answered o (Needs q) (λ a. run told most used (go a))) is ∙ exact.short most le lt;
}

spend_exact : {Q : Type 0} {A : Q → Type 0} {X : Type 0} (told : Told A) (used n : ℕ) (rest : Plan A X) (x : X) (cost : ℕ) → used < 2 ^ 64 → IsExact told (counted_on used n) rest x cost → IsExact told used (Spend n rest) x cost
unfolding run
spend_exact told used n rest x cost small exact = let r = exact.rises in record {
  rises = omega arith;
  enough = λ most le. within_goes most (counted_on used n) Over (λ more. run told most more rest) (omega arith) ∙ exact.enough most le;
  short = λ most le lt. by_most (counted_on used n) most
      (λ fits. within_goes most (counted_on used n) Over (λ more. run told most more rest) fits ∙ exact.short most fits lt) (λ over. within_ends most (counted_on used n) Over (λ more. run told most more rest) over);
}

exact : {Q : Type 0} {A : Q → Type 0} {X : Type 0} (told : Told A) (most used : ℕ) (plan : Plan A X) (x : X) (cost : ℕ) → used < 2 ^ 64 → run told most used plan ≡ Done x cost → IsExact told used plan x cost
unfolding run
exact told most used (Give y) x cost small is = let same : y ≡ x = cc in let u : used ≡ cost = cc in give_exact told used y x cost same u
exact told most used (Ask q go) x cost small is =
    answered_done q (told q) _ x cost (IsExact told used (Ask q go) x cost) is (λ answer told_is done. ask_exact told used q go x cost answer told_is (exact told most used (go answer) x cost small done))
exact told most used (Spend n rest) x cost small is =
    spend_exact told used n rest x cost small (exact told most (counted_on used n) rest x cost (omega arith) (within_done (nat_le (counted_on used n) most) _ x cost is))

pub cost_is_exact : {Q : Type 0} {A : Q → Type 0} {X : Type 0} (plan : Plan A X) → CostIsExact plan
cost_is_exact plan told fuel cost x is other = let e = exact told fuel 0 plan x cost (omega arith) is in (e.enough other, e.short other (omega arith))

-- ---- less fuel

answered_less : {Q X B : Type 0} (q : Q) (o : Option B) (f g : B → Outcome Q X) → ((answer : B) → (f answer ≡ Over) ⊎ (f answer ≡ g answer)) → (answered o (Needs q) f ≡ Over) ⊎ (answered o (Needs q) f ≡ answered o (Needs q) g)
answered_less q None f g either = inr refl
answered_less q (Some answer) f g either = either answer

within_less : {Q X : Type 0} (b d : Bool) (f g : Outcome Q X) → (b ≡ true → d ≡ true) → ((f ≡ Over) ⊎ (f ≡ g)) → (cond b f Over ≡ Over) ⊎ (cond b f Over ≡ cond d g Over)
within_less true true f g fits either = either
within_less true false f g fits either = absurd (let no = fits refl in cc)
within_less false d f g fits either = inl refl

less_fuel : {Q : Type 0} {A : Q → Type 0} {X : Type 0} (told : Told A) (less more used : ℕ) (plan : Plan A X) → less ≤ more → (run told less used plan ≡ Over) ⊎ (run told less used plan ≡ run told more used plan)
unfolding run
less_fuel told less more used (Give x) le = inr refl
less_fuel told less more used (Ask q go) le = answered_less q (told q) _ _ (λ answer. less_fuel told less more used (go answer) le)
less_fuel told less more used (Spend n rest) le =
    within_less (nat_le (counted_on used n) less) (nat_le (counted_on used n) more) _ _ (λ is. let fits = leb-true (counted_on used n) less is in le-leb (counted_on used n) more (omega arith))
    (less_fuel told less more (counted_on used n) rest le)

pub less_is_over_or_same : {Q : Type 0} {A : Q → Type 0} {X : Type 0} (plan : Plan A X) → LessIsOverOrSame plan
less_is_over_or_same plan told less more le = less_fuel told less more 0 plan le

-- ---- more told

answered_more : {Q X B : Type 0} (q : Q) (o p : Option B) (f g : B → Outcome Q X) → ((answer : B) → o ≡ Some answer → p ≡ Some answer) → ((answer : B) → IsSettled (f answer) → g answer ≡ f answer) → IsSettled (answered o (Needs q) f) → answered p (Needs q) g ≡ answered o (Needs q) f
answered_more q None p f g larger same settled = absurd settled
answered_more q (Some answer) p f g larger same settled = ap (λ o. answered o (Needs q) g) (larger answer refl) ∙ same answer settled

within_more : {Q X : Type 0} (b : Bool) (f g : Outcome Q X) → (IsSettled f → g ≡ f) → IsSettled (cond b f Over) → cond b g Over ≡ cond b f Over
within_more true f g same settled = same settled
within_more false f g same settled = refl

pub run_more : {Q : Type 0} {A : Q → Type 0} {X : Type 0} (told more : Told A) (most used : ℕ) (plan : Plan A X) → IsLarger told more → IsSettled (run told most used plan) → run more most used plan ≡ run told most used plan
unfolding run
run_more told more most used (Give x) larger settled = refl
run_more told more most used (Ask q go) larger settled = answered_more q (told q) (more q) _ _ (larger q) (λ answer. run_more told more most used (go answer) larger) settled
run_more told more most used (Spend n rest) larger settled = within_more (nat_le (counted_on used n) most) _ _ (run_more told more most (counted_on used n) rest larger) settled

-- ---- what is needed

answered_needs : {Q : Type 0} {A : Q → Type 0} {X : Type 0} (P : Q → Type 0) (told : Told A) (q : Q) (o : Option (A q)) (f : A q → Outcome Q X) (k : Q) → told q ≡ o → P q → ((answer : A q) → f answer ≡ Needs k → P k × (told k ≡ None)) → answered o (Needs q) f ≡ Needs k → P k × (told k ≡ None)
answered_needs P told q None f k is own go needs = let same : q ≡ k = cc in subst (λ j. P j × (told j ≡ None)) same (own, is)
answered_needs P told q (Some answer) f k is own go needs = go answer needs

pub within_needs : {Q X : Type 0} (b : Bool) (f : Outcome Q X) (k : Q) → cond b f Over ≡ Needs k → (b ≡ true) × (f ≡ Needs k)
within_needs true f k is = (refl, is)
within_needs false f k is = absurd (cc)

needs_own : {Q : Type 0} {A : Q → Type 0} {X : Type 0} (P : Q → Type 0) (told : Told A) (most used : ℕ) (plan : Plan A X) (k : Q) → AsksOnly P plan → run told most used plan ≡ Needs k → P k × (told k ≡ None)
unfolding run AsksOnly
needs_own P told most used (Give x) k only needs = absurd (cc)
needs_own P told most used (Ask q go) k only needs = answered_needs P told q (told q) _ k refl only.0 (λ answer. needs_own P told most used (go answer) k (only.1 answer)) needs
needs_own P told most used (Spend n rest) k only needs = needs_own P told most (counted_on used n) rest k only (within_needs (nat_le (counted_on used n) most) _ k needs).1

pub needs_its_own : {Q : Type 0} {A : Q → Type 0} {X : Type 0} (P : Q → Type 0) (plan : Plan A X) → AsksOnly P plan → NeedsItsOwn P plan
needs_its_own P plan only told fuel k needs = needs_own P told fuel 0 plan k only needs

-- one plan and then another ask only such questions where both do
pub asks_only_then : {Q : Type 0} {A : Q → Type 0} {X Y : Type 0} (P : Q → Type 0) (plan : Plan A X) (next : X → Plan A Y) → AsksOnly P plan → ((x : X) → AsksOnly P (next x)) → AsksOnly P (and_then plan next)
unfolding and_then AsksOnly
asks_only_then P (Give x) next first second = second x
asks_only_then P (Ask q go) next first second = (first.0, λ answer. asks_only_then P (go answer) next (first.1 answer) second)
asks_only_then P (Spend n rest) next first second = asks_only_then P rest next first second

-- where every question is one of these, so is each that a plan asks
pub asks_only_any : {Q : Type 0} {A : Q → Type 0} {X : Type 0} (P : Q → Type 0) (plan : Plan A X) → ((q : Q) → P q) → AsksOnly P plan
unfolding AsksOnly
asks_only_any P (Give x) every = tt
asks_only_any P (Ask q go) every = (every q, λ answer. asks_only_any P (go answer) every)
asks_only_any P (Spend n rest) every = asks_only_any P rest every
