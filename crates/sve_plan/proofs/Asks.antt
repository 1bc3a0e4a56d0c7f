-- What a plan asks, in order: one induction for each law.
use Rattle.std.proofs.Common.{ℕ, ◌≡◌, Bool, true, false, cond, nat_le, List, [], ◌∷◌, ◌++◌, Option, Some, None, is_some, refl, ap, sym, ◌∙◌, subst}
use Rattle.std.specs.Prelude.{IsSome}
use Rattle.std.specs.List.{All, Contains}
use Rattle.std.proofs.lemmas.List.Elements.{All-nil, All-cons, All-head, All-tail, Contains-append_left, Contains-push}
use Rattle.sve_fault.specs.Counts.{counted_on}
use Rattle.sve_told.specs.Told.{Told}
use Rattle.sve_plan.specs.Plan.{Plan, Give, Ask, Spend, Outcome, Done, Over, Needs, answered, run, asks, and_then, AsksOnly}
use Rattle.sve_plan.specs.Laws.{IsLarger, IsSettled, SettledAlike, AsksItsOwn, NeedsTheLast, AsksFirstOfMore, AskedDecide}
use Rattle.sve_plan.proofs.Runs.{run_more, within_needs}

-- ---- one plan and then another

-- what is asked further, where a plan is done
abbrev pub asked_then : {Q X : Type 0} → Outcome Q X → (X → ℕ → List Q) → List Q
asked_then (Done x used) next = next x used
asked_then Over next = []
asked_then (Needs q) next = []

answered_then : {Q X B : Type 0} (q : Q) (o : Option B) (f : B → Outcome Q X) (g h : B → List Q) (next : X → ℕ → List Q) → ((answer : B) → h answer ≡ g answer ++ asked_then (f answer) next)
    → q ∷ answered o [] h ≡ (q ∷ answered o [] g) ++ asked_then (answered o (Needs q) f) next
answered_then q None f g h next same = refl
answered_then q (Some answer) f g h next same = ap (λ others. q ∷ others) (same answer)

within_then : {Q X : Type 0} (b : Bool) (f : Outcome Q X) (g h : List Q) (next : X → ℕ → List Q) → h ≡ g ++ asked_then f next → cond b h [] ≡ cond b g [] ++ asked_then (cond b f Over) next
within_then true f g h next same = same
within_then false f g h next same = refl

pub asks_then : {Q : Type 0} {A : Q → Type 0} {X Y : Type 0} (told : Told A) (most used : ℕ) (plan : Plan A X) (next : X → Plan A Y)
    → asks told most used (and_then plan next) ≡ asks told most used plan ++ asked_then (run told most used plan) (λ x u. asks told most u (next x))
unfolding run asks and_then
asks_then told most used (Give x) next = refl
asks_then told most used (Ask q go) next = answered_then q (told q) _ _ _ _ (λ answer. asks_then told most used (go answer) next)
asks_then told most used (Spend n rest) next = within_then (nat_le (counted_on used n) most) _ _ _ _ (asks_then told most (counted_on used n) rest next)

-- ---- only these

answered_own : {Q B : Type 0} (P : Q → Type 0) (o : Option B) (g : B → List Q) → ((answer : B) → All P (g answer)) → All P (answered o [] g)
answered_own P None g own = All-nil P
answered_own P (Some answer) g own = own answer

within_own : {Q : Type 0} (P : Q → Type 0) (b : Bool) (g : List Q) → All P g → All P (cond b g [])
within_own P true g own = own
within_own P false g own = All-nil P

asks_own : {Q : Type 0} {A : Q → Type 0} {X : Type 0} (P : Q → Type 0) (told : Told A) (most used : ℕ) (plan : Plan A X) → AsksOnly P plan → All P (asks told most used plan)
unfolding asks AsksOnly
asks_own P told most used (Give x) only = All-nil P
asks_own P told most used (Ask q go) only = All-cons P q _ only.0 (answered_own P (told q) _ (λ answer. asks_own P told most used (go answer) (only.1 answer)))
asks_own P told most used (Spend n rest) only = within_own P (nat_le (counted_on used n) most) _ (asks_own P told most (counted_on used n) rest only)

pub asks_its_own : {Q : Type 0} {A : Q → Type 0} {X : Type 0} (P : Q → Type 0) (plan : Plan A X) → AsksOnly P plan → AsksItsOwn P plan
asks_its_own P plan only told fuel = asks_own P told fuel 0 plan only

-- ---- the last one

-- these are asked, of which the last is needed and not told
abbrev IsLast : {Q : Type 0} {A : Q → Type 0} → Told A → List Q → Q → Type 0
IsLast {Q} told all q = (others : List Q) × (all ≡ others ++ q ∷ []) × All (λ other. IsSome (told other)) others × (told q ≡ None)

last_here : {Q : Type 0} {A : Q → Type 0} (told : Told A) (q k : Q) → q ≡ k → told q ≡ None → IsLast told (q ∷ []) k
last_here told q k same none = ([], ap (λ x. x ∷ []) same, All-nil (λ other. IsSome (told other)), subst (λ x. told x ≡ None) same none)

last_behind : {Q : Type 0} {A : Q → Type 0} (told : Told A) (q k : Q) (answer : A q) (all : List Q) → told q ≡ Some answer → IsLast told all k → IsLast told (q ∷ all) k
last_behind told q k answer all is last = (q ∷ last.0, ap (λ others. q ∷ others) last.1, All-cons (λ other. IsSome (told other)) q last.0 (ap is_some is) last.2, last.3)

answered_last : {Q : Type 0} {A : Q → Type 0} {X : Type 0} (told : Told A) (q k : Q) (o : Option (A q)) (f : A q → Outcome Q X) (g : A q → List Q) → told q ≡ o → ((answer : A q) → f answer ≡ Needs k → IsLast told (g answer) k) → answered o (Needs q) f ≡ Needs k
    → IsLast told (q ∷ answered o [] g) k
answered_last told q k None f g is go needs = last_here told q k (cc) is
answered_last told q k (Some answer) f g is go needs = last_behind told q k answer (g answer) is (go answer needs)

asks_last : {Q : Type 0} {A : Q → Type 0} {X : Type 0} (told : Told A) (most used : ℕ) (plan : Plan A X) (k : Q) → run told most used plan ≡ Needs k → IsLast told (asks told most used plan) k
unfolding run asks
asks_last told most used (Give x) k needs = absurd (cc)
asks_last told most used (Ask q go) k needs = answered_last told q k (told q) _ _ refl (λ answer. asks_last told most used (go answer) k) needs
asks_last told most used (Spend n rest) k needs =
    let w = within_needs (nat_le (counted_on used n) most) (run told most (counted_on used n) rest) k needs in
    subst (λ b. IsLast told (cond b (asks told most (counted_on used n) rest) []) k) (sym w.0) (asks_last told most (counted_on used n) rest k w.1)

pub needs_the_last : {Q : Type 0} {A : Q → Type 0} {X : Type 0} (plan : Plan A X) → NeedsTheLast plan
needs_the_last plan told fuel q needs = asks_last told fuel 0 plan q needs

-- ---- more told

-- the longer one begins with the shorter one
abbrev Begins : {Q : Type 0} → List Q → List Q → Type 0
Begins {Q} shorter longer = (others : List Q) × (longer ≡ shorter ++ others)

answered_first : {Q B : Type 0} (q : Q) (o p : Option B) (g h : B → List Q) → ((answer : B) → o ≡ Some answer → p ≡ Some answer) → ((answer : B) → Begins (g answer) (h answer)) → Begins (q ∷ answered o [] g) (q ∷ answered p [] h)
answered_first q None p g h larger go = (answered p [] h, refl)
answered_first q (Some answer) p g h larger go = let b = go answer in (b.0, ap (λ o. q ∷ answered o [] h) (larger answer refl) ∙ ap (λ others. q ∷ others) b.1)

within_first : {Q : Type 0} (b : Bool) (g h : List Q) → Begins g h → Begins (cond b g []) (cond b h [])
within_first true g h begins = begins
within_first false g h begins = ([], refl)

asks_more : {Q : Type 0} {A : Q → Type 0} {X : Type 0} (told more : Told A) (most used : ℕ) (plan : Plan A X) → IsLarger told more → Begins (asks told most used plan) (asks more most used plan)
unfolding asks
asks_more told more most used (Give x) larger = ([], refl)
asks_more told more most used (Ask q go) larger = answered_first q (told q) (more q) _ _ (larger q) (λ answer. asks_more told more most used (go answer) larger)
asks_more told more most used (Spend n rest) larger = within_first (nat_le (counted_on used n) most) _ _ (asks_more told more most (counted_on used n) rest larger)

pub asks_first_of_more : {Q : Type 0} {A : Q → Type 0} {X : Type 0} (plan : Plan A X) → AsksFirstOfMore plan
asks_first_of_more plan told more fuel larger = asks_more told more fuel 0 plan larger

-- what is needed over some of what is told is asked over all of it
pub needed_is_asked : {Q : Type 0} {A : Q → Type 0} {X : Type 0} (plan : Plan A X) (told more : Told A) (fuel : ℕ) (q : Q) → IsLarger told more → run told fuel 0 plan ≡ Needs q → Contains (asks more fuel 0 plan) q
needed_is_asked plan told more fuel q larger needs =
    let last = needs_the_last plan told fuel q needs in let first = asks_first_of_more plan told more fuel larger in
    subst (λ all. Contains all q) (sym first.1) (Contains-append_left (asks told fuel 0 plan) first.0 q (subst (λ all. Contains all q) (sym last.1) (Contains-push last.0 q)))

-- ---- what is settled

answered_alike : {Q X B : Type 0} (q : Q) (o p : Option B) (f : B → Outcome Q X) (g h : B → List Q) → ((answer : B) → o ≡ Some answer → p ≡ Some answer) → ((answer : B) → IsSettled (f answer) → h answer ≡ g answer) → IsSettled (answered o (Needs q) f) → q ∷ answered p [] h ≡ q ∷ answered o [] g
answered_alike q None p f g h larger same settled = absurd settled
answered_alike q (Some answer) p f g h larger same settled = ap (λ o. q ∷ answered o [] h) (larger answer refl) ∙ ap (λ others. q ∷ others) (same answer settled)

within_alike : {Q X : Type 0} (b : Bool) (f : Outcome Q X) (g h : List Q) → (IsSettled f → h ≡ g) → IsSettled (cond b f Over) → cond b h [] ≡ cond b g []
within_alike true f g h same settled = same settled
within_alike false f g h same settled = refl

asks_alike : {Q : Type 0} {A : Q → Type 0} {X : Type 0} (told more : Told A) (most used : ℕ) (plan : Plan A X) → IsLarger told more → IsSettled (run told most used plan) → asks more most used plan ≡ asks told most used plan
unfolding run asks
asks_alike told more most used (Give x) larger settled = refl
asks_alike told more most used (Ask q go) larger settled = answered_alike q (told q) (more q) _ _ _ (larger q) (λ answer. asks_alike told more most used (go answer) larger) settled
asks_alike told more most used (Spend n rest) larger settled = within_alike (nat_le (counted_on used n) most) _ _ _ (asks_alike told more most (counted_on used n) rest larger) settled

answered_told : {Q : Type 0} {A : Q → Type 0} {X : Type 0} (told : Told A) (q : Q) (o : Option (A q)) (f : A q → Outcome Q X) (g : A q → List Q) → told q ≡ o → ((answer : A q) → IsSettled (f answer) → All (λ p. IsSome (told p)) (g answer)) → IsSettled (answered o (Needs q) f)
    → All (λ p. IsSome (told p)) (q ∷ answered o [] g)
answered_told told q None f g is go settled = absurd settled
answered_told told q (Some answer) f g is go settled = All-cons (λ p. IsSome (told p)) q (g answer) (ap is_some is) (go answer settled)

within_told : {Q X : Type 0} (P : Q → Type 0) (b : Bool) (f : Outcome Q X) (g : List Q) → (IsSettled f → All P g) → IsSettled (cond b f Over) → All P (cond b g [])
within_told P true f g go settled = go settled
within_told P false f g go settled = All-nil P

asks_told : {Q : Type 0} {A : Q → Type 0} {X : Type 0} (told : Told A) (most used : ℕ) (plan : Plan A X) → IsSettled (run told most used plan) → All (λ p. IsSome (told p)) (asks told most used plan)
unfolding run asks
asks_told told most used (Give x) settled = All-nil (λ p. IsSome (told p))
asks_told told most used (Ask q go) settled = answered_told told q (told q) _ _ refl (λ answer. asks_told told most used (go answer)) settled
asks_told told most used (Spend n rest) settled = within_told (λ p. IsSome (told p)) (nat_le (counted_on used n) most) _ _ (asks_told told most (counted_on used n) rest) settled

pub settled_alike : {Q : Type 0} {A : Q → Type 0} {X : Type 0} (plan : Plan A X) → SettledAlike plan
settled_alike plan told more fuel larger settled = (run_more told more fuel 0 plan larger settled, asks_alike told more fuel 0 plan larger settled, asks_told told fuel 0 plan settled)

-- ---- what decides

-- both come to the same, and ask the same
abbrev AreAlike : {Q X : Type 0} → Outcome Q X → List Q → Outcome Q X → List Q → Type 0
AreAlike f g f' g' = (f' ≡ f) × (g' ≡ g)

answered_decide : {Q B X : Type 0} (q : Q) (o p : Option B) (f f' : B → Outcome Q X) (g g' : B → List Q) → o ≡ p → ((answer : B) → o ≡ Some answer → AreAlike (f answer) (g answer) (f' answer) (g' answer)) → AreAlike (answered o (Needs q) f) (q ∷ answered o [] g) (answered p (Needs q) f') (q ∷ answered p [] g')
answered_decide q None p f f' g g' same go = (ap (λ o. answered o (Needs q) f') (sym same), ap (λ o. q ∷ answered o [] g') (sym same))
answered_decide q (Some answer) p f f' g g' same go =
    let alike = go answer refl in (ap (λ o. answered o (Needs q) f') (sym same) ∙ alike.0, ap (λ o. q ∷ answered o [] g') (sym same) ∙ ap (λ others. q ∷ others) alike.1)

within_decide : {Q X : Type 0} (P : Q → Type 0) (b : Bool) (f f' : Outcome Q X) (g g' : List Q) → (All P g → AreAlike f g f' g') → All P (cond b g []) → AreAlike (cond b f Over) (cond b g []) (cond b f' Over) (cond b g' [])
within_decide P true f f' g g' go all = go all
within_decide P false f f' g g' go all = (refl, refl)

decide : {Q : Type 0} {A : Q → Type 0} {X : Type 0} (told other : Told A) (most used : ℕ) (plan : Plan A X) → All (λ q. told q ≡ other q) (asks told most used plan) → AreAlike (run told most used plan) (asks told most used plan) (run other most used plan) (asks other most used plan)
unfolding run asks
decide told other most used (Give x) all = (refl, refl)
decide {Q = Q} told other most used (Ask q go) all =
    let P : Q → Type 0 = λ p. told p ≡ other p in let others = answered (told q) [] (λ answer. asks told most used (go answer)) in
    answered_decide q (told q) (other q) _ _ _ _ (All-head P q others all)
    (λ answer is. decide told other most used (go answer) (subst (λ o. All P (answered o [] (λ a. asks told most used (go a)))) is (All-tail P q others all)))
decide told other most used (Spend n rest) all =
    within_decide (λ q. told q ≡ other q) (nat_le (counted_on used n) most) _ _ _ _ (decide told other most (counted_on used n) rest) all

pub asked_decide : {Q : Type 0} {A : Q → Type 0} {X : Type 0} (plan : Plan A X) → AskedDecide plan
asked_decide plan told other fuel all = decide told other fuel 0 plan all
