-- Plans where every question has an answer, or where all fuel is there: one induction for each law.
use Rattle.std.proofs.Common.{ℕ, ◌-◌, ◌^◌, ◌≤◌, ◌<◌, ◌≡◌, cond, Option, Some, None, refl, ap, sym, ◌∙◌, subst, arith}
use Rattle.std.proofs.lemmas.Bool.{le-leb, lt-leb}
use Rattle.sve_fault.specs.Counts.{counted_on}
use Rattle.sve_told.specs.Told.{Tells, Holds, Matches}
use Rattle.sve_plan.specs.Plan.{Plan, Give, Ask, Spend, Counted, Outcome, Done, Over, Needs, answered, run, and_then, AsksOnly}
use Rattle.sve_plan.proofs.Runs.{within_goes, within_ends, by_most}
use Rattle.sve_settled.specs.Settled.{settled, told_all, done_within}
use Rattle.sve_settled.specs.Laws.{Settles, NeverOver, CostIsCounted, SettlesInTurn, AskedSettle}

-- ---- what it costs

pub cost_rises : {Q : Type 0} {A : Q → Type 0} {X : Type 0} (reply : (q : Q) → A q) (used : ℕ) (plan : Plan A X) → used < 2 ^ 64 → used ≤ (settled reply used plan).0
unfolding settled
cost_rises reply used (Give x) small = omega arith
cost_rises reply used (Ask q go) small = cost_rises reply used (go (reply q)) small
cost_rises reply used (Spend n rest) small = let r = cost_rises reply (counted_on used n) rest (omega arith) in omega arith

pub cost_is_small : {Q : Type 0} {A : Q → Type 0} {X : Type 0} (reply : (q : Q) → A q) (used : ℕ) (plan : Plan A X) → used < 2 ^ 64 → (settled reply used plan).0 < 2 ^ 64
unfolding settled
cost_is_small reply used (Give x) small = small
cost_is_small reply used (Ask q go) small = cost_is_small reply used (go (reply q)) small
cost_is_small reply used (Spend n rest) small = cost_is_small reply (counted_on used n) rest (omega arith)

pub cost_is_counted : {Q : Type 0} {A : Q → Type 0} {X : Type 0} (plan : Plan A X) → CostIsCounted plan
cost_is_counted plan reply used small = (cost_rises reply used plan small, cost_is_small reply used plan small)

-- ---- every question's answer is told

done_here : {Q X : Type 0} (most : ℕ) (counted : Counted X) → counted.0 ≤ most → done_within {Q = Q} most counted ≡ Done counted.1 counted.0
done_here most counted le = ap (λ b. cond b (Done counted.1 counted.0) Over) (le-leb counted.0 most le)

over_here : {Q X : Type 0} (most : ℕ) (counted : Counted X) → most < counted.0 → done_within {Q = Q} most counted ≡ Over
over_here most counted lt = ap (λ b. cond b (Done counted.1 counted.0) Over) (lt-leb counted.0 most lt)

settles_from : {Q : Type 0} {A : Q → Type 0} {X : Type 0} (reply : (q : Q) → A q) (most used : ℕ) (plan : Plan A X) → used < 2 ^ 64 → used ≤ most → run (told_all reply) most used plan ≡ done_within most (settled reply used plan)
unfolding run settled
settles_from reply most used (Give x) small le = sym (done_here most (used, x) le)
settles_from reply most used (Ask q go) small le = settles_from reply most used (go (reply q)) small le
settles_from reply most used (Spend n rest) small le = by_most (counted_on used n) most
    (λ fits. within_goes most (counted_on used n) Over (λ more. run (told_all reply) most more rest) fits ∙ settles_from reply most (counted_on used n) rest (omega arith) fits)
    (λ over. within_ends most (counted_on used n) Over (λ more. run (told_all reply) most more rest) over
    ∙ sym (over_here most (settled reply (counted_on used n) rest) (let r = cost_rises reply (counted_on used n) rest (omega arith) in omega arith)))

pub settles : {Q : Type 0} {A : Q → Type 0} {X : Type 0} (plan : Plan A X) → Settles plan
settles plan reply most = settles_from reply most 0 plan (omega arith) (omega arith)

-- ---- all fuel is there

answered_over : {Q X B : Type 0} (q : Q) (o : Option B) (f : B → Outcome Q X) → ((answer : B) → f answer ≡ Over → ⊥) → answered o (Needs q) f ≡ Over → ⊥
answered_over q None f never is = cc
answered_over q (Some answer) f never is = never answer is

pub never_over : {Q : Type 0} {A : Q → Type 0} {X : Type 0} (plan : Plan A X) → NeverOver plan
unfolding run
never_over (Give x) told used is = cc
never_over (Ask q go) told used is = answered_over q (told q) (λ answer. run told (2 ^ 64 - 1) used (go answer)) (λ answer. never_over (go answer) told used) is
never_over (Spend n rest) told used is =
    never_over rest told (counted_on used n) (sym (within_goes (2 ^ 64 - 1) (counted_on used n) Over (λ more. run told (2 ^ 64 - 1) more rest) (omega arith)) ∙ is)

-- ---- one plan and then another

pub settled_then : {Q : Type 0} {A : Q → Type 0} {X Y : Type 0} (plan : Plan A X) (next : X → Plan A Y) → SettlesInTurn plan next
unfolding settled and_then
settled_then (Give x) next reply used = refl
settled_then (Ask q go) next reply used = settled_then (go (reply q)) next reply used
settled_then (Spend n rest) next reply used = settled_then rest next reply (counted_on used n)

-- ---- replies that give the same to what is asked

pub asked_settle : {Q : Type 0} {A : Q → Type 0} {X : Type 0} (P : Q → Type 0) (plan : Plan A X) → AsksOnly P plan → AskedSettle P plan
unfolding settled AsksOnly
asked_settle P (Give x) only reply other used same = refl
asked_settle P (Ask q go) only reply other used same = ap (λ answer. settled reply used (go answer)) (same q only.0) ∙ asked_settle P (go (other q)) (only.1 (other q)) reply other used same
asked_settle P (Spend n rest) only reply other used same = asked_settle P rest only reply other (counted_on used n) same

-- ---- an object that tells the replies

pub all_held : {Q : Type 0} {A : Q → Type 0} (reply : (q : Q) → A q) (tells : Tells A) → ((q : Q) (a : A q) → tells q a → a ≡ reply q) → Holds (told_all reply) tells
all_held reply tells so = λ q a is. ap Some (sym (so q a is))

pub all_matched : {Q : Type 0} {A : Q → Type 0} (reply : (q : Q) → A q) (tells : Tells A) → ((q : Q) (a : A q) → tells q a → a ≡ reply q) → ((q : Q) → tells q (reply q)) → Matches (told_all reply) tells
all_matched reply tells so each = λ q a. (all_held reply tells so q a, λ is. let same : reply q ≡ a = cc in subst (λ b. tells q b) same (each q))
