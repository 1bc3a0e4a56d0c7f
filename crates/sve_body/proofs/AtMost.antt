-- Plans that cost at most so much, whatever is told.
use Rattle.std.proofs.Common.{ℕ, ◌+◌, ◌*◌, ◌≤◌, ◌≡◌, Bool, true, false, cond, List, [], ◌∷◌, Option, Some, None, subst, sym, arith}
use Rattle.std.specs.Prelude.{sum_by}
use Rattle.std.specs.List.{All}
use Rattle.std.proofs.lemmas.List.Sums.{sum_by-cons}
use Rattle.std.proofs.lemmas.List.Elements.{All-head, All-tail}
use Rattle.sve_fault.specs.Counts.{counted_on}
use Rattle.sve_told.specs.Told.{Told}
use Rattle.sve_plan.specs.Plan.{Plan, Give, Ask, Spend, Outcome, Done, Over, Needs, answered, run, and_then, each}
use Rattle.sve_plan.proofs.Runs.{within_goes}

-- it spends at most so much
unfoldable pub CostsAtMost : {Q : Type 0} {A : Q → Type 0} {X : Type 0} → ℕ → Plan A X → Type 0
CostsAtMost n (Give x) = Unit {0}
CostsAtMost {A = A} n (Ask q go) = (answer : A q) → CostsAtMost n (go answer)
CostsAtMost n (Spend k rest) = (m : ℕ) × (k + m ≤ n) × CostsAtMost m rest

abbrev IsOver : {Q X : Type 0} → Outcome Q X → Type 0
IsOver (Done x used) = ⊥
IsOver Over = Unit {0}
IsOver (Needs q) = ⊥

answered_not_over : {Q B X : Type 0} (q : Q) (o : Option B) (f : B → Outcome Q X) → ((answer : B) → IsOver (f answer) → ⊥) → IsOver (answered o (Needs q) f) → ⊥
answered_not_over q None f not over = over
answered_not_over q (Some answer) f not over = not answer over

module _ {Q : Type 0} {A : Q → Type 0} where
  pub at_most_more : {X : Type 0} (n m : ℕ) (plan : Plan A X) → n ≤ m → CostsAtMost n plan → CostsAtMost m plan
  unfolding CostsAtMost
  at_most_more n m (Give x) le costs = tt
  at_most_more n m (Ask q go) le costs = λ answer. at_most_more n m (go answer) le (costs answer)
  at_most_more n m (Spend k rest) le costs = let fits = costs.1 in (costs.0, (omega arith), costs.2)

  pub at_most_then : {X Y : Type 0} (n m : ℕ) (plan : Plan A X) (next : X → Plan A Y) → CostsAtMost n plan → ((x : X) → CostsAtMost m (next x)) → CostsAtMost (n + m) (and_then plan next)
  unfolding CostsAtMost and_then
  at_most_then n m (Give x) next costs further = at_most_more m (n + m) (next x) (omega arith) (further x)
  at_most_then n m (Ask q go) next costs further = λ answer. at_most_then n m (go answer) next (costs answer) further
  at_most_then n m (Spend k rest) next costs further = let fits = costs.1 in (costs.0 + m, (omega arith), at_most_then costs.0 m rest next costs.2 further)

  -- behind what costs nothing more
  pub at_most_last : {X Y : Type 0} (n : ℕ) (plan : Plan A X) (next : X → Plan A Y) → CostsAtMost n plan → ((x : X) → CostsAtMost 0 (next x)) → CostsAtMost n (and_then plan next)
  at_most_last n plan next costs further = at_most_more (n + 0) n (and_then plan next) (omega arith) (at_most_then n 0 plan next costs further)

  pub at_most_spent : {X : Type 0} (k m n : ℕ) (rest : Plan A X) → k + m ≤ n → CostsAtMost m rest → CostsAtMost n (Spend k rest)
  unfolding CostsAtMost
  at_most_spent k m n rest fits costs = (m, fits, costs)

  pub at_most_asked : {X : Type 0} (n : ℕ) (q : Q) (next : A q → Plan A X) → ((answer : A q) → CostsAtMost n (next answer)) → CostsAtMost n (and_then (Ask q (λ answer. Give answer)) next)
  unfolding CostsAtMost and_then
  at_most_asked n q next costs = costs

  pub at_most_either : {X : Type 0} (n : ℕ) (b : Bool) (p q : Plan A X) → CostsAtMost n p → CostsAtMost n q → CostsAtMost n (cond b p q)
  at_most_either n true p q first second = first
  at_most_either n false p q first second = second

  -- each item costs so much at most, and all of them their sum
  pub at_most_each : {I S : Type 0} (f : I → S → Plan A S) (most : I → ℕ) (P : I → Type 0) (items : List I) (s : S) → ((i : I) (t : S) → P i → CostsAtMost (4 * most i) (f i t)) → All P items → CostsAtMost (4 * sum_by most items) (each f items s)
  unfolding CostsAtMost each
  at_most_each f most P [] s one all = tt
  at_most_each f most P (i ∷ items) s one all =
      let sum = sum_by-cons most i items in
      at_most_more (4 * most i + 4 * sum_by most items) (4 * sum_by most (i ∷ items)) (and_then (f i s) (each f items)) (omega arith)
      (at_most_then (4 * most i) (4 * sum_by most items) (f i s) (each f items) (one i s (All-head P i items all)) (λ t. at_most_each f most P items t one (All-tail P i items all)))

  -- each costs nothing
  pub at_most_none : {I S : Type 0} (f : I → S → Plan A S) (items : List I) (s : S) → ((i : I) (t : S) → CostsAtMost 0 (f i t)) → CostsAtMost 0 (each f items s)
  unfolding CostsAtMost each
  at_most_none f [] s one = tt
  at_most_none f (i ∷ items) s one = at_most_last 0 (f i s) (each f items) (one i s) (λ t. at_most_none f items t one)

  -- ---- with so much fuel it does not cost too much

  is_not_over : {X : Type 0} (told : Told A) (most used n : ℕ) (plan : Plan A X) → CostsAtMost n plan → used + n ≤ most → IsOver (run told most used plan) → ⊥
  unfolding CostsAtMost run
  is_not_over told most used n (Give x) costs le over = over
  is_not_over told most used n (Ask q go) costs le over = answered_not_over q (told q) (λ answer. run told most used (go answer)) (λ answer. is_not_over told most used n (go answer) (costs answer) le) over
  is_not_over told most used n (Spend k rest) costs le over =
      let fits = costs.1 in let within : counted_on used k ≤ most = omega arith in
      is_not_over told most (counted_on used k) costs.0 rest costs.2 (omega arith) (subst IsOver (within_goes most (counted_on used k) Over (λ more. run told most more rest) within) over)

  pub not_over : {X : Type 0} (told : Told A) (fuel n : ℕ) (plan : Plan A X) → CostsAtMost n plan → n ≤ fuel → run told fuel 0 plan ≡ Over → ⊥
  not_over told fuel n plan costs le over = is_not_over told fuel 0 n plan costs (omega arith) (subst IsOver (sym over) tt)
