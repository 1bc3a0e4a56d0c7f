-- What holds of plans where every question has an answer, or where all fuel is there (own).
use Rattle.std.specs.Prelude.{ℕ, ◌≤◌, ◌<◌, ◌≡◌, ◌-◌, ◌^◌}
use Rattle.sve_told.specs.Told.{Told}
use Rattle.sve_plan.specs.Plan.{Plan, Counted, Over, run, and_then}
use Rattle.sve_settled.specs.Settled.{settled, told_all, done_within}

-- where every question's answer is told, it is done with its value and its cost, or that cost is more than the fuel
abbrev pub Settles : {Q : Type 0} {A : Q → Type 0} {X : Type 0} → Plan A X → Type 0
Settles {Q} {A} {X} plan = (reply : (q : Q) → A q) (most : ℕ) → run (told_all reply) most 0 plan ≡ done_within most (settled reply 0 plan)

-- with all fuel that can be counted it never costs too much, whatever is told
abbrev pub NeverOver : {Q : Type 0} {A : Q → Type 0} {X : Type 0} → Plan A X → Type 0
NeverOver {Q} {A} {X} plan = (told : Told A) (used : ℕ) → run told (2 ^ 64 - 1) used plan ≡ Over → ⊥

-- what it costs can be counted, and is not below what was used
abbrev pub CostIsCounted : {Q : Type 0} {A : Q → Type 0} {X : Type 0} → Plan A X → Type 0
CostIsCounted {Q} {A} {X} plan = (reply : (q : Q) → A q) (used : ℕ) → used < 2 ^ 64 → (used ≤ (settled reply used plan).0) × ((settled reply used plan).0 < 2 ^ 64)

-- what the plan behind a first one comes to begins where the first one's ends
abbrev pub settled_from : {Q : Type 0} {A : Q → Type 0} {X Y : Type 0} → ((q : Q) → A q) → (X → Plan A Y) → Counted X → Counted Y
settled_from reply next counted = settled reply counted.0 (next counted.1)

abbrev pub SettlesInTurn : {Q : Type 0} {A : Q → Type 0} {X Y : Type 0} → Plan A X → (X → Plan A Y) → Type 0
SettlesInTurn {Q} {A} {X} {Y} plan next = (reply : (q : Q) → A q) (used : ℕ) → settled reply used (and_then plan next) ≡ settled_from reply next (settled reply used plan)

-- of replies that give the same to each question that it can ask, it comes to the same
abbrev pub AskedSettle : {Q : Type 0} {A : Q → Type 0} {X : Type 0} → (Q → Type 0) → Plan A X → Type 0
AskedSettle {Q} {A} {X} P plan = (reply other : (q : Q) → A q) (used : ℕ) → ((q : Q) → P q → reply q ≡ other q) → settled reply used plan ≡ settled other used plan
