-- What holds of plans: how fuel, what is told, and what is asked go together (own).
use Rattle.std.specs.Prelude.{ℕ, ◌≤◌, ◌<◌, ◌≡◌, ◌⊎◌, ◌++◌, List, [], ◌∷◌, Some, None, IsSome}
use Rattle.std.specs.List.{All}
use Rattle.sve_told.specs.Told.{Told}
use Rattle.sve_plan.specs.Plan.{Plan, Outcome, Done, Over, Needs, run, asks}

-- all that is told is told there too
abbrev pub IsLarger : {Q : Type 0} {A : Q → Type 0} → Told A → Told A → Type 0
IsLarger {Q} {A} told more = (q : Q) (answer : A q) → told q ≡ Some answer → more q ≡ Some answer

-- done with a cost, it is done alike with every fuel from that cost on, and costs too much for every fuel below it
abbrev pub CostIsExact : {Q : Type 0} {A : Q → Type 0} {X : Type 0} → Plan A X → Type 0
CostIsExact {Q} {A} {X} plan = (told : Told A) (fuel cost : ℕ) (x : X) → run told fuel 0 plan ≡ Done x cost →
    (other : ℕ) → (cost ≤ other → run told other 0 plan ≡ Done x cost) × (other < cost → run told other 0 plan ≡ Over)

-- with less fuel it costs too much, or comes to what it comes to with more
abbrev pub LessIsOverOrSame : {Q : Type 0} {A : Q → Type 0} {X : Type 0} → Plan A X → Type 0
LessIsOverOrSame {Q} {A} plan = (told : Told A) (less more : ℕ) → less ≤ more → (run told less 0 plan ≡ Over) ⊎ (run told less 0 plan ≡ run told more 0 plan)

-- it needs no question
abbrev pub IsSettled : {Q X : Type 0} → Outcome Q X → Type 0
IsSettled (Done x cost) = Unit {0}
IsSettled Over = Unit {0}
IsSettled (Needs q) = ⊥

-- where it needs no question, it comes to the same over whatever else is told, and asks the same, all of which is told
abbrev pub SettledAlike : {Q : Type 0} {A : Q → Type 0} {X : Type 0} → Plan A X → Type 0
SettledAlike {Q} {A} plan = (told more : Told A) (fuel : ℕ) → IsLarger told more → IsSettled (run told fuel 0 plan) →
    (run more fuel 0 plan ≡ run told fuel 0 plan) × (asks more fuel 0 plan ≡ asks told fuel 0 plan) × All (λ q. IsSome (told q)) (asks told fuel 0 plan)

-- what it needs is one of these questions, and nothing is told of it
abbrev pub NeedsItsOwn : {Q : Type 0} {A : Q → Type 0} {X : Type 0} → (Q → Type 0) → Plan A X → Type 0
NeedsItsOwn {Q} {A} P plan = (told : Told A) (fuel : ℕ) (q : Q) → run told fuel 0 plan ≡ Needs q → P q × (told q ≡ None)

-- all that it asks is one of these questions
abbrev pub AsksItsOwn : {Q : Type 0} {A : Q → Type 0} {X : Type 0} → (Q → Type 0) → Plan A X → Type 0
AsksItsOwn {Q} {A} P plan = (told : Told A) (fuel : ℕ) → All P (asks told fuel 0 plan)

-- what it needs is the last question that it asks, of which nothing is told; all others are told
abbrev pub NeedsTheLast : {Q : Type 0} {A : Q → Type 0} {X : Type 0} → Plan A X → Type 0
NeedsTheLast {Q} {A} plan = (told : Told A) (fuel : ℕ) (q : Q) → run told fuel 0 plan ≡ Needs q →
    (others : List Q) × (asks told fuel 0 plan ≡ others ++ q ∷ []) × All (λ other. IsSome (told other)) others × (told q ≡ None)

-- where more is told, it first asks what it asked before
abbrev pub AsksFirstOfMore : {Q : Type 0} {A : Q → Type 0} {X : Type 0} → Plan A X → Type 0
AsksFirstOfMore {Q} {A} plan = (told more : Told A) (fuel : ℕ) → IsLarger told more → (others : List Q) × (asks more fuel 0 plan ≡ asks told fuel 0 plan ++ others)

-- what is told of the questions that it asks decides what it comes to and what it asks
abbrev pub AskedDecide : {Q : Type 0} {A : Q → Type 0} {X : Type 0} → Plan A X → Type 0
AskedDecide {Q} {A} plan = (told other : Told A) (fuel : ℕ) → All (λ q. told q ≡ other q) (asks told fuel 0 plan) →
    (run other fuel 0 plan ≡ run told fuel 0 plan) × (asks other fuel 0 plan ≡ asks told fuel 0 plan)
