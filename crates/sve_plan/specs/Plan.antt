-- A definition that asks for answers and spends fuel, as a plan (own).
use Rattle.std.specs.Prelude.{ℕ, List, [], ◌∷◌, Option, Some, None, nat_le, if◌then◌else◌}
use Rattle.sve_fault.specs.Counts.{counted_on}
use Rattle.sve_told.specs.Told.{Told}
use Rattle.sve_told.specs.Made.{Made}
use Rattle.sve_told.specs.Made as is_made

-- what is done: a value is there, a question is asked and its answer leads on, or fuel is spent first
pub data Plan {Q : Type 0} (A : Q → Type 0) (X : Type 0) : Type 0 where
  Give : X → Plan A X
  Ask : (q : Q) → (A q → Plan A X) → Plan A X
  Spend : ℕ → Plan A X → Plan A X

-- what a plan comes to: a value with what was used by then, too little fuel, or a question of which nothing is told
pub data Outcome (Q X : Type 0) : Type 0 where
  Done : X → ℕ → Outcome Q X
  Over : Outcome Q X
  Needs : Q → Outcome Q X

-- what an answer leads to, where there is one
abbrev pub answered : {A Y : Type 0} → Option A → Y → (A → Y) → Y
answered None missing go = missing
answered (Some answer) missing go = go answer

-- what a count leads to, where it is within the most
abbrev pub within : {Y : Type 0} → ℕ → ℕ → Y → (ℕ → Y) → Y
within most used over go = if nat_le used most then go used else over

-- what a plan comes to over what is told, with so much fuel at most, of which so much is used
unfoldable pub run : {Q : Type 0} {A : Q → Type 0} {X : Type 0} → Told A → ℕ → ℕ → Plan A X → Outcome Q X
run told most used (Give x) = Done x used
run told most used (Ask q go) = answered (told q) (Needs q) (λ answer. run told most used (go answer))
run told most used (Spend n rest) = within most (counted_on used n) Over (λ more. run told most more rest)

-- the questions that it asks on the way, in order, with the one that it needs
unfoldable pub asks : {Q : Type 0} {A : Q → Type 0} {X : Type 0} → Told A → ℕ → ℕ → Plan A X → List Q
asks told most used (Give x) = []
asks told most used (Ask q go) = q ∷ answered (told q) [] (λ answer. asks told most used (go answer))
asks told most used (Spend n rest) = within most (counted_on used n) [] (λ more. asks told most more rest)

-- one plan and then another, which the first one's value leads to
unfoldable pub and_then : {Q : Type 0} {A : Q → Type 0} {X Y : Type 0} → Plan A X → (X → Plan A Y) → Plan A Y
and_then (Give x) next = next x
and_then (Ask q go) next = Ask q (λ answer. and_then (go answer) next)
and_then (Spend n rest) next = Spend n (and_then rest next)

-- a question and its answer
abbrev pub ask : {Q : Type 0} {A : Q → Type 0} (q : Q) → Plan A (A q)
ask q = Ask q (λ answer. Give answer)

-- the same for each item in order, on what the ones before left
unfoldable pub each : {Q : Type 0} {A : Q → Type 0} {I S : Type 0} → (I → S → Plan A S) → List I → S → Plan A S
each f [] s = Give s
each f (item ∷ items) s = and_then (f item s) (each f items)

-- a value with its cost
abbrev pub Counted : Type 0 → Type 0
Counted X = ℕ × X

-- what costs something and asks nothing, and what its value leads to
abbrev pub paid : {Q : Type 0} {A : Q → Type 0} {X Y : Type 0} → Counted X → (X → Plan A Y) → Plan A Y
paid counted next = Spend counted.0 (next counted.1)

-- each question that the plan can ask is one of these
unfoldable pub AsksOnly : {Q : Type 0} {A : Q → Type 0} {X : Type 0} → (Q → Type 0) → Plan A X → Type 0
AsksOnly P (Give x) = Unit {0}
AsksOnly {A = A} P (Ask q go) = P q × ((answer : A q) → AsksOnly P (go answer))
AsksOnly P (Spend n rest) = AsksOnly P rest

-- what is made as the value of a key: of a value with its cost, of too little fuel, or the question that is needed
abbrev pub made : {Q X V : Type 0} → (X → ℕ → V) → V → Outcome Q X → Made Q V
made done over (Done x cost) = is_made.Done (done x cost)
made done over Over = is_made.Done over
made done over (Needs q) = is_made.Needs q
