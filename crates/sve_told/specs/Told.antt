-- What an object tells that answers questions, and what it promises of each call (own). Each question has answers of a type of its own.
use Rattle.std.specs.Prelude.{◌≡◌, ℕ, ◌↔◌, List, [], ◌∷◌, ◌++◌, Option, Some, option_map, Result, IsErr}
use Rattle.sve_io.specs.declared.halt.Halt.{Halt}
use Rattle.sve_io.specs.declared.halt.Halt.TheVariants.{Stopped, NoMemory}

-- what is told of each question: nothing, or its answer
abbrev pub Told : {Q : Type 0} → (Q → Type 0) → Type 0
Told {Q} A = (q : Q) → Option (A q)

-- what an object may tell: whether an answer is that of a question
abbrev pub Tells : {Q : Type 0} → (Q → Type 0) → Type 1
Tells {Q} A = (q : Q) → A q → Type 0

-- all that the object tells is told
abbrev pub Holds : {Q : Type 0} {A : Q → Type 0} → Told A → Tells A → Type 0
Holds {Q} {A} told tells = (q : Q) (a : A q) → tells q a → told q ≡ Some a

-- and nothing else is
abbrev pub Matches : {Q : Type 0} {A : Q → Type 0} → Told A → Tells A → Type 0
Matches {Q} {A} told tells = (q : Q) (a : A q) → tells q a ↔ (told q ≡ Some a)

-- both tell the same
abbrev pub TellSame : {Q : Type 0} {A : Q → Type 0} → Tells A → Tells A → Type 0
TellSame {Q} {A} old new = (q : Q) (a : A q) → old q a ↔ new q a

-- the questions asked, where they are noted, with these more
abbrev pub asked_on : {Q : Type 0} → List Q → Option (List Q) → Option (List Q)
asked_on more asked = option_map (λ questions. questions ++ more) asked

-- with one more
abbrev pub noted : {Q : Type 0} → Q → Option (List Q) → Option (List Q)
noted question asked = asked_on (question ∷ []) asked

-- a halt by a number is one more with which the object stopped
abbrev pub HasStopped : List ℕ → List ℕ → Halt → Type 0
HasStopped old new (Stopped number) = new ≡ old ++ number ∷ []
HasStopped old new NoMemory = Unit {0}

-- a question at which a call halted: the call fails since nothing is told of its question, which was noted
abbrev pub IsMissing : {Q : Type 0} {A : Q → Type 0} {R E : Type 0} → Tells A → Option (List Q) → Option (List Q) → Q → Result R E → Q → Type 0
IsMissing {Q} {A} tells old new question result other = IsErr result × (other ≡ question) × ((a : A question) → tells question a → ⊥) × (new ≡ noted question old)

-- What can be seen of an object through which a layer reads: what it tells, which two are the same but for their notes, the question at which it
-- halted, the numbers with which it stopped calls, and the questions that it was asked, where it notes them.
pub record Sight {Q : Type 0} (A : Q → Type 0) (W : Type 0) : Type 1 where
  pub tells : W → Tells A
  pub keeps : W → W → Type 0
  pub halted : W → Option Q
  pub stops : W → List ℕ
  pub asked : W → Option (List Q)
