-- The value of a key at some files, over any definition of keys (own).
-- Nothing is told at first. As long as the definition needs a key, the value of that key is told as well. What it gives then is the value, and the
-- keys that were told are those that it reads.
use Rattle.std.specs.Prelude.{ℕ, ◌≡◌, ◌<◌, List, [], ◌∷◌, ◌++◌, Option, Some, None}
use Rattle.std.specs.declared.cmp.Ordering.{Ordering}
use Rattle.sve_store.specs.Made.{Made, Needs, Done, value_in, IsOneOf}
use Rattle.sve_store.specs.declared.answer.Answer.{Answer}
use Rattle.sve_store.specs.declared.answer.Answer.TheVariants.{Done as Answered, Spent}

-- over these told values the key comes to this value, and has these keys told on the way
pub data Gives {K V : Type 0} (cmp : K → K → Ordering) (given : K → Option V) (make : K → ℕ → (K → Option V) → Made K V) : K → ℕ → List (K × V) → V → List K → Type 0 where
  is_given : {k : K} {fuel : ℕ} {told : List (K × V)} {v : V} → given k ≡ Some v → Gives cmp given make k fuel told v []
  is_made : {k : K} {fuel : ℕ} {told : List (K × V)} {v : V} → given k ≡ None → make k fuel (value_in cmp told) ≡ Done v → Gives cmp given make k fuel told v []
  is_needed : {k : K} {fuel : ℕ} {told : List (K × V)} {v : V} {reads : List K} {j : K} {w : V} {others : List K} → given k ≡ None → make k fuel (value_in cmp told) ≡ Needs j
      → Gives cmp given make j 0 [] w others → Gives cmp given make k fuel (told ++ ((j, w) ∷ [])) v reads → Gives cmp given make k fuel told v (j ∷ reads)

-- the answer has lines
abbrev pub IsDone : Answer → Type 0
IsDone (Answered lines) = Unit {0}
IsDone Spent = ⊥

module _ {K V : Type 0} (cmp : K → K → Ordering) (given : K → Option V) (make : K → ℕ → (K → Option V) → Made K V) where
  -- the value of the key at the fuel
  abbrev pub IsValue : K → ℕ → V → Type 0
  IsValue k fuel v = (reads : List K) × Gives cmp given make k fuel [] v reads

  -- each told value is that of its key
  abbrev pub TellsValues : (K → Option V) → Type 0
  TellsValues told = (k : K) (v : V) → told k ≡ Some v → IsValue k 0 v

  -- each told value of a key of lower rank than this one is that of its key
  abbrev pub TellsLowerValues : (K → ℕ) → ℕ → (K → Option V) → Type 0
  TellsLowerValues ranked rank told = (k : K) (v : V) → told k ≡ Some v → ranked k < rank → IsValue k 0 v

  -- the values of all keys at all fuels
  abbrev pub IsTable : (K → ℕ → V) → Type 0
  IsTable table = (k : K) (fuel : ℕ) → IsValue k fuel (table k fuel)

  -- a query may have this answer within the budget
  abbrev pub IsAnswer : {Q : Type 0} → ((K → ℕ → V) → Q → ℕ → Answer → Type 0) → Q → ℕ → Answer → Type 0
  IsAnswer answers_over q budget answer = (table : K → ℕ → V) × IsTable table × answers_over table q budget answer

-- these values are told on the way to the value of the key
pub data OnTheWay {K V : Type 0} (cmp : K → K → Ordering) (given : K → Option V) (make : K → ℕ → (K → Option V) → Made K V) : K → ℕ → List (K × V) → Type 0 where
  at_first : {k : K} {fuel : ℕ} → given k ≡ None → OnTheWay cmp given make k fuel []
  one_more : {k : K} {fuel : ℕ} {told : List (K × V)} {j : K} {w : V} → OnTheWay cmp given make k fuel told → make k fuel (value_in cmp told) ≡ Needs j → IsValue cmp given make j 0 w
      → OnTheWay cmp given make k fuel (told ++ ((j, w) ∷ []))

-- why each key has a value: what a definition needs has a lower height, and is one of some keys that are not told
pub record Ends {K V : Type 0} (cmp : K → K → Ordering) (given : K → Option V) (make : K → ℕ → (K → Option V) → Made K V) : Type 0 where
  pub height : K → ℕ
  pub reads : K → ℕ → List K
  pub lower : (k : K) (fuel : ℕ) (told : K → Option V) (j : K) → given k ≡ None → TellsValues cmp given make told → make k fuel told ≡ Needs j → height j < height k
  pub reading : (k : K) (fuel : ℕ) (told : K → Option V) (j : K) → given k ≡ None → TellsValues cmp given make told → make k fuel told ≡ Needs j → (told j ≡ None) × IsOneOf (reads k fuel) j
