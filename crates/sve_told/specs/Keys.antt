-- What an object promises that tells the values of keys, each as it is asked for with a fuel (own).
use Rattle.std.specs.Prelude.{◌≡◌, ℕ, ◌↔◌, ◌⊎◌, Option, Some, Result, IsErr}

-- the map holds all that the object tells, whatever the fuel
abbrev pub HoldsKeys : {K V : Type 0} → (K → Option V) → (K → ℕ → V → Type 0) → Type 0
HoldsKeys {K} {V} told tells = (k : K) (fuel : ℕ) (v : V) → tells k fuel v → told k ≡ Some v

-- and it holds nothing else
abbrev pub MatchesKeys : {K V : Type 0} → (K → Option V) → (K → ℕ → V → Type 0) → Type 0
MatchesKeys {K} {V} told tells = (k : K) (fuel : ℕ) (v : V) → tells k fuel v ↔ (told k ≡ Some v)

-- it tells the same before and after
abbrev pub TellSameKeys : {K V : Type 0} → (K → ℕ → V → Type 0) → (K → ℕ → V → Type 0) → Type 0
TellSameKeys {K} {V} before after = (k : K) (fuel : ℕ) (v : V) → before k fuel v ↔ after k fuel v

-- the object halted at this key: it had before, or the call for a key failed since nothing is told of that one
abbrev pub HaltedAt : {K V R E : Type 0} → (K → ℕ → V → Type 0) → Option K → K → Result R E → K → Type 0
HaltedAt {K} {V} tells before key result other = (before ≡ Some other) ⊎ (IsErr result × (other ≡ key) × ((fuel : ℕ) (v : V) → tells key fuel v → ⊥))
