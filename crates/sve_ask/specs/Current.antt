-- Which keys are current, by what was found last for each (own).
use Rattle.std.specs.Prelude.{ℕ, ◌≡◌, Bool, true, false, List, Option, Some, None, option_map, IfSome}
use Rattle.std.specs.declared.cmp.Ordering.{Ordering}
use Rattle.sve_store.specs.Made.{IsOneOf}
use Rattle.sve_memo.specs.Memos.{FindingValue, MemoValue, memo_in}

-- the first, or else the second
abbrev pub first_of : {A : Type 0} → Option A → Option A → Option A
first_of None other = other
first_of (Some x) other = Some x

module _ {K V : Type 0} where
  -- what the memos have for a key
  abbrev pub found_in : (K → K → Ordering) → List (MemoValue K V) → K → Option (FindingValue K V)
  found_in cmp memos k = option_map (λ (memo : MemoValue K V). memo.finding) (memo_in cmp memos k)

  -- what the fresh memos have for a key, or else those that were lent
  abbrev pub overlaid : (K → K → Ordering) → List (MemoValue K V) → List (MemoValue K V) → K → Option (FindingValue K V)
  overlaid cmp fresh lent k = first_of (found_in cmp fresh k) (found_in cmp lent k)

-- A key is current with a stamp: that of an input, or that of what was found for it, where each key that is recorded there is current with its recorded stamp.
pub data IsCurrent {K V : Type 0} (given : K → Option (V × ℕ)) (found : K → Option (FindingValue K V)) : K → ℕ → Type 0 where
  by_input : {k : K} {v : V} {s : ℕ} → given k ≡ Some (v, s) → IsCurrent given found k s
  by_memo : {k : K} {s : ℕ} {f : FindingValue K V} → given k ≡ None → found k ≡ Some f → f.stamp ≡ s → ((j : K) (t : ℕ) → IsOneOf f.reads (j, t) → IsCurrent given found j t) → IsCurrent given found k s

module _ {K V : Type 0} (given : K → Option (V × ℕ)) (found : K → Option (FindingValue K V)) where
  -- the key is current
  abbrev pub Currently : K → Type 0
  Currently k = (s : ℕ) × IsCurrent given found k s

  -- it is not
  abbrev pub NotYet : K → Type 0
  NotYet k = (s : ℕ) → IsCurrent given found k s → ⊥

-- what was found for the key, if anything, serves at the fuel
abbrev pub Serving : {K V : Type 0} → (K → Option (FindingValue K V)) → (V → ℕ → Bool) → K → ℕ → Type 0
Serving {K} {V} found serves k fuel = IfSome (found k) (λ f. serves f.value fuel ≡ true)

-- something was found for the key, and it does not serve at the fuel
abbrev pub Lacking : {K V : Type 0} → (K → Option (FindingValue K V)) → (V → ℕ → Bool) → K → ℕ → Type 0
Lacking {K} {V} found serves k fuel = (f : FindingValue K V) × (found k ≡ Some f) × (serves f.value fuel ≡ false)

-- nothing was computed, and what was found last for each key is as before
abbrev pub IsStill : {K V : Type 0} → ℕ → ℕ → (K → Option (FindingValue K V)) → (K → Option (FindingValue K V)) → Type 0
IsStill {K} before after found found_now = (after ≡ before) × ((k : K) → found k ≡ found_now k)
