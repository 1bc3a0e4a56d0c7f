-- Memos that are kept beside a history, and what is joined to them (own).
use Rattle.std.specs.Prelude.{ℕ, ◌≡◌, ◌++◌, Bool, false, cond, nat_lt, List, [], ◌∷◌, Option, Some, None}
use Rattle.std.specs.declared.cmp.Ordering.{Ordering}
use Rattle.sve_history.specs.declared.entry.Entry.{Entry}
use Rattle.sve_history.specs.Histories.{HistoryValue}
use Rattle.sve_memo.specs.Memos.{MemoValue, memo_in, put_memo}

-- memos beside a history
pub record StoreValue (K V : Type 0) : Type 0 where
  pub history : HistoryValue
  pub memos : List (MemoValue K V)

-- the later history has the same opening files, and begins with the entries of the earlier one
pub record GoesOn (earlier later : HistoryValue) : Type 0 where
  pub more : List Entry
  pub is : later ≡ record { opening = earlier.opening; entries = earlier.entries ++ more }

module _ {K V : Type 0} where
  -- whether there is a memo, and it was verified after this revision
  abbrev pub has_later : Option (MemoValue K V) → ℕ → Bool
  has_later None revision = false
  has_later (Some held) revision = nat_lt revision held.verified

  -- what is kept of two memos of a key, of which the second was held: that one where it was verified later, else the first
  abbrev pub kept_of : Option (MemoValue K V) → Option (MemoValue K V) → Option (MemoValue K V)
  kept_of None held = held
  kept_of (Some memo) held = cond (has_later held memo.verified) held (Some memo)

  -- of each key that is kept which is fresh, unless the one that was held was verified later; and no other is touched
  abbrev pub AreJoined : (K → K → Ordering) → List (MemoValue K V) → List (MemoValue K V) → List (MemoValue K V) → Type 0
  AreJoined cmp fresh before after = (k : K) → memo_in cmp after k ≡ kept_of (memo_in cmp fresh k) (memo_in cmp before k)

  -- the memos with this one at its key, unless the one there was verified later
  abbrev pub put_later : (K → K → Ordering) → MemoValue K V → List (MemoValue K V) → List (MemoValue K V)
  put_later cmp memo memos = cond (has_later (memo_in cmp memos memo.finding.key) memo.verified) memos (put_memo cmp memo memos)

  -- the memos with these put in, one after another
  abbrev pub joined : (K → K → Ordering) → List (MemoValue K V) → List (MemoValue K V) → List (MemoValue K V)
  joined cmp held [] = held
  joined cmp held (memo ∷ fresh) = joined cmp (put_later cmp memo held) fresh
