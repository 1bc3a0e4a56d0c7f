-- Memos: what was found for keys, and until when it is known to be so (own).
use Rattle.std.specs.Prelude.{ℕ, ◌≡◌, List, [], ◌∷◌, Option, Some, None, option_map}
use Rattle.std.specs.declared.cmp.Ordering.{Ordering}
use Rattle.std.specs.declared.cmp.Ordering.TheVariants.{Less}
use Rattle.std.specs.Ordering.{match_ordering}

-- A value of a key: the revision that names it, and the keys that were read for it with the revisions that name their values.
pub record FindingValue (K V : Type 0) : Type 0 where
  pub key : K
  pub value : V
  pub stamp : ℕ
  pub reads : List (K × ℕ)

-- What was found, and the last revision at which it is known to be so.
pub record MemoValue (K V : Type 0) : Type 0 where
  pub finding : FindingValue K V
  pub verified : ℕ

module _ {K V : Type 0} where
  -- the memo of a key; the first counts
  abbrev pub memo_in : (K → K → Ordering) → List (MemoValue K V) → K → Option (MemoValue K V)
  memo_in cmp [] k = None
  memo_in cmp (memo ∷ memos) k = match_ordering (cmp k memo.finding.key) (memo_in cmp memos k) (Some memo) (memo_in cmp memos k)

  -- the memos with this one at its key, and all others as they are
  abbrev pub put_memo : (K → K → Ordering) → MemoValue K V → List (MemoValue K V) → List (MemoValue K V)
  put_memo cmp new [] = new ∷ []
  put_memo cmp new (memo ∷ memos) = match_ordering (cmp new.finding.key memo.finding.key) (new ∷ memo ∷ memos) (new ∷ memos) (memo ∷ put_memo cmp new memos)

  -- every key of the memos comes after this one
  abbrev pub AllAfter : (K → K → Ordering) → K → List (MemoValue K V) → Type 0
  AllAfter cmp k [] = Unit {0}
  AllAfter cmp k (memo ∷ memos) = (cmp k memo.finding.key ≡ Less) × AllAfter cmp k memos

  -- the keys rise
  abbrev pub IsInOrder : (K → K → Ordering) → List (MemoValue K V) → Type 0
  IsInOrder cmp [] = Unit {0}
  IsInOrder cmp (memo ∷ memos) = AllAfter cmp memo.finding.key memos × IsInOrder cmp memos
