-- Values that are told one after another, as memos that a table holds by their keys (own).
use Rattle.std.specs.Prelude.{◌≡◌, List, [], ◌∷◌, Option, Some, None, option_map}
use Rattle.std.specs.declared.cmp.Ordering.{Ordering}
use Rattle.sve_memo.specs.Memos.{MemoValue, memo_in, put_memo}
use Rattle.sve_store.specs.Made.{value_in}

module _ {K V : Type 0} where
  -- the values of some memos, each with its key
  abbrev pub told_values : List (MemoValue K V) → List (K × V)
  told_values [] = []
  told_values (memo ∷ memos) = (memo.finding.key, memo.finding.value) ∷ told_values memos

  -- of each key the table holds the value that was told first
  abbrev pub IsTableOf : (K → K → Ordering) → List (MemoValue K V) → List (MemoValue K V) → Type 0
  IsTableOf cmp told table = (k : K) → value_in cmp (told_values told) k ≡ option_map (λ memo. memo.finding.value) (memo_in cmp table k)

  -- the table with this memo, unless it has another of its key
  abbrev pub entered_by : (K → K → Ordering) → MemoValue K V → List (MemoValue K V) → Option (MemoValue K V) → List (MemoValue K V)
  entered_by cmp memo table (Some earlier) = table
  entered_by cmp memo table None = put_memo cmp memo table

  abbrev pub entered : (K → K → Ordering) → MemoValue K V → List (MemoValue K V) → List (MemoValue K V)
  entered cmp memo table = entered_by cmp memo table (memo_in cmp table memo.finding.key)
