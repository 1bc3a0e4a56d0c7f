-- When memos are sound for a history (own).
use Rattle.std.specs.Prelude.{ℕ, ◌≡◌, ◌<◌, ◌≤◌, ◌⊎◌, Bool, List, [], length, Option, None}
use Rattle.std.specs.declared.cmp.Ordering.{Ordering}
use Rattle.sve_text.specs.Files.{FilesValue}
use Rattle.sve_history.specs.Histories.{HistoryValue, IsOpening, files_at}
use Rattle.sve_store.specs.Made.{Made, values_of, IsOneOf}
use Rattle.sve_store.specs.Values.{Gives, IsValue}
use Rattle.sve_memo.specs.Memos.{MemoValue}

-- what kinds define: the order of their keys, the inputs, the definitions of the others, the ranks, and which values serve at which fuels
pub record Defined (K V : Type 0) : Type 0 where
  pub cmp : K → K → Ordering
  pub given : FilesValue → K → Option (V × ℕ)
  pub make : K → ℕ → (K → Option V) → Made K V
  pub ranked : K → ℕ
  pub serves : V → ℕ → Bool

-- the files of revision r
abbrev pub files_of : HistoryValue → ℕ → FilesValue
files_of h r = files_at h.opening h.entries r

-- these are the files of the last revision of the history, which has this number
pub record IsNewest (h : HistoryValue) (r : ℕ) (files : FilesValue) : Type 0 where
  pub last : r ≡ length h.entries
  pub here : files_of h r ≡ files
  pub untouched : IsOpening h.opening

module _ {K V : Type 0} (D : Defined K V) (h : HistoryValue) where
  -- the key has this value at revision r, at the fuel
  abbrev pub ValueAt : ℕ → K → ℕ → V → Type 0
  ValueAt r k fuel v = IsValue D.cmp (values_of (D.given (files_of h r))) D.make k fuel v

  -- at some fuel
  abbrev pub HasValue : ℕ → K → V → Type 0
  HasValue r k v = ∥ ((fuel : ℕ) × ValueAt r k fuel v) ∥₁

  -- whatever values the key has at the two revisions, they are one
  abbrev pub SameAt : ℕ → ℕ → K → Type 0
  SameAt s r k = (v w : V) → ValueAt s k 0 v → ValueAt r k 0 w → v ≡ w

  -- the key has the value at revision r and at the one that is its stamp
  abbrev pub IsStamped : ℕ → K → V → ℕ → Type 0
  IsStamped r k v s = (s ≤ r) × HasValue s k v × HasValue r k v

  -- the definition of the key does not look at the fuel, so another key may read it
  abbrev pub IsFree : K → Type 0
  IsFree k = (fuel : ℕ) (told : K → Option V) → D.make k fuel told ≡ D.make k 0 told

  -- The memo's value is that of its key at the stamp, and at the revision at which it was verified.
  -- There the key reads keys that are among the recorded reads, and each of these has the value that it has at its recorded stamp. What else is recorded has a lower rank.
  pub record IsSound (memo : MemoValue K V) : Type 0 where
    pub stamped : memo.finding.stamp ≤ memo.verified
    pub known : memo.verified ≤ length h.entries
    pub computed : (files : FilesValue) → values_of (D.given files) memo.finding.key ≡ None
    pub before : (fuel : ℕ) × ValueAt memo.finding.stamp memo.finding.key fuel memo.finding.value
    pub fuel : ℕ
    pub read : List K
    pub now : Gives D.cmp (values_of (D.given (files_of h memo.verified))) D.make memo.finding.key fuel [] memo.finding.value read
    pub each : (j : K) (t : ℕ) → IsOneOf memo.finding.reads (j, t) → (t ≤ memo.verified) × ((D.ranked j < D.ranked memo.finding.key) ⊎ IsOneOf read j) × IsFree j × SameAt t memo.verified j
    pub cover : (j : K) → IsOneOf read j → (t : ℕ) × IsOneOf memo.finding.reads (j, t)

  -- each of the memos is sound
  abbrev pub AllSound : List (MemoValue K V) → Type 0
  AllSound memos = (memo : MemoValue K V) → IsOneOf memos memo → ∥ IsSound memo ∥₁
