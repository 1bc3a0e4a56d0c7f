-- What a call adds to the fresh memos, and which keys it makes current (own).
use Rattle.std.specs.Prelude.{ℕ, suc, ◌≡◌, ◌<◌, ◌≤◌, ◌⊎◌, Bool, true, false, List, [], ◌∷◌, Option, Some}
use Rattle.sve_text.specs.Files.{FilesValue}
use Rattle.sve_store.specs.Made.{Needs, value_in, values_of, IsOneOf}
use Rattle.sve_store.specs.Values.{OnTheWay}
use Rattle.sve_memo.specs.Memos.{FindingValue, MemoValue}
use Rattle.sve_ask.specs.Sound.{Defined}
use Rattle.sve_ask.specs.Current.{found_in, overlaid, IsCurrent, Currently, NotYet, Serving}

-- the keys are distinct
abbrev pub AreDistinct : {K : Type 0} → List K → Type 0
AreDistinct [] = Unit {0}
AreDistinct (k ∷ ks) = (IsOneOf ks k → ⊥) × AreDistinct ks

-- what was found for k records j
abbrev pub Records : {K V : Type 0} → (K → Option (FindingValue K V)) → K → K → Type 0
Records {K} {V} found k j = (f : FindingValue K V) × (t : ℕ) × (found k ≡ Some f) × IsOneOf f.reads (j, t)

-- each memo is verified at revision r
abbrev pub AllVerified : {K V : Type 0} → ℕ → List (MemoValue K V) → Type 0
AllVerified {K} {V} r memos = (memo : MemoValue K V) → IsOneOf memos memo → memo.verified ≡ r

-- the reads of a phase, by their rank and that of the key: first those of lower rank, then those of its own
abbrev pub InPhase : Bool → ℕ → ℕ → Type 0
InPhase false rank own = rank < own
InPhase true rank own = own ≤ rank

module _ {K V : Type 0} (D : Defined K V) (files : FilesValue) where
  -- k reads j at these files, at the fuel: j is needed over what is told on the way to the value
  abbrev pub Reads : K → ℕ → K → Type 0
  Reads k fuel j = ∥ ((told : List (K × V)) × OnTheWay D.cmp (values_of (D.given files)) D.make k fuel told × (D.make k fuel (value_in D.cmp told) ≡ Needs j)) ∥₁

  -- m is k, or one that is recorded for k or read by it, or in the reach of such a one
  pub data InReach (found : K → Option (FindingValue K V)) : K → ℕ → K → Type 0 where
    itself : {k : K} {fuel : ℕ} → InReach found k fuel k
    further : {k : K} {fuel : ℕ} {j m : K} → Records found k j ⊎ Reads k fuel j → InReach found j 0 m → InReach found k fuel m

  -- m is in the reach of a key that these reads record
  abbrev pub InReachOfReads : (K → Option (FindingValue K V)) → List (K × ℕ) → K → Type 0
  InReachOfReads found reads m = (j : K) × (t : ℕ) × IsOneOf reads (j, t) × InReach found j 0 m

  -- m is in the reach of a key that k reads
  abbrev pub InReachBelow : (K → Option (FindingValue K V)) → K → ℕ → K → Type 0
  InReachBelow found k fuel m = (j : K) × Reads k fuel j × InReach found j 0 m

  -- m is in the reach of k, below it
  abbrev pub IsBelow : (K → Option (FindingValue K V)) → K → ℕ → K → Type 0
  IsBelow found k fuel m = (j : K) × (Records found k j ⊎ Reads k fuel j) × InReach found j 0 m

  -- each of the reads that is of the phase is current with its stamp
  abbrev pub AllCurrent : (K → Option (FindingValue K V)) → (K → Type 0) → List (K × ℕ) → Type 0
  AllCurrent found Phase reads = (j : K) (t : ℕ) → IsOneOf reads (j, t) → Phase j → IsCurrent (D.given files) found j t

  -- one of the reads is current with another stamp
  abbrev pub OneStale : (K → Option (FindingValue K V)) → List (K × ℕ) → Type 0
  OneStale found reads = (j : K) × (t : ℕ) × (s : ℕ) × IsOneOf reads (j, t) × IsCurrent (D.given files) found j s × (s ≡ t → ⊥)

  -- what a look at the reads showed
  abbrev pub HasShown : Bool → (K → Option (FindingValue K V)) → (K → Type 0) → List (K × ℕ) → Type 0
  HasShown true found Phase reads = AllCurrent found Phase reads
  HasShown false found Phase reads = OneStale found reads

  -- A memo of k that is renewed: its reads are current. It is what was found last, or it was computed anew, for a key that was not current.
  abbrev pub IsRenewed : (K → Option (FindingValue K V)) → (K → Option (FindingValue K V)) → K → ℕ → FindingValue K V → ℕ → ℕ → Type 0
  IsRenewed fresh found k fuel f after least =
      AllCurrent fresh (λ j. Unit {0}) f.reads
      × (((found k ≡ Some f) × (after ≤ least)) ⊎ (NotYet (D.given files) found k × ((j : K) (t : ℕ) → IsOneOf f.reads (j, t) → Reads k fuel j) × (after ≤ suc least)))

  -- The fresh memos are at rest: all are verified at r, and each of their keys is current by them alone.
  pub record IsSettled (r : ℕ) (memos : List (MemoValue K V)) : Type 0 where
    pub verified : AllVerified r memos
    pub current : (k : K) (f : FindingValue K V) → found_in D.cmp memos k ≡ Some f → IsCurrent (D.given files) (found_in D.cmp memos) k f.stamp

  -- From the fresh memos before to those after a call, the keys `made` became current, which are of a reach.
  -- What was found among the fresh memos stays, keys of at least a height are left alone, what was current stays so by what was found for it, what is recorded was recorded before or is read, and the keys that were made have lower heights.
  pub record Gains (height : K → ℕ) (lent : List (MemoValue K V)) (r top fuel : ℕ) (Reach : K → Type 0) (before after : List (MemoValue K V)) (made : List K) : Type 0 where
    pub settled : IsSettled r after
    pub kept : (k : K) (f : FindingValue K V) → found_in D.cmp before k ≡ Some f → found_in D.cmp after k ≡ Some f
    pub high : (k : K) → top ≤ height k → found_in D.cmp after k ≡ found_in D.cmp before k
    pub still : (k : K) (s : ℕ) → IsCurrent (D.given files) (overlaid D.cmp before lent) k s → IsCurrent (D.given files) (overlaid D.cmp after lent) k s
    pub same : (k : K) (s : ℕ) → IsCurrent (D.given files) (overlaid D.cmp before lent) k s → overlaid D.cmp after lent k ≡ overlaid D.cmp before lent k
    pub recorded : fuel ≡ 0 → (k j : K) → Records (overlaid D.cmp after lent) k j → Records (overlaid D.cmp before lent) k j ⊎ Reads k 0 j
    pub distinct : AreDistinct made
    pub below : (k : K) → IsOneOf made k → height k < top
    pub each : (k : K) → IsOneOf made k → Reach k × NotYet (D.given files) (overlaid D.cmp before lent) k × Currently (D.given files) (overlaid D.cmp after lent) k

  -- the key is current, and what was found for it serves at the fuel
  abbrev pub IsCurrentFor : (K → Option (FindingValue K V)) → K → ℕ → Type 0
  IsCurrentFor found k fuel = Currently (D.given files) found k × Serving found D.serves k fuel

  -- From the fresh memos before to those after an ask with a fuel, the keys `made` became current, which are of a reach and were not current for the fuel.
  -- What was current for a fuel is so still.
  pub record Makes (lent : List (MemoValue K V)) (r fuel : ℕ) (Reach : K → Type 0) (before after : List (MemoValue K V)) (made : List K) : Type 0 where
    pub settled : IsSettled r after
    pub still : (k : K) (f : ℕ) → IsCurrentFor (overlaid D.cmp before lent) k f → IsCurrentFor (overlaid D.cmp after lent) k f
    pub distinct : AreDistinct made
    pub each : (k : K) → IsOneOf made k → Reach k × (IsCurrentFor (overlaid D.cmp before lent) k fuel → ⊥) × Currently (D.given files) (overlaid D.cmp after lent) k
