-- What is told of a key, and which keys are up to date (own).
use Rattle.std.specs.Prelude.{ℕ, ◌≡◌, true, List}
use Rattle.std.proofs.Common.{subst}
use Rattle.sve_text.specs.Files.{FilesValue}
use Rattle.sve_store.specs.Made.{values_of}
use Rattle.sve_store.specs.Values.{IsValue}
use Rattle.sve_store.specs.Snapshots.{SnapshotValue}
use Rattle.sve_memo.specs.Memos.{MemoValue}
use Rattle.sve_ask.specs.Sound.{Defined}
use Rattle.sve_ask.specs.Current.{overlaid}
use Rattle.sve_ask.specs.Gains.{IsCurrentFor}

module _ {K V : Type 0} (D : Defined K V) where
  -- by what was found last for each key, among the fresh memos or else among those that were lent, the key is current for the fuel
  abbrev pub IsUpToDate : FilesValue → List (MemoValue K V) → List (MemoValue K V) → K → ℕ → Type 0
  IsUpToDate files fresh lent k fuel = ∥ IsCurrentFor D files (overlaid D.cmp fresh lent) k fuel ∥₁

  -- what is up to date with the fresh memos before is so with those after
  abbrev pub StaysUpToDate : FilesValue → List (MemoValue K V) → List (MemoValue K V) → List (MemoValue K V) → Type 0
  StaysUpToDate files lent before after = (k : K) (fuel : ℕ) → IsUpToDate files before lent k fuel → IsUpToDate files after lent k fuel

  -- the value serves whoever asks for the key with the fuel, and what it says to them is the key's value
  abbrev pub IsServed : FilesValue → (V → ℕ → V) → K → ℕ → V → Type 0
  IsServed files read_at k fuel v = ∥ IsValue D.cmp (values_of (D.given files)) D.make k fuel (read_at v fuel) ∥₁ × (D.serves v fuel ≡ true)

  -- ---- a law

  -- it stays so over calls that were lent the same
  pub stays_on : (snapshot snapshot_now : SnapshotValue) (lent lent_now a b c : List (MemoValue K V)) → snapshot_now ≡ snapshot → lent_now ≡ lent
      → StaysUpToDate snapshot.files lent a b → StaysUpToDate snapshot_now.files lent_now b c → StaysUpToDate snapshot.files lent a c
  stays_on snapshot snapshot_now lent lent_now a b c same also first second k fuel is =
      let later : StaysUpToDate snapshot.files lent b c = subst (λ (s : SnapshotValue). StaysUpToDate s.files lent b c) same (subst (λ (l : List (MemoValue K V)). StaysUpToDate snapshot_now.files l b c) also second) in
      later k fuel (first k fuel is)
