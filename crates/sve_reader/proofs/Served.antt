-- What a reader tells and keeps, once it has ended.
use Rattle.std.proofs.Common.{◌≡◌, ℕ, List, sym, subst}
use Rattle.std.specs.Coded.{Coded, Coded-set}
use mathlib.Core.Logic.{∥∥₁_elim}
use Rattle.sve_store.specs.Made.{values_of}
use Rattle.sve_store.specs.Values.{IsValue, IsTable}
use Rattle.sve_store.specs.Snapshots.{SnapshotValue}
use Rattle.sve_memo.specs.Memos.{MemoValue}
use Rattle.sve_ask.specs.Sound.{Defined, AllSound}
use Rattle.sve_reader.specs.UpToDate.{IsUpToDate, StaysUpToDate, IsServed}

module _ {K V : Type 0} (D : Defined K V) where
  pub sound_with : (snapshot other : SnapshotValue) → snapshot ≡ other → (memos now : List (MemoValue K V)) → now ≡ memos → ∥ AllSound D snapshot.history memos ∥₁ → ∥ AllSound D other.history now ∥₁
  sound_with snapshot other same memos now is sound =
      subst (λ (s : SnapshotValue). ∥ AllSound D s.history now ∥₁) same (subst (λ (l : List (MemoValue K V)). ∥ AllSound D snapshot.history l ∥₁) (sym is) sound)

  -- a key is up to date with the same memos
  pub ready_with : (snapshot other : SnapshotValue) (lent lent_now fresh fresh_now : List (MemoValue K V)) → snapshot ≡ other → lent ≡ lent_now → fresh ≡ fresh_now → (k : K) (fuel : ℕ)
      → IsUpToDate D other.files fresh_now lent_now k fuel → IsUpToDate D snapshot.files fresh lent k fuel
  ready_with snapshot other lent lent_now fresh fresh_now same also is k fuel up =
      subst (λ (s : SnapshotValue). IsUpToDate D s.files fresh lent k fuel) (sym same)
      (subst (λ (l : List (MemoValue K V)). IsUpToDate D other.files fresh l k fuel) (sym also) (subst (λ (l : List (MemoValue K V)). IsUpToDate D other.files l lent_now k fuel) (sym is) up))

  pub up_to_date_with : (snapshot other : SnapshotValue) (lent lent_now before before_now after after_now : List (MemoValue K V)) → other ≡ snapshot → lent_now ≡ lent → before_now ≡ before → after_now ≡ after
      → StaysUpToDate D other.files lent_now before_now after → StaysUpToDate D snapshot.files lent before after_now
  up_to_date_with snapshot other lent lent_now before before_now after after_now same also is last stays k fuel up =
      ready_with snapshot other lent lent_now after_now after (sym same) (sym also) last k fuel (stays k fuel (ready_with other snapshot lent_now lent before_now before same also is k fuel up))

  -- what is served to whoever asks is what each table of the values has
  pub served_value : (code : Coded V) (read_at : V → ℕ → V) (snapshot other : SnapshotValue) → snapshot ≡ other → (table : K → ℕ → V) → IsTable D.cmp (values_of (D.given other.files)) D.make table
      → ((k : K) (f : ℕ) (v w : V) → IsValue D.cmp (values_of (D.given other.files)) D.make k f v → IsValue D.cmp (values_of (D.given other.files)) D.make k f w → v ≡ w)
      → (k : K) (f : ℕ) (v : V) → IsServed D snapshot.files read_at k f v → read_at v f ≡ table k f
  served_value code read_at snapshot other same table is one k f v served =
      let here : IsServed D other.files read_at k f v = subst (λ (s : SnapshotValue). IsServed D s.files read_at k f v) same served in
      ∥∥₁_elim here.0 (Coded-set code (read_at v f) (table k f)) (λ x. one k f (read_at v f) (table k f) x (is k f))
