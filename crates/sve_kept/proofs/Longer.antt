-- What is sound for a history is sound for one that goes on from it.
use Rattle.std.proofs.Common.{◌≡◌, ℕ, ◌≤◌, List, [], ◌++◌, sym, subst, arith, length, length-append}
use mathlib.Core.Logic.{∥∥₁_elim, ∥∥₁_map, ∥∥₁_prop}
use Rattle.sve_text.specs.Files.{FilesValue}
use Rattle.sve_history.specs.declared.entry.Entry.{Entry}
use Rattle.sve_history.specs.Histories.{HistoryValue}
use Rattle.sve_history.proofs.Pushes.{earlier_revisions_stay}
use Rattle.sve_store.specs.Made.{values_of}
use Rattle.sve_store.specs.Values.{Gives, IsValue}
use Rattle.sve_memo.specs.Memos.{MemoValue}
use Rattle.sve_ask.specs.Sound.{Defined, ValueAt, SameAt, IsSound, AllSound, files_of}
use Rattle.sve_kept.specs.Kept.{GoesOn}

-- the history with more entries
abbrev longer : HistoryValue → List Entry → HistoryValue
longer h more = record { opening = h.opening; entries = h.entries ++ more }

module _ {K V : Type 0} (D : Defined K V) (h : HistoryValue) (more : List Entry) where
  -- each revision of the history has the files that it had
  files_stay : (r : ℕ) → r ≤ length h.entries → files_of (longer h more) r ≡ files_of h r
  files_stay r le = earlier_revisions_stay h.opening h.entries more r le

  value_later : (r : ℕ) (k : K) (fuel : ℕ) (v : V) → r ≤ length h.entries → ValueAt D h r k fuel v → ValueAt D (longer h more) r k fuel v
  value_later r k fuel v le at = subst (λ (files : FilesValue). IsValue D.cmp (values_of (D.given files)) D.make k fuel v) (sym (files_stay r le)) at

  value_before : (r : ℕ) (k : K) (fuel : ℕ) (v : V) → r ≤ length h.entries → ValueAt D (longer h more) r k fuel v → ValueAt D h r k fuel v
  value_before r k fuel v le at = subst (λ (files : FilesValue). IsValue D.cmp (values_of (D.given files)) D.make k fuel v) (files_stay r le) at

  same_later : (s r : ℕ) (k : K) → s ≤ length h.entries → r ≤ length h.entries → SameAt D h s r k → SameAt D (longer h more) s r k
  same_later s r k first second same v w at_s at_r = same v w (value_before s k 0 v first at_s) (value_before r k 0 w second at_r)

  sound_later : (m : MemoValue K V) → IsSound D h m → IsSound D (longer h more) m
  sound_later m sound =
      let stamped = sound.stamped in
      let known = sound.known in
      record {
        stamped = stamped;
        known = omega (arith, known, length-append h.entries more);
        computed = sound.computed;
        before = (sound.before.0, value_later m.finding.stamp m.finding.key sound.before.0 m.finding.value (omega (arith, stamped, known)) sound.before.1);
        fuel = sound.fuel;
        read = sound.read;
        now = subst (λ (files : FilesValue). Gives D.cmp (values_of (D.given files)) D.make m.finding.key sound.fuel [] m.finding.value sound.read) (sym (files_stay m.verified known)) sound.now;
        each = λ j t i. let e = sound.each j t i in let late = e.0 in (late, e.1, e.2, same_later t m.verified j (omega (arith, late, known)) known e.3);
        cover = sound.cover;
      }

module _ {K V : Type 0} (D : Defined K V) (earlier later : HistoryValue) (goes : GoesOn earlier later) where
  pub sound_longer : (m : MemoValue K V) → IsSound D earlier m → IsSound D later m
  sound_longer m sound = subst (λ h. IsSound D h m) (sym goes.is) (sound_later D earlier goes.more m sound)

  pub all_longer : (memos : List (MemoValue K V)) → AllSound D earlier memos → AllSound D later memos
  all_longer memos all m i = ∥∥₁_map (all m i) (λ s. sound_longer m s)

-- of memos that are known to be sound each is known to be
pub each_sound : {K V : Type 0} (D : Defined K V) (h : HistoryValue) (memos : List (MemoValue K V)) → ∥ AllSound D h memos ∥₁ → AllSound D h memos
each_sound D h memos all m i = ∥∥₁_elim all ∥∥₁_prop (λ a. a m i)
