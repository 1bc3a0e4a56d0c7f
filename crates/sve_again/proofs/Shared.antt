-- What an ask found is found again once it is joined to what was shared.
use Rattle.std.proofs.Common.{◌≡◌, ℕ, ◌≤◌, Bool, true, false, cond, Option, Some, None, is_some, List, [], length, take, arith, sym, ap, ◌∙◌, refl, subst}
use Rattle.std.specs.Prelude.{option_map, IfSome}
use Rattle.std.specs.declared.cmp.Ordering.TheVariants.{Equal}
use Rattle.std.proofs.Props.{props}
use Rattle.std.proofs.lemmas.Bool.{le-ltb}
use Rattle.std.proofs.lemmas.List.{take_all}
use mathlib.Core.Logic.{∥∥₁_map, ∥∥₁_elim}
use Rattle.sve_text.specs.Files.{FilesValue}
use Rattle.sve_history.specs.declared.entry.Entry.{Entry}
use Rattle.sve_history.specs.Histories.{HistoryValue}
use Rattle.sve_store.specs.Made.{values_of}
use Rattle.sve_memo.specs.Memos.{FindingValue, MemoValue, memo_in}
use Rattle.sve_ask.specs.Sound.{Defined, AllSound}
use Rattle.sve_ask.specs.Current.{first_of, overlaid, by_input}
use Rattle.sve_ask.specs.Gains.{AllVerified, IsCurrentFor}
use Rattle.sve_ask.proofs.Puts.{found_held}
use Rattle.sve_ask.proofs.Stays.{current_along}
use Rattle.sve_core.specs.Asks.{history_at}
use Rattle.sve_kept.specs.Kept.{has_later, kept_of, AreJoined}
use Rattle.sve_reader.specs.UpToDate.{IsUpToDate}

module _ {K V : Type 0} where
  abbrev finding_of : Option (MemoValue K V) → Option (FindingValue K V)
  finding_of o = option_map (λ (memo : MemoValue K V). memo.finding) o

  -- of a memo that is no earlier than the one that was held, this is what is kept
  kept_by : (found held : Option (MemoValue K V)) → ((memo : MemoValue K V) → found ≡ Some memo → has_later held memo.verified ≡ false) → finding_of (kept_of found held) ≡ first_of (finding_of found) (finding_of held)
  kept_by None held new = refl
  kept_by (Some memo) held new = ap (λ b. option_map (λ (m : MemoValue K V). m.finding) (cond b held (Some memo))) (new memo refl)

module _ {K V : Type 0} (D : Defined K V) (exact : (a b : K) → D.cmp a b ≡ Equal → a ≡ b) (itself : (k : K) → D.cmp k k ≡ Equal) (history : HistoryValue) where
  later_by : (memos : List (MemoValue K V)) (k : K) → AllSound D history memos → (o : Option (MemoValue K V)) → memo_in D.cmp memos k ≡ o → has_later o (length history.entries) ≡ false
  later_by memos k sound None is = refl
  later_by memos k sound (Some held) is =
      let known : held.verified ≤ length history.entries = ∥∥₁_elim (sound held (found_held D.cmp exact itself memos k held is).1) (hlevel props) (λ s. s.known) in
      le-ltb (length history.entries) held.verified known

  -- what was found at the last revision of the history, over what was shared, is what is shared once it is joined
  pub joined_found : (fresh shared after : List (MemoValue K V)) → AllSound D history shared → AllVerified (length history.entries) fresh → AreJoined D.cmp fresh shared after → (k : K) → overlaid D.cmp fresh shared k ≡ overlaid D.cmp [] after k
  joined_found fresh shared after sound verified joined k =
      let new = λ (memo : MemoValue K V) (is : memo_in D.cmp fresh k ≡ Some memo).
      subst (λ (r : ℕ). has_later (memo_in D.cmp shared k) r ≡ false) (sym (verified memo (found_held D.cmp exact itself fresh k memo is).1)) (later_by shared k sound (memo_in D.cmp shared k) refl) in
      sym (ap (option_map (λ (memo : MemoValue K V). memo.finding)) (joined k) ∙ kept_by (memo_in D.cmp fresh k) (memo_in D.cmp shared k) new)

  -- what is up to date by what was found is so by what is shared then
  pub joined_up_to_date : (files : FilesValue) (fresh shared after : List (MemoValue K V)) → AllSound D history shared → AllVerified (length history.entries) fresh → AreJoined D.cmp fresh shared after
      → (k : K) (fuel : ℕ) → IsUpToDate D files fresh shared k fuel → IsUpToDate D files [] after k fuel
  joined_up_to_date files fresh shared after sound verified joined k fuel up =
      let same = joined_found fresh shared after sound verified joined in
      ∥∥₁_map up (λ (now : IsCurrentFor D files (overlaid D.cmp fresh shared) k fuel).
      ((now.0.0, current_along (D.given files) (overlaid D.cmp fresh shared) (overlaid D.cmp [] after) same k now.0.0 now.0.1), subst (λ (o : Option (FindingValue K V)). IfSome o (λ f. D.serves f.value fuel ≡ true)) (same k) now.1))

  given_by : (files : FilesValue) (k : K) (o : Option (V × ℕ)) → D.given files k ≡ o → is_some o ≡ true → (s : ℕ) × (v : V) × (D.given files k ≡ Some (v, s))
  given_by files k None is some = cc
  given_by files k (Some pair) is some = (pair.1, pair.0, is)

  unfound_by : (files : FilesValue) (memos : List (MemoValue K V)) (k : K) (fuel : ℕ) → AllSound D history memos → (v : V) (s : ℕ) → D.given files k ≡ Some (v, s) → (o : Option (MemoValue K V)) → memo_in D.cmp memos k ≡ o
      → IfSome (option_map (λ (memo : MemoValue K V). memo.finding) o) (λ f. D.serves f.value fuel ≡ true)
  unfound_by files memos k fuel sound v s is None at = tt
  unfound_by files memos k fuel sound v s is (Some memo) at = absurd (
      let held = found_held D.cmp exact itself memos k memo at in
      ∥∥₁_elim (sound memo held.1) (hlevel props) (λ m.
      let none : values_of (D.given files) k ≡ None = subst (λ q. values_of (D.given files) q ≡ None) held.0 (m.computed files) in
      let some : values_of (D.given files) k ≡ Some v = ap (option_map (λ (pair : V × ℕ). pair.0)) is in
      cc))

  -- an input is up to date by whatever is shared
  pub input_up_to_date : (files : FilesValue) (memos : List (MemoValue K V)) → AllSound D history memos → (k : K) (fuel : ℕ) → is_some (D.given files k) ≡ true → IsUpToDate D files [] memos k fuel
  input_up_to_date files memos sound k fuel some =
      let given = given_by files k (D.given files k) refl some in
      ∣ ((given.0, by_input given.2), unfound_by files memos k fuel sound given.1 given.0 given.2 (memo_in D.cmp memos k) refl) ∣₁

  ready_by : (files : FilesValue) (memos : List (MemoValue K V)) (k : K) (fuel : ℕ) (is_input : K → Bool) → AllSound D history memos → is_some (D.given files k) ≡ is_input k → (is_input k ≡ false → IsUpToDate D files [] memos k fuel)
      → (b : Bool) → is_input k ≡ b → IsUpToDate D files [] memos k fuel
  ready_by files memos k fuel is_input sound given up true is = input_up_to_date files memos sound k fuel (given ∙ is)
  ready_by files memos k fuel is_input sound given up false is = up is

  -- a key is up to date where it is so as far as it is computed
  pub up_to_date_if_computed : (files : FilesValue) (memos : List (MemoValue K V)) (k : K) (fuel : ℕ) (is_input : K → Bool) → AllSound D history memos → is_some (D.given files k) ≡ is_input k → (is_input k ≡ false → IsUpToDate D files [] memos k fuel) → IsUpToDate D files [] memos k fuel
  up_to_date_if_computed files memos k fuel is_input sound given up = ready_by files memos k fuel is_input sound given up (is_input k) refl

-- at its last revision a history is whole
pub whole_history : (history : HistoryValue) (r : ℕ) → r ≡ length history.entries → history_at history r ≡ history
whole_history history r last = ap (λ (entries : List Entry). let h : HistoryValue = record { opening = history.opening; entries = entries } in h) (ap (λ n. take n history.entries) last ∙ take_all (length history.entries) history.entries (omega arith))
