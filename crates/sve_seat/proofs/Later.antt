-- What outcomes keep when the history goes on, and one outcome more.
use Rattle.std.proofs.Common.{◌≡◌, ℕ, zero, suc, ◌-◌, ◌≤◌, max, List, [], ◌∷◌, ◌++◌, length, slice_get, Some, refl, sym, ap, ◌∙◌, subst, arith, append_assoc, length-append}
use Rattle.std.proofs.lemmas.List.{append-nil}
use Rattle.sve_text.specs.Files.{FilesValue}
use Rattle.sve_text.specs.Refusals.{refusal_of}
use Rattle.sve_history.specs.declared.entry.Entry.{Entry}
use Rattle.sve_history.specs.Histories.{HistoryValue}
use Rattle.sve_history.proofs.Pushes.{earlier_revisions_stay}
use Rattle.sve_store.specs.declared.answer.Answer.{Answer}
use Rattle.sve_store.specs.declared.answer.Answer.TheVariants.{Done, Spent as Unanswered}
use Rattle.sve_core.specs.declared.commit.Commit.TheVariants.{Accepted, Refused, Full}
use Rattle.sve_core.specs.declared.commit.Outcome.TheVariants.{Answered, Spent, Cancelled}
use Rattle.sve_seat.specs.declared.told.Told.{Told}
use Rattle.sve_seat.specs.declared.told.Told.TheVariants.{Committed, Asked}
use Rattle.sve_seat.specs.Outcomes.{named, front_after, accepted_in, accepted, IsHonest, AreHonest}

-- the history with further entries
abbrev pub grown : HistoryValue → List Entry → HistoryValue
grown history more = record history { entries = history.entries ++ more }

pub longer : (history : HistoryValue) (more : List Entry) (r : ℕ) → r ≤ length history.entries → r ≤ length (grown history more).entries
longer history more r within = omega (arith, length-append history.entries more)

still_there : (entries more : List Entry) (k : ℕ) (e : Entry) → slice_get entries k ≡ Some e → slice_get (entries ++ more) k ≡ Some e
still_there [] more k e is = absurd (cc)
still_there (x ∷ entries) more zero e is = is
still_there (x ∷ entries) more (suc k) e is = still_there entries more k e is

pub last_there : (entries : List Entry) (e : Entry) → slice_get (entries ++ e ∷ []) (length entries) ≡ Some e
last_there [] e = refl
last_there (x ∷ entries) e = last_there entries e

module _ {Q : Type 0} (answers : FilesValue → Q → ℕ → Answer → Type 0) where
  honest_later : (history : HistoryValue) (more : List Entry) (i front : ℕ) (told : Told Q) → IsHonest answers history i front told → IsHonest answers (grown history more) i front told
  honest_later history more i front (Committed command edits (Accepted r)) is = (is.0, still_there history.entries more (r - 1) (record { client = i; command = command; edits = edits }) is.1)
  honest_later history more i front (Committed command edits (Refused r edit why)) is =
      (is.0, longer history more r is.1, ap (λ (files : FilesValue). refusal_of files edits) (earlier_revisions_stay history.opening history.entries more r is.1) ∙ is.2)
  honest_later history more i front (Committed command edits Full) is = is
  honest_later history more i front (Asked command query budget mode revision (Answered lines)) is =
      (is.0, longer history more revision is.1, subst (λ (files : FilesValue). answers files query budget (Done lines)) (sym (earlier_revisions_stay history.opening history.entries more revision is.1)) is.2)
  honest_later history more i front (Asked command query budget mode revision (Spent limit)) is =
      (is.0, longer history more revision is.1, subst (λ (files : FilesValue). answers files query budget Unanswered) (sym (earlier_revisions_stay history.opening history.entries more revision is.1)) is.2, is.3)
  honest_later history more i front (Asked command query budget mode revision (Cancelled base newer)) is = (is.0, is.1, is.2, longer history more newer is.3, is.4)

  pub are_honest_later : (history : HistoryValue) (more : List Entry) (i front : ℕ) (told : List (Told Q)) → AreHonest answers history i front told → AreHonest answers (grown history more) i front told
  are_honest_later history more i front [] are = tt
  are_honest_later history more i front (x ∷ told) are = (honest_later history more i front x are.0, are_honest_later history more i (max front (named x)) told are.1)

  pub are_honest-push : (history : HistoryValue) (i front : ℕ) (told : List (Told Q)) (one : Told Q) → AreHonest answers history i front told → IsHonest answers history i (front_after front told) one
      → AreHonest answers history i front (told ++ one ∷ [])
  are_honest-push history i front [] one are is = (is, tt)
  are_honest-push history i front (x ∷ told) one are is = (are.0, are_honest-push history i (max front (named x)) told one are.1 is)

module _ {Q : Type 0} where
  pub front_after-push : (front : ℕ) (told : List (Told Q)) (one : Told Q) → front_after front (told ++ one ∷ []) ≡ max (front_after front told) (named one)
  front_after-push front [] one = refl
  front_after-push front (x ∷ told) one = front_after-push (max front (named x)) told one

  pub accepted-push : (told : List (Told Q)) (one : Told Q) → accepted (told ++ one ∷ []) ≡ accepted told ++ accepted_in one
  accepted-push [] one = append-nil (accepted_in one)
  accepted-push (x ∷ told) one = ap (λ (l : List ℕ). accepted_in x ++ l) (accepted-push told one) ∙ sym (append_assoc (accepted_in x) (accepted told) (accepted_in one))
