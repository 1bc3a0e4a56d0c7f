-- When outcomes tell the truth about a history (own).
-- A front goes along: it is the largest revision that was named so far.
use Rattle.std.specs.Prelude.{ℕ, ◌≡◌, ◌-◌, ◌<◌, ◌≤◌, ◌++◌, max, List, [], ◌∷◌, length, slice_get, Some}
use Rattle.sve_text.specs.declared.edit.Mode.TheVariants.{Latest}
use Rattle.sve_text.specs.Files.{FilesValue}
use Rattle.sve_text.specs.Refusals.{refusal_of}
use Rattle.sve_history.specs.Histories.{HistoryValue, files_at}
use Rattle.sve_store.specs.declared.answer.Answer.{Answer}
use Rattle.sve_store.specs.declared.answer.Answer.TheVariants.{Done, Spent as Unanswered}
use Rattle.sve_core.specs.declared.commit.Commit.TheVariants.{Accepted, Refused, Full}
use Rattle.sve_core.specs.declared.commit.Outcome.TheVariants.{Answered, Spent, Cancelled}
use Rattle.sve_seat.specs.declared.told.Told.{Told}
use Rattle.sve_seat.specs.declared.told.Told.TheVariants.{Committed, Asked}

-- the largest revision that a client was told of with this outcome
abbrev pub named : {Q : Type 0} → Told Q → ℕ
named (Committed command edits (Accepted r)) = r
named (Committed command edits (Refused r edit why)) = r
named (Committed command edits Full) = 0
named (Asked command query budget mode revision (Answered lines)) = revision
named (Asked command query budget mode revision (Spent limit)) = revision
named (Asked command query budget mode revision (Cancelled base newer)) = newer

-- the front after these outcomes
abbrev pub front_after : {Q : Type 0} → ℕ → List (Told Q) → ℕ
front_after front [] = front
front_after front (told ∷ later) = front_after (max front (named told)) later

-- which command of its client it is
abbrev pub command_of : {Q : Type 0} → Told Q → ℕ
command_of (Committed command edits commit) = command
command_of (Asked command query budget mode revision outcome) = command

-- the command, where it is a commit that was accepted
abbrev pub accepted_in : {Q : Type 0} → Told Q → List ℕ
accepted_in (Committed command edits (Accepted r)) = command ∷ []
accepted_in (Committed command edits (Refused r edit why)) = []
accepted_in (Committed command edits Full) = []
accepted_in (Asked command query budget mode revision outcome) = []

-- the commands that were accepted, in order
abbrev pub accepted : {Q : Type 0} → List (Told Q) → List ℕ
accepted [] = []
accepted (told ∷ later) = accepted_in told ++ accepted later

module _ {Q : Type 0} (answers : FilesValue → Q → ℕ → Answer → Type 0) where
  -- The outcome of a command of client i, at this front.
  -- A commit is accepted as a later entry than any revision that was named, which is its own.
  -- It is refused for the first reason that it has on the files of a revision that is not older than any that was named.
  -- An ask is answered by the files of such a revision, or costs more than its budget there, or it may be cancelled and a later revision was named.
  abbrev pub IsHonest : HistoryValue → ℕ → ℕ → Told Q → Type 0
  IsHonest history i front (Committed command edits (Accepted r)) = (front < r) × (slice_get history.entries (r - 1) ≡ Some (record { client = i; command = command; edits = edits }))
  IsHonest history i front (Committed command edits (Refused r edit why)) =
      (front ≤ r) × (r ≤ length history.entries) × (refusal_of (files_at history.opening history.entries r) edits ≡ Some (record { edit = edit; why = why }))
  IsHonest history i front (Committed command edits Full) = ⊥
  IsHonest history i front (Asked command query budget mode revision (Answered lines)) =
      (front ≤ revision) × (revision ≤ length history.entries) × answers (files_at history.opening history.entries revision) query budget (Done lines)
  IsHonest history i front (Asked command query budget mode revision (Spent limit)) =
      (front ≤ revision) × (revision ≤ length history.entries) × answers (files_at history.opening history.entries revision) query budget Unanswered × (limit ≡ budget)
  IsHonest history i front (Asked command query budget mode revision (Cancelled base newer)) =
      (front ≤ revision) × (base ≡ revision) × (revision < newer) × (newer ≤ length history.entries) × (mode ≡ Latest)

  -- each outcome is honest at the front that the earlier ones leave
  abbrev pub AreHonest : HistoryValue → ℕ → ℕ → List (Told Q) → Type 0
  AreHonest history i front [] = Unit {0}
  AreHonest history i front (told ∷ later) = IsHonest history i front told × AreHonest history i (max front (named told)) later
