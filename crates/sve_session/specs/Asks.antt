-- Snapshots of a session, and what asks at them are told (own).
use Rattle.std.specs.Prelude.{ℕ, ◌≡◌, ◌≤◌, length, take}
use Rattle.std.specs.List.{Contains}
use Rattle.sve_board.specs.Log.{largest}
use Rattle.sve_board.specs.Values.{PassValue}
use Rattle.sve_text.specs.declared.edit.Mode.{Mode}
use Rattle.sve_text.specs.declared.edit.Mode.TheVariants.{Latest, Pinned}
use Rattle.sve_text.specs.Files.{FilesValue}
use Rattle.sve_history.specs.Histories.{Table}
use Rattle.sve_store.specs.declared.answer.Answer.{Answer}
use Rattle.sve_store.specs.declared.answer.Answer.TheVariants.{Done, Spent as Unanswered}
use Rattle.sve_store.specs.Snapshots.{SnapshotValue}
use Rattle.sve_core.specs.declared.commit.Outcome.{Outcome}
use Rattle.sve_core.specs.declared.commit.Outcome.TheVariants.{Answered, Spent, Cancelled}
use Rattle.sve_core.specs.Asks.{snapshot_of}
use Rattle.sve_watch.specs.Looks.{looks_of, SawNothingNewer, SawNewer}
use Rattle.sve_session.specs.Shared.{history_of}

module _ (opening : FilesValue) (table : Table) where
  -- The snapshot has the files of all that the pass has seen now. Its revision is a look of the call, and not below an earlier one. No entry of the
  -- client's own is new.
  pub record IsBegun (before after : PassValue) (snapshot : SnapshotValue) : Type 0 where
    pub look : Contains (looks_of before after) snapshot.revision
    pub not_below : largest before.looks ≤ snapshot.revision
    pub reached : length after.seen ≡ snapshot.revision
    pub shows : snapshot ≡ snapshot_of (history_of opening table after.seen)
    pub mine : after.mine ≡ before.mine

  -- the snapshot is of a revision that the pass has seen, and shows its history
  pub record HasSeen (pass : PassValue) (snapshot : SnapshotValue) : Type 0 where
    pub within : snapshot.revision ≤ length pass.seen
    pub shows : snapshot.history ≡ history_of opening table (take snapshot.revision pass.seen)

-- an ask in mode latest that is answered looked, and saw nothing above its snapshot's revision
abbrev pub MayAnswer : Mode → ℕ → PassValue → PassValue → Type 0
MayAnswer Latest revision before after = SawNothingNewer revision before after
MayAnswer Pinned revision before after = Unit {0}

-- the ask has its answer: it was neither spent nor cancelled
abbrev pub IsAnswered : Outcome → Type 0
IsAnswered (Answered lines) = Unit {0}
IsAnswered (Spent limit) = ⊥
IsAnswered (Cancelled base newer) = ⊥

-- What an ask at this revision is told, where these are its answers. It is cancelled exactly where it is in mode latest and looked up a later revision.
abbrev pub IsOutcome : (Answer → Type 0) → ℕ → ℕ → Mode → PassValue → PassValue → Outcome → Type 0
IsOutcome answers revision budget mode before after (Answered lines) = answers (Done lines) × MayAnswer mode revision before after
IsOutcome answers revision budget mode before after (Spent limit) = (limit ≡ budget) × answers Unanswered × MayAnswer mode revision before after
IsOutcome answers revision budget mode before after (Cancelled base newer) = (mode ≡ Latest) × (base ≡ revision) × SawNewer revision before after newer
