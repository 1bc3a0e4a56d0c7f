-- The machine of the core (own): which events may come, and what they lead to.
use Rattle.std.specs.Prelude.{ℕ, ◌≡◌, ◌-◌, ◌<◌, ◌≤◌, ◌^◌, ◌++◌, false, List, [], ◌∷◌, length, drop, map, slice_get, slice_index_or, slice_set, replicate, Option, Some, None, IfSome, All, Contains}
use Rattle.std.specs.declared.cmp.Ordering.{Ordering}
use Rattle.sve_text.specs.declared.edit.Edit.{Edit}
use Rattle.sve_text.specs.declared.edit.Mode.{Mode}
use Rattle.sve_text.specs.declared.edit.Mode.TheVariants.{Latest}
use Rattle.sve_text.specs.declared.why.Refusal.{Refusal}
use Rattle.sve_text.specs.Files.{FilesValue}
use Rattle.sve_text.specs.Refusals.{refusal_of}
use Rattle.sve_history.specs.Histories.{HistoryValue, newest_files}
use Rattle.sve_store.specs.declared.answer.Answer.{Answer}
use Rattle.sve_memo.specs.Memos.{MemoValue, IsInOrder}
use Rattle.sve_ask.specs.Sound.{Defined, AllSound}
use Rattle.sve_kept.specs.Kept.{AreJoined}
use Rattle.sve_core.specs.declared.commit.Outcome.{Outcome}
use Rattle.sve_core.specs.declared.commit.Outcome.TheVariants.{Cancelled}
use Rattle.sve_seat.specs.declared.told.Told.TheVariants.{Committed, Asked}
use Rattle.sve_seat.specs.declared.open.Open.{Open}
use Rattle.sve_world.specs.declared.event.EventOf.{EventOf}
use Rattle.sve_world.specs.declared.event.EventOf.TheVariants.{Commit, Refuse, Begin, Look, Answer as Asks, Publish}
use Rattle.sve_core.specs.Asks.{snapshot_of, outcome_of}
use Rattle.sve_core.specs.Commits.{committed, commit_told}
use Rattle.sve_seat.specs.Outcomes.{command_of}
use Rattle.sve_seat.specs.Seats.{SeatValue, HeldValue, held_with, new_seat, hearing, beginning, answered_at}

pub record WorldValue (Q K V : Type 0) : Type 0 where
  pub history : HistoryValue
  -- what was found for keys
  pub memos : List (MemoValue K V)
  -- what each client knows, client 1 first
  pub seats : List (SeatValue Q (HeldValue K V))

-- the client of this number is there, and knows this
pub record IsOfClient {Q K V : Type 0} (world : WorldValue Q K V) (client : ℕ) (seat : SeatValue Q (HeldValue K V)) : Type 0 where
  pub number : 1 ≤ client
  pub there : slice_get world.seats (client - 1) ≡ Some seat

-- the client of this number is there
abbrev pub IsClient : {Q K V : Type 0} → WorldValue Q K V → ℕ → Type 0
IsClient world client = (1 ≤ client) × (client ≤ length world.seats)

-- the commands of the client so far have lower numbers
abbrev pub IsNext : {Q K V : Type 0} → SeatValue Q (HeldValue K V) → ℕ → Type 0
IsNext seat command = All (λ earlier. earlier < command) (map command_of seat.told)

-- a client that holds no snapshot may commit
pub record MayCommit {Q K V : Type 0} (world : WorldValue Q K V) (client command : ℕ) (edits : List Edit) : Type 0 where
  pub seat : SeatValue Q (HeldValue K V)
  pub known : IsOfClient world client seat
  pub closed : seat.open_at ≡ None
  pub next : IsNext seat command
  pub few : length edits < 2 ^ 32

-- and begin
pub record MayBegin {Q K V : Type 0} (world : WorldValue Q K V) (client : ℕ) : Type 0 where
  pub seat : SeatValue Q (HeldValue K V)
  pub known : IsOfClient world client seat
  pub closed : seat.open_at ≡ None

-- the client is there
pub record MayLook {Q K V : Type 0} (world : WorldValue Q K V) (client : ℕ) : Type 0 where
  pub seat : SeatValue Q (HeldValue K V)
  pub known : IsOfClient world client seat

-- the client holds this snapshot
pub record IsHeld {Q K V : Type 0} (world : WorldValue Q K V) (client : ℕ) (held : Open (HeldValue K V)) : Type 0 where
  pub seat : SeatValue Q (HeldValue K V)
  pub known : IsOfClient world client seat
  pub holds : seat.open_at ≡ Some held

-- a client that holds a snapshot may give it back
pub record MayPublish {Q K V : Type 0} (world : WorldValue Q K V) (client : ℕ) : Type 0 where
  pub held : Open (HeldValue K V)
  pub is : IsHeld world client held

-- an ask may be cancelled for a later revision that the client has looked up since it began
abbrev pub MayCancel : {Q K V : Type 0} → SeatValue Q (HeldValue K V) → Open (HeldValue K V) → Mode → Option ℕ → Type 0
MayCancel seat held mode None = Unit {0}
MayCancel seat held mode (Some newer) = (mode ≡ Latest) × (held.snapshot.revision < newer) × Contains (drop held.begun seat.looks) newer

-- a snapshot that was not answered may be asked
pub record MayAsk {Q K V : Type 0} (world : WorldValue Q K V) (client command : ℕ) (mode : Mode) (newer : Option ℕ) : Type 0 where
  pub seat : SeatValue Q (HeldValue K V)
  pub held : Open (HeldValue K V)
  pub known : IsOfClient world client seat
  pub holds : seat.open_at ≡ Some held
  pub unanswered : held.answered ≡ false
  pub next : IsNext seat command
  pub cancel : MayCancel seat held mode newer

-- the revision of the snapshot that is held, if any
abbrev pub revision_at : {K V : Type 0} → Option (Open (HeldValue K V)) → ℕ
revision_at None = 0
revision_at (Some o) = o.snapshot.revision

module _ {Q K V : Type 0} where
  -- the event may come, whatever memos it brings
  abbrev pub MayCome : {F : Type 0} → WorldValue Q K V → EventOf Q F → Type 0
  MayCome world (Commit client command edits) = MayCommit world client command edits × (refusal_of (newest_files world.history) edits ≡ None)
  MayCome world (Refuse client command edits) = MayCommit world client command edits × ((refusal : Refusal) × (refusal_of (newest_files world.history) edits ≡ Some refusal))
  MayCome world (Begin client) = MayBegin world client
  MayCome world (Look client) = MayLook world client
  MayCome world (Asks client command query budget mode newer) = MayAsk world client command mode newer
  MayCome world (Publish client fresh) = MayPublish world client

  -- the memos that it brings, if any, are sound for the history of the snapshot that is given back
  abbrev pub BringsSound : Defined K V → {F : Type 0} → (F → List (MemoValue K V)) → WorldValue Q K V → EventOf Q F → Type 0
  BringsSound D memos_of world (Publish client fresh) = (held : Open (HeldValue K V)) → IsHeld world client held → ∥ AllSound D held.snapshot.history (memos_of fresh) ∥₁
  BringsSound D memos_of world event = Unit {0}

  -- it brings none
  abbrev pub BringsNothing : {F : Type 0} → (F → List (MemoValue K V)) → EventOf Q F → Type 0
  BringsNothing memos_of (Publish client fresh) = memos_of fresh ≡ []
  BringsNothing memos_of event = Unit {0}

  -- what a client knows
  abbrev pub seat_of : WorldValue Q K V → ℕ → SeatValue Q (HeldValue K V)
  seat_of world client = slice_index_or world.seats (client - 1) new_seat

  abbrev pub with_seat : WorldValue Q K V → ℕ → SeatValue Q (HeldValue K V) → WorldValue Q K V
  with_seat world client seat = record world { seats = slice_set world.seats (client - 1) seat }

  -- a client that has looked up the length of the history
  abbrev pub looking : SeatValue Q (HeldValue K V) → ℕ → SeatValue Q (HeldValue K V)
  looking seat r = record seat { looks = seat.looks ++ r ∷ [] }

  -- after a commit: unless it is refused, the history has its entry; the client was told which, and has looked up the length of the history
  abbrev pub after_commit : WorldValue Q K V → ℕ → ℕ → List Edit → WorldValue Q K V
  after_commit world client command edits =
      let refusal = refusal_of (newest_files world.history) edits in
      let history = committed world.history (record { client = client; command = command; edits = edits }) refusal in
      record {
        history = history;
        memos = world.memos;
        seats = slice_set world.seats (client - 1) (hearing (looking (seat_of world client) (length history.entries)) (Committed command edits (commit_told world.history refusal)));
      }

  abbrev pub after_look : WorldValue Q K V → ℕ → WorldValue Q K V
  after_look world client = with_seat world client (looking (seat_of world client) (length world.history.entries))

  -- after it begins, a client holds a snapshot of the newest revision, which it has looked up, with all memos
  abbrev pub after_begin : WorldValue Q K V → ℕ → WorldValue Q K V
  after_begin world client =
      let seat = seat_of world client in
      with_seat world client (beginning seat (held_with (snapshot_of world.history) world.memos) (length world.history.entries))

  -- after an ask that was told this outcome
  abbrev pub after_ask : WorldValue Q K V → ℕ → ℕ → Q → ℕ → Mode → Outcome → WorldValue Q K V
  after_ask world client command query budget mode outcome =
      let seat = seat_of world client in
      with_seat world client (hearing (record seat { open_at = answered_at seat.open_at }) (Asked command query budget mode (revision_at seat.open_at) outcome))

  -- after a client gave its snapshot back, and these are the memos
  abbrev pub after_publish : WorldValue Q K V → ℕ → List (MemoValue K V) → WorldValue Q K V
  after_publish world client memos = record { history = world.history; memos = memos; seats = slice_set world.seats (client - 1) (record (seat_of world client) { open_at = None }) }

  -- the memos that it brought were joined to those that were there, which stand in the order of their keys
  pub record HasPublished (cmp : K → K → Ordering) (world : WorldValue Q K V) (client : ℕ) (memos : List (MemoValue K V)) (after : WorldValue Q K V) : Type 0 where
    pub after_is : after ≡ after_publish world client after.memos
    pub joined : AreJoined cmp memos world.memos after.memos
    pub order : IsInOrder cmp after.memos

  module _ (answers : FilesValue → Q → ℕ → Answer → Type 0) where
    -- what an ask is told: it is cancelled where a later revision is named, and else answered by the files of the snapshot
    abbrev pub AfterAsk : WorldValue Q K V → ℕ → ℕ → Q → ℕ → Mode → Option ℕ → WorldValue Q K V → Type 0
    AfterAsk world client command query budget mode None after =
        (held : Open (HeldValue K V)) × (answer : Answer) × IsHeld world client held × answers held.snapshot.files query budget answer
        × (after ≡ after_ask world client command query budget mode (outcome_of budget answer))
    AfterAsk world client command query budget mode (Some newer) after =
        after ≡ after_ask world client command query budget mode (Cancelled (revision_at (seat_of world client).open_at) newer)

    -- the event leads from the one world to the other
    abbrev pub Follows : (K → K → Ordering) → {F : Type 0} → (F → List (MemoValue K V)) → WorldValue Q K V → EventOf Q F → WorldValue Q K V → Type 0
    Follows cmp memos_of world (Commit client command edits) after = after ≡ after_commit world client command edits
    Follows cmp memos_of world (Refuse client command edits) after = after ≡ after_commit world client command edits
    Follows cmp memos_of world (Begin client) after = after ≡ after_begin world client
    Follows cmp memos_of world (Look client) after = after ≡ after_look world client
    Follows cmp memos_of world (Asks client command query budget mode newer) after = AfterAsk world client command query budget mode newer after
    Follows cmp memos_of world (Publish client fresh) after = HasPublished cmp world client (memos_of fresh) after

-- a world of so many clients in which nobody knows anything, and nothing was found
abbrev pub opened : {Q K V : Type 0} → FilesValue → ℕ → WorldValue Q K V
opened opening clients = record { history = record { opening = opening; entries = [] }; memos = []; seats = replicate clients new_seat }

-- these events may come, each where it stands, and lead from the one world to the other
pub data Schedule {Q K V F : Type 0} (D : Defined K V) (memos_of : F → List (MemoValue K V)) (answers : FilesValue → Q → ℕ → Answer → Type 0) : WorldValue Q K V → List (EventOf Q F) → WorldValue Q K V → Type 0 where
  ends : {world : WorldValue Q K V} → Schedule D memos_of answers world [] world
  goes_on : {world next after : WorldValue Q K V} {event : EventOf Q F} {events : List (EventOf Q F)} → MayCome world event → BringsSound D memos_of world event → Follows answers D.cmp memos_of world event next
      → Schedule D memos_of answers next events after → Schedule D memos_of answers world (event ∷ events) after

-- the memos of a world and of each snapshot that is held are sound
pub record HoldsSound {Q K V : Type 0} (D : Defined K V) (world : WorldValue Q K V) : Type 0 where
  pub shared : AllSound D world.history world.memos
  pub lent : (place : ℕ) (seat : SeatValue Q (HeldValue K V)) → slice_get world.seats place ≡ Some seat → IfSome seat.open_at (λ o. AllSound D o.snapshot.history o.snapshot.memos)
