-- The clients of a world, and what holds of each of them (own).
use Rattle.std.specs.Prelude.{ℕ, ◌≡◌, ◌+◌, ◌<◌, ◌≤◌, ◌++◌, max, true, false, List, [], ◌∷◌, length, map, slice_get, Option, Some, None, IfSome, All}
use Rattle.sve_text.specs.Files.{FilesValue}
use Rattle.sve_history.specs.Histories.{HistoryValue, IsOpening, IsLegal, commands_of, IsRising}
use Rattle.sve_store.specs.declared.answer.Answer.{Answer}
use Rattle.sve_memo.specs.Memos.{MemoValue}
use Rattle.sve_store.specs.Snapshots.{SnapshotValue, IsRevision}
use Rattle.sve_core.specs.Asks.{history_at}
use Rattle.sve_seat.specs.declared.told.Told.{Told}
use Rattle.sve_seat.specs.declared.open.Open.{Open}
use Rattle.sve_seat.specs.declared.seat.Seat.{Seat}
use Rattle.sve_seat.specs.Outcomes.{named, front_after, command_of, accepted, AreHonest}

pub record SeatValue (Q S : Type 0) : Type 0 where
  -- the largest revision that the client was told of with an outcome
  pub front : ℕ
  -- the lengths of the history that it has seen, in order
  pub looks : List ℕ
  -- what its commands were told, in order
  pub told : List (Told Q)
  -- the snapshot that it holds
  pub open_at : Option (Open S)

abbrev pub seat_value : {Q S : Type 0} → Seat Q S → SeatValue Q S
seat_value seat = record { front = seat.front; looks = seat.looks.items; told = seat.told.items; open_at = seat.open }

-- a client that knows nothing
abbrev pub new_seat : {Q S : Type 0} → SeatValue Q S
new_seat = record { front = 0; looks = []; told = []; open_at = None }

-- with one outcome more
abbrev pub hearing : {Q S : Type 0} → SeatValue Q S → Told Q → SeatValue Q S
hearing seat told = record seat { front = max seat.front (named told); told = seat.told ++ told ∷ [] }

-- a client that begins with a snapshot of revision r
abbrev pub beginning : {Q S : Type 0} → SeatValue Q S → S → ℕ → SeatValue Q S
beginning seat snapshot r = record seat { looks = seat.looks ++ r ∷ []; open_at = Some (record { snapshot = snapshot; begun = length seat.looks; answered = false }) }

-- a snapshot that was answered
abbrev pub answered_at : {S : Type 0} → Option (Open S) → Option (Open S)
answered_at None = None
answered_at (Some o) = Some (record o { answered = true })

-- What a client that began holds: the files of a revision with the history that made them, and what had been found for keys by then.
pub record HeldValue (K V : Type 0) : Type 0 where
  pub files : FilesValue
  pub revision : ℕ
  pub history : HistoryValue
  pub memos : List (MemoValue K V)

-- what is held of a snapshot and memos
abbrev pub held_with : {K V : Type 0} → SnapshotValue → List (MemoValue K V) → HeldValue K V
held_with snapshot memos = record { files = snapshot.files; revision = snapshot.revision; history = snapshot.history; memos = memos }

-- and without the memos
abbrev pub snapshot_in : {K V : Type 0} → HeldValue K V → SnapshotValue
snapshot_in held = record { files = held.files; revision = held.revision; history = held.history }

-- a snapshot that a client holds is of a revision of the history. As long as the client was not answered there, it was told of no later one with an outcome
pub record IsOpen {Q K V : Type 0} (history : HistoryValue) (seat : SeatValue Q (HeldValue K V)) (o : Open (HeldValue K V)) : Type 0 where
  pub made : IsRevision o.snapshot.files o.snapshot.revision o.snapshot.history
  pub within : o.snapshot.revision ≤ length history.entries
  pub shows : o.snapshot.history ≡ history_at history o.snapshot.revision
  pub begun : o.begun ≤ length seat.looks
  pub unanswered : o.answered ≡ false → seat.front ≤ o.snapshot.revision

module _ {Q K V : Type 0} (answers : FilesValue → Q → ℕ → Answer → Type 0) where
  -- what client i was told is so, and its entries in the history are its commands that were accepted
  pub record IsSeat (history : HistoryValue) (i : ℕ) (seat : SeatValue Q (HeldValue K V)) : Type 0 where
    pub honest : AreHonest answers history i 0 seat.told
    pub own : commands_of i history.entries ≡ accepted seat.told
    pub rising : IsRising (map command_of seat.told)
    pub front : seat.front ≡ front_after 0 seat.told
    pub within : seat.front ≤ length history.entries
    pub looks : All (λ look. look ≤ length history.entries) seat.looks
    pub held : IfSome seat.open_at (IsOpen history seat)

  -- each entry of the history is of one of the clients, and each client was told what is so
  pub record IsWorld (history : HistoryValue) (seats : List (SeatValue Q (HeldValue K V))) : Type 0 where
    pub untouched : IsOpening history.opening
    pub legal : IsLegal history
    pub clients : All (λ entry. (0 < entry.client) × (entry.client ≤ length seats)) history.entries
    pub each : (place : ℕ) (seat : SeatValue Q (HeldValue K V)) → slice_get seats place ≡ Some seat → IsSeat history (place + 1) seat
