-- The rule of the board: what holds between any two steps (own).
use Rattle.std.specs.Prelude.{◌≡◌, ℕ, ◌+◌, ◌≤◌, List, length, slice_index}
use mathlib.Core.Option.{some}
use mathlib.Core.List.{IsPrefix}
use lib.ListN.{get_elem?}
use Rattle.sve_board.specs.declared.knowledge.Entry.{Entry}
use Rattle.sve_board.specs.declared.knowledge.ClientView.{ClientView}
use Rattle.sve_board.specs.declared.knowledge.WriterView.{WriterView}
use Rattle.sve_board.specs.declared.knowledge.View.{View}
use Rattle.sve_board.specs.declared.knowledge.View.TheVariants.{Writer, Client, Note, Spent}
use Rattle.sve_board.specs.Log.{IsClient, AreOfClients, entries_of, largest}

-- what a client knows is so: it has seen a prefix of the log, its own entries are those in there, and no look is above the log's length
pub record KnowsOf (log : List Entry) (c : ClientView) : Type 0 where
  pub seen : IsPrefix c.seen log
  pub unmet : IsPrefix c.unmet log
  pub mine : c.mine ≡ entries_of c.number c.seen
  pub looks : largest c.looks ≤ length log

-- it is a client of the board, and its word is its own count
pub record IsReader (clients : ℕ) (words : List ℕ) (log : List Entry) (c : ClientView) : Type 0 where
  pub client : IsClient clients c.number
  pub knows : KnowsOf log c
  pub word : slice_index words c.number ≡ c.raises

-- the words beside the log: word 0 is its length, and no client has more entries there than were known of its word, nor is more known of a word than it counts
pub record CountsLog (clients : ℕ) (words : List ℕ) (log : List Entry) (known : List ℕ) : Type 0 where
  pub words_long : length words ≡ clients + 1
  pub known_long : length known ≡ clients + 1
  pub log_long : slice_index words 0 ≡ length log
  pub announced : (i : ℕ) → slice_index known i ≤ slice_index words i
  pub entries : (i : ℕ) → length (entries_of i log) ≤ slice_index known i
  pub of_clients : AreOfClients clients log

-- what the seat of this number knows is so. A client has the seat of its own number, so that there is one pass at most for each
abbrev pub IsSeat : ℕ → List ℕ → List Entry → ℕ → View → Type 0
IsSeat clients words log seat (Writer w) = seat ≡ 0
IsSeat clients words log seat (Client c) = (c.number ≡ seat) × IsReader clients words log c
IsSeat clients words log seat (Note told) = IsPrefix told log
IsSeat clients words log seat Spent = Unit {0}

-- the seats: the first is the writer's, and who handed a pass back has left its seat
pub record AreSeats (clients : ℕ) (words : List ℕ) (views : List View) (w : WriterView) : Type 0 where
  pub writer : get_elem? views 0 ≡ some (Writer w)
  pub seats : length views ≡ w.seats
  pub unused : (i : ℕ) → w.seats ≤ i → slice_index words i ≡ 0
  pub each : (seat : ℕ) (v : View) → get_elem? views seat ≡ some v → IsSeat clients words w.log seat v
  pub returned : (j : ℕ) (c : ClientView) → get_elem? w.returned j ≡ some c → IsReader clients words w.log c × (get_elem? views c.number ≡ some Spent)

pub record IsBoard (clients : ℕ) (words : List ℕ) (views : List View) : Type 0 where
  pub writer : WriterView
  pub counts : CountsLog clients words writer.log writer.known
  pub seated : AreSeats clients words views writer
