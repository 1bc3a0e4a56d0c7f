-- When records tell the truth about a history (own).
use Rattle.std.specs.Prelude.{ℕ, ◌+◌, ◌-◌, ◌<◌, ◌≤◌, ◌≡◌, Bool, true, false, List, [], ◌∷◌, Option, Some, None, max, length, slice_get, slice_index_or, unwrap_or, map, IsTrue}
use Rattle.std.specs.List.{AllByRecursion}
use Rattle.sve_text.specs.declared.edit.Edit.{Edit}
use Rattle.sve_text.specs.declared.edit.Mode.{Mode}
use Rattle.sve_text.specs.declared.edit.Mode.TheVariants.{Latest, Pinned}
use Rattle.sve_text.specs.Files.{FilesValue}
use Rattle.sve_text.specs.Refusals.{refusal_of}
use Rattle.sve_history.specs.declared.entry.Entry.{Entry as Made}
use Rattle.sve_history.specs.Histories.{HistoryValue, Table, entry_by, files_at, commands_of, IsLegal}
use Rattle.sve_store.specs.declared.answer.Answer.{Answer}
use Rattle.sve_store.specs.declared.answer.Answer.TheVariants.{Done, Spent as Unanswered}
use Rattle.sve_clients.specs.declared.runs.Order.{Order}
use Rattle.sve_clients.specs.declared.runs.Order.TheVariants.{AtOnce, InTurn}
use Rattle.sve_clients.specs.Runs.{next_front}
use Rattle.sve_command.specs.declared.commands.Command.{Command}
use Rattle.sve_command.specs.declared.commands.Command.TheVariants.{Commit, Ask}
use Rattle.sve_command.specs.declared.commands.Query.{Query}
use Rattle.sve_report.specs.declared.entry.Entry.{Entry}
use Rattle.sve_report.specs.declared.record.Record.{Record}
use Rattle.sve_report.specs.declared.record.Record.TheVariants.{Accepted, Refused, Answered, Cancelled, Spent}
use Rattle.sve_runner.specs.declared.terms.Terms.{Terms}

-- the commands of a client, which counts from 1
abbrev pub commands_at : List (List Command) → ℕ → List Command
commands_at clients client = slice_index_or clients (client - 1) []

-- the command of a client; both count from 1
abbrev pub command_in : List (List Command) → ℕ → ℕ → Option Command
command_in clients client command = slice_get (commands_at clients client) (command - 1)

abbrev pub edits_in_command : Option Command → List Edit
edits_in_command (Some (Commit edits)) = edits
edits_in_command (Some (Ask query mode budget)) = []
edits_in_command None = []

-- the edits of each command of a script
abbrev pub edits_in : List (List Command) → Table
edits_in clients client command = edits_in_command (command_in clients client command)

-- an entry of a history, as a report tells it, and all of them
abbrev pub told_entry : Made → Entry
told_entry entry = record { client = entry.client; command = entry.command }

abbrev pub told_entries : HistoryValue → List Entry
told_entries history = map told_entry history.entries

-- the entries with the edits that a script has for their commands
abbrev pub script_entries : List (List Command) → List Entry → List Made
script_entries clients entries = map (λ entry. entry_by (edits_in clients) entry.client entry.command) entries

-- the history of these opening files with these entries, as commits of a script
abbrev pub history_by : FilesValue → List (List Command) → List Entry → HistoryValue
history_by opening clients entries = record { opening = opening; entries = script_entries clients entries }

-- the budget and the mode of an ask that gives these
abbrev pub budget_under : Terms → Option ℕ → ℕ
budget_under terms given = unwrap_or given terms.budget

abbrev pub mode_in : Order → Mode → Mode
mode_in AtOnce given = given
mode_in InTurn given = Pinned

abbrev pub mode_under : Terms → Mode → Mode
mode_under terms given = mode_in terms.order given

-- the front after a record: the largest revision that was named so far
abbrev pub front_after : ℕ → Record → ℕ
front_after front (Accepted r) = max front r
front_after front (Refused r edit why) = max front r
front_after front (Answered r lines) = max front r
front_after front (Cancelled base newer) = max front newer
front_after front (Spent r budget) = max front r

-- the front behind some records
abbrev pub front_at : ℕ → List Record → ℕ
front_at front [] = front
front_at front (rec ∷ recs) = front_at (front_after front rec) recs

-- the numbers of the commands that were accepted, from number j on
abbrev pub accepted_from : ℕ → List Record → List ℕ
accepted_from j [] = []
accepted_from j (Accepted r ∷ recs) = j ∷ accepted_from (j + 1) recs
accepted_from j (Refused r edit why ∷ recs) = accepted_from (j + 1) recs
accepted_from j (Answered r lines ∷ recs) = accepted_from (j + 1) recs
accepted_from j (Cancelled base newer ∷ recs) = accepted_from (j + 1) recs
accepted_from j (Spent r budget ∷ recs) = accepted_from (j + 1) recs

abbrev pub is_commit : Option Command → Bool
is_commit (Some (Commit edits)) = true
is_commit (Some (Ask query mode budget)) = false
is_commit None = false

-- an entry is of a commit of one of the clients
abbrev pub IsOfScript : List (List Command) → Entry → Type 0
IsOfScript clients entry = (1 ≤ entry.client) × (1 ≤ entry.command) × IsTrue (is_commit (command_in clients entry.client entry.command))

-- over these answers of queries at files within budgets, for a script of these clients over these opening files
module _ (answers : FilesValue → Query → ℕ → Answer → Type 0) (terms : Terms) (opening : FilesValue) (clients : List (List Command)) where
  -- the files of revision r
  abbrev pub files_of : List Entry → ℕ → FilesValue
  files_of entries r = files_at opening (script_entries clients entries) r

  -- The record of command j of client i, at this front.
  -- A commit is accepted as a later entry of the history than any that was named, which is its own.
  -- It is refused for the first reason that it has on the files of a revision that is not older than any that was named.
  -- An ask is answered by the files of such a revision, or costs more than its budget there.
  -- It is cancelled only in mode latest, at such a revision, for a later one of the history.
  abbrev pub IsHonest : List Entry → ℕ → ℕ → ℕ → Command → Record → Type 0
  IsHonest entries i j front (Commit edits) (Accepted r) = (front < r) × (slice_get entries (r - 1) ≡ Some (record { client = i; command = j }))
  IsHonest entries i j front (Commit edits) (Refused r edit why) = (front ≤ r) × (r ≤ length entries) × (refusal_of (files_of entries r) edits ≡ Some (record { edit = edit; why = why }))
  IsHonest entries i j front (Commit edits) (Answered r lines) = ⊥
  IsHonest entries i j front (Commit edits) (Cancelled base newer) = ⊥
  IsHonest entries i j front (Commit edits) (Spent r limit) = ⊥
  IsHonest entries i j front (Ask query mode budget) (Accepted r) = ⊥
  IsHonest entries i j front (Ask query mode budget) (Refused r edit why) = ⊥
  IsHonest entries i j front (Ask query mode budget) (Answered r lines) = (front ≤ r) × (r ≤ length entries) × answers (files_of entries r) query (budget_under terms budget) (Done lines)
  IsHonest entries i j front (Ask query mode budget) (Cancelled base newer) = (mode_under terms mode ≡ Latest) × (front ≤ base) × (base < newer) × (newer ≤ length entries)
  IsHonest entries i j front (Ask query mode budget) (Spent r limit) = (front ≤ r) × (r ≤ length entries) × (limit ≡ budget_under terms budget) × answers (files_of entries r) query limit Unanswered

  -- one record for each command of client i from number j on, each honest at the front that the earlier ones leave
  abbrev pub Walks : List Entry → ℕ → ℕ → ℕ → List Command → List Record → Type 0
  Walks entries i j front [] [] = Unit {0}
  Walks entries i j front (command ∷ commands) (rec ∷ recs) = IsHonest entries i j front command rec × Walks entries i (j + 1) (front_after front rec) commands recs
  Walks entries i j front [] (rec ∷ recs) = ⊥
  Walks entries i j front (command ∷ commands) [] = ⊥

  -- Each client's records are honest, from client i on, which begins at this front, and its entries in the history are exactly its accepted commands. Where
  -- clients run one after another, each begins at the front that the one before it leaves; else each begins at 0.
  abbrev pub AreHonestFrom : List Entry → ℕ → ℕ → List (List Command) → List (List Record) → Type 0
  AreHonestFrom entries i front [] [] = Unit {0}
  AreHonestFrom entries i front (commands ∷ others) (recs ∷ records) =
      Walks entries i 1 front commands recs × (commands_of i (script_entries clients entries) ≡ accepted_from 1 recs) × AreHonestFrom entries (i + 1) (next_front terms.order (front_at front recs)) others records
  AreHonestFrom entries i front [] (recs ∷ records) = ⊥
  AreHonestFrom entries i front (commands ∷ others) [] = ⊥

  -- The records are honest for the history: it is legal and holds commits of the script alone, and each client's records tell of it.
  pub record AreHonest (entries : List Entry) (records : List (List Record)) : Type 0 where
    pub legal : IsLegal (history_by opening clients entries)
    pub theirs : AllByRecursion (IsOfScript clients) entries
    pub told : AreHonestFrom entries 1 0 clients records
