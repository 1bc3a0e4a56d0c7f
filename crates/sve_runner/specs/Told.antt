-- What a client is told while the session runs, beside its pass (own).
use Rattle.std.specs.Prelude.{ℕ, ◌+◌, ◌<◌, ◌≤◌, ◌^◌, ◌≡◌, List, [], ◌∷◌, ◌++◌, Option, Some, All, Result, Ok, MatchResult, length, map, sum_by}
use Rattle.std.specs.declared.cmp.Ordering.{Ordering}
use mathlib.Core.List.{IsPrefix}
use Rattle.sve_board.specs.declared.knowledge.Entry.{Entry as LogEntry}
use Rattle.sve_board.specs.Log.{largest}
use Rattle.sve_board.specs.Values.{PassValue}
use Rattle.sve_text.specs.declared.edit.Mode.TheVariants.{Latest}
use Rattle.sve_text.specs.Files.{FilesValue}
use Rattle.sve_text.specs.Refusals.{refusal_of}
use Rattle.sve_history.specs.Histories.{Table, newest_files}
use Rattle.sve_store.specs.declared.answer.Answer.{Answer}
use Rattle.sve_store.specs.declared.answer.Answer.TheVariants.{Done, Spent as Unanswered}
use Rattle.sve_store.specs.Made.{Made, values_of}
use Rattle.sve_store.specs.Values.{IsAnswer}
use Rattle.sve_session.specs.Shared.{history_of}
use Rattle.sve_session.specs.Commits.{entry}
use Rattle.sve_core.specs.declared.commit.Outcome.{Outcome}
use Rattle.sve_core.specs.declared.commit.Outcome.TheVariants as outcome
use Rattle.sve_command.specs.declared.commands.Command.{Command}
use Rattle.sve_command.specs.declared.commands.Command.TheVariants.{Commit, Ask}
use Rattle.sve_command.specs.declared.commands.Query.{Query}
use Rattle.sve_command.specs.Sizes.{edit_count}
use Rattle.sve_report.specs.declared.record.Record.{Record}
use Rattle.sve_report.specs.declared.record.Record.TheVariants.{Accepted, Refused, Answered, Cancelled, Spent}
use Rattle.sve_runner.specs.declared.stop.Stop.{Stop}
use Rattle.sve_runner.specs.declared.stop.Stop.TheVariants.{Full, NoMemory}
use Rattle.sve_runner.specs.declared.terms.Terms.{Terms}
use Rattle.sve_runner.specs.declared.told.Told.{Told}
use Rattle.sve_runner.specs.Honest.{budget_under, mode_under, front_after, front_at, accepted_from}

-- the answers that kinds with these values of inputs, these definitions of values and these answers over values may give
abbrev pub answers_by : {K V Q : Type 0} → (K → K → Ordering) → (FilesValue → K → Option (V × ℕ)) → (K → ℕ → (K → Option V) → Made K V) → ((K → ℕ → V) → Q → ℕ → Answer → Type 0) → FilesValue → Q → ℕ → Answer → Type 0
answers_by cmp given make answers_over files query budget answer = IsAnswer cmp (values_of (given files)) make answers_over query budget answer

-- the clients have not too many commands together, and no command too many edits, to be counted in 32 bits
pub record AreFew (clients : List (List Command)) : Type 0 where
  pub commands : sum_by length clients < 2 ^ 32
  pub edits : All (λ commands. All (λ command. edit_count command < 2 ^ 32) commands) clients

-- the record of an ask at this revision
abbrev pub outcome_record : ℕ → Outcome → Record
outcome_record revision (outcome.Answered lines) = Answered revision lines
outcome_record revision (outcome.Spent budget) = Spent revision budget
outcome_record revision (outcome.Cancelled base newer) = Cancelled base newer

-- the entry of an accepted commit
abbrev pub entered : ℕ → ℕ → Record → List LogEntry
entered i j (Accepted r) = entry i j ∷ []
entered i j (Refused r edit why) = []
entered i j (Answered r lines) = []
entered i j (Cancelled base newer) = []
entered i j (Spent r budget) = []

-- what all clients left, where this is what they were told
abbrev pub all_told : List Told → List (Result Told Stop)
all_told all = map (λ told. Ok told) all

-- their records, and their counts
abbrev pub records_of : Told → List Record
records_of told = told.records

abbrev pub counts_of : Told → List ℕ
counts_of told = told.counts

abbrev pub records_told : List Told → List (List Record)
records_told all = map records_of all

abbrev pub counts_told : List Told → List (List ℕ)
counts_told all = map counts_of all

-- why a client left its commands, beside its pass: it has fewer entries than commands, and has seen as many as a history may have, or memory was wanting
abbrev pub HasCause : ℕ → List Command → PassValue → Stop → Type 0
HasCause most commands pass Full = (length pass.mine < length commands) × (length pass.seen ≡ most)
HasCause most commands pass NoMemory = Unit {0}

module _ (answers : FilesValue → Query → ℕ → Answer → Type 0) (terms : Terms) (opening : FilesValue) (table : Table) where
  -- this holds of the files of revision r, which this log makes
  abbrev pub HoldsAt : List LogEntry → ℕ → (FilesValue → Type 0) → Type 0
  HoldsAt log r P = (before : List LogEntry) × IsPrefix before log × (length before ≡ r) × P (newest_files (history_of opening table before))

  -- The record of command j of client i is honest at this front, over a log that may go on. No revision is above the top.
  abbrev pub IsHonestIn : List LogEntry → ℕ → ℕ → ℕ → ℕ → Command → Record → Type 0
  IsHonestIn log top i j front (Commit edits) (Accepted r) = (front < r) × ((before : List LogEntry) × IsPrefix (before ++ entry i j ∷ []) log × (length before + 1 ≡ r))
  IsHonestIn log top i j front (Commit edits) (Refused r edit why) = (front ≤ r) × HoldsAt log r (λ files. refusal_of files edits ≡ Some (record { edit = edit; why = why }))
  IsHonestIn log top i j front (Commit edits) (Answered r lines) = ⊥
  IsHonestIn log top i j front (Commit edits) (Cancelled base newer) = ⊥
  IsHonestIn log top i j front (Commit edits) (Spent r limit) = ⊥
  IsHonestIn log top i j front (Ask query mode budget) (Accepted r) = ⊥
  IsHonestIn log top i j front (Ask query mode budget) (Refused r edit why) = ⊥
  IsHonestIn log top i j front (Ask query mode budget) (Answered r lines) = (front ≤ r) × HoldsAt log r (λ files. answers files query (budget_under terms budget) (Done lines))
  IsHonestIn log top i j front (Ask query mode budget) (Cancelled base newer) = (mode_under terms mode ≡ Latest) × (front ≤ base) × (base < newer) × (newer ≤ top)
  IsHonestIn log top i j front (Ask query mode budget) (Spent r limit) = (front ≤ r) × (limit ≡ budget_under terms budget) × HoldsAt log r (λ files. answers files query limit Unanswered)

  -- one record for each command of client i from number j on
  abbrev pub WalksIn : List LogEntry → ℕ → ℕ → ℕ → ℕ → List Command → List Record → Type 0
  WalksIn log top i j front [] [] = Unit {0}
  WalksIn log top i j front (command ∷ commands) (rec ∷ recs) = IsHonestIn log top i j front command rec × WalksIn log top i (j + 1) (front_after front rec) commands recs
  WalksIn log top i j front [] (rec ∷ recs) = ⊥
  WalksIn log top i j front (command ∷ commands) [] = ⊥

  -- What command j of client i was told: at each front that its client's earlier looks reach, it is honest. Its own entry, where it has one, is all that
  -- is new among those of the client.
  pub record IsTold (i j : ℕ) (command : Command) (before after : PassValue) (rec : Record) : Type 0 where
    pub honest : (front : ℕ) → front ≤ largest before.looks → IsHonestIn after.seen (largest after.looks) i j front command rec
    pub front : (front : ℕ) → front ≤ largest before.looks → front_after front rec ≤ largest after.looks
    pub mine : after.mine ≡ before.mine ++ entered i j rec

  -- what all commands of client i were told from this front on, beside its pass, whose looks reach the front behind them
  pub record HasWalked (i front : ℕ) (commands : List Command) (pass : PassValue) (recs : List Record) : Type 0 where
    pub walks : WalksIn pass.seen (largest pass.looks) i 1 front commands recs
    pub reached : front_at front recs ≤ largest pass.looks
    pub own : map (λ e. e.command) pass.mine ≡ accepted_from 1 recs

  -- what client i leaves, from this front on, where a history may have so many entries: all that it was told, or why it left its commands
  pub record HasLeft (most i front : ℕ) (commands : List Command) (pass : PassValue) (left : Result Told Stop) : Type 0 where
    pub few : length pass.mine ≤ length commands
    pub does : MatchResult left (λ told. HasWalked i front commands pass told.records) (HasCause most commands pass)
