-- The report of a session whose clients run one after another: each command comes at the newest revision (own).
use Rattle.std.specs.Prelude.{ℕ, ◌≡◌, ◌+◌, List, [], ◌∷◌, ◌++◌, length, Option, Some, None, unwrap_or, IsTrue}
use Rattle.std.specs.List.{AllByRecursion}
use Rattle.sve_text.specs.declared.edit.Edit.{Edit}
use Rattle.sve_text.specs.declared.why.Refusal.{Refusal}
use Rattle.sve_text.specs.Files.{FilesValue, files_after}
use Rattle.sve_text.specs.Refusals.{refusal_of}
use Rattle.sve_command.specs.declared.commands.Command.{Command}
use Rattle.sve_command.specs.declared.commands.Command.TheVariants.{Commit, Ask}
use Rattle.sve_store.specs.declared.answer.Answer.{Answer}
use Rattle.sve_store.specs.declared.answer.Answer.TheVariants.{Done, Spent as Unanswered}
use Rattle.sve_report.specs.declared.entry.Entry.{Entry}
use Rattle.sve_report.specs.declared.record.Record.{Record}
use Rattle.sve_report.specs.declared.record.Record.TheVariants.{Accepted, Refused, Answered, Spent}
use Rattle.sve_report.specs.Reports.{report}
use Rattle.sve_query.specs.AnswersAt.{has_one_answer}
use Rattle.sve_serve.specs.Answers.{IsAnswerAt}

-- the accepted commits, and the files that they leave
pub record Revisions : Type 0 where
  pub entries : List Entry
  pub newest : FilesValue

-- the entry of command j of client i
abbrev pub entry_of : ℕ → ℕ → Entry
entry_of i j = record { client = i; command = j }

-- what a commit leaves, as this entry, where it is not refused
abbrev pub committed : Revisions → Entry → List Edit → Option Refusal → Revisions
committed h entry edits None = record { entries = h.entries ++ entry ∷ []; newest = files_after (length h.entries + 1) h.newest edits }
committed h entry edits (Some refusal) = h

-- what it is told
abbrev pub commit_record : Revisions → Option Refusal → Record
commit_record h None = Accepted (length h.entries + 1)
commit_record h (Some refusal) = Refused (length h.entries) refusal.edit refusal.why

-- what an ask with this budget is told, where this is its answer
abbrev pub ask_record : ℕ → ℕ → Answer → Record
ask_record r budget (Done lines) = Answered r lines
ask_record r budget Unanswered = Spent r budget

-- what command j of client i leaves
abbrev pub revisions_after_one : Revisions → ℕ → ℕ → Command → Revisions
revisions_after_one h i j (Commit edits) = committed h (entry_of i j) edits (refusal_of h.newest edits)
revisions_after_one h i j (Ask query mode budget) = h

-- A command is told this, where asks that give no budget have this one. What a commit is told follows from the revisions, and an ask is told an answer that
-- its query may have at the newest files.
abbrev pub IsRecordOf : ℕ → Revisions → Command → Record → Type 0
IsRecordOf given h (Commit edits) rec = rec ≡ commit_record h (refusal_of h.newest edits)
IsRecordOf given h (Ask query mode budget) rec = (answer : Answer) × IsAnswerAt h.newest query (unwrap_or budget given) answer × (rec ≡ ask_record (length h.entries) (unwrap_or budget given) answer)

-- what the commands of client i leave, from number j on
abbrev pub revisions_after : Revisions → ℕ → ℕ → List Command → Revisions
revisions_after h i j [] = h
revisions_after h i j (command ∷ commands) = revisions_after (revisions_after_one h i j command) i (j + 1) commands

-- they are told these
abbrev pub AreRecordsOf : ℕ → Revisions → ℕ → ℕ → List Command → List Record → Type 0
AreRecordsOf given h i j [] [] = Unit {0}
AreRecordsOf given h i j (command ∷ commands) (rec ∷ recs) = IsRecordOf given h command rec × AreRecordsOf given (revisions_after_one h i j command) i (j + 1) commands recs
AreRecordsOf given h i j [] (rec ∷ recs) = ⊥
AreRecordsOf given h i j (command ∷ commands) [] = ⊥

-- what all commands leave of the clients from number i on, each of which runs when the one before it has ended
abbrev pub revisions_in_turn : Revisions → ℕ → List (List Command) → Revisions
revisions_in_turn h i [] = h
revisions_in_turn h i (commands ∷ clients) = revisions_in_turn (revisions_after h i 1 commands) (i + 1) clients

-- these clients are told these
abbrev pub AreRecordsInTurn : ℕ → Revisions → ℕ → List (List Command) → List (List Record) → Type 0
AreRecordsInTurn given h i [] [] = Unit {0}
AreRecordsInTurn given h i (commands ∷ clients) (recs ∷ records) = AreRecordsOf given h i 1 commands recs × AreRecordsInTurn given (revisions_after h i 1 commands) (i + 1) clients records
AreRecordsInTurn given h i [] (recs ∷ records) = ⊥
AreRecordsInTurn given h i (commands ∷ clients) [] = ⊥

-- the opening files, which no commit has touched
abbrev pub opened : FilesValue → Revisions
opened files = record { entries = []; newest = files }

-- the entries and the records are those of clients with these commands, one after another, over these opening files
abbrev pub AreInTurnOver : ℕ → FilesValue → List (List Command) → List Entry → List (List Record) → Type 0
AreInTurnOver given files clients entries records = AreRecordsInTurn given (opened files) 1 clients records × (entries ≡ (revisions_in_turn (opened files) 1 clients).entries)

-- the text is a report of these
abbrev pub IsReportInTurn : ℕ → FilesValue → List (List Command) → List ℕ → Type 0
IsReportInTurn given files clients text = (entries : List Entry) × (records : List (List Record)) × AreInTurnOver given files clients entries records × (text ≡ report entries records)

-- a command is no ask, or its query has one answer at any files
abbrev pub HasOneAnswer : Command → Type 0
HasOneAnswer (Commit edits) = Unit {0}
HasOneAnswer (Ask query mode budget) = IsTrue (has_one_answer query)

-- all asks of these clients have one answer at any files
abbrev pub HaveOneAnswer : List (List Command) → Type 0
HaveOneAnswer clients = AllByRecursion (AllByRecursion HasOneAnswer) clients
