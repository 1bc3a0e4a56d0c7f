-- The report of a run (own).
use Rattle.std.specs.Prelude.{ℕ, ◌+◌, List, [], ◌∷◌, ◌++◌, length, codes, decimal}
use Rattle.sve_report.specs.declared.entry.Entry.{Entry}
use Rattle.sve_report.specs.declared.record.Record.{Record}
use Rattle.sve_report.specs.declared.record.Record.TheVariants.{Accepted, Refused, Answered, Cancelled, Spent}
use Rattle.sve_text.specs.declared.why.Why.{Why}
use Rattle.sve_text.specs.declared.why.Why.TheVariants.{NoFile, Stale, Range, FileTooLarge, TooManyFiles}
use Rattle.sve_report.specs.Lines.{text_of_lines}

-- `<r> <client> <command>`
abbrev pub entry_line : ℕ → Entry → List ℕ
entry_line r entry = decimal r ++ codes " " ++ decimal entry.client ++ codes " " ++ decimal entry.command

-- a line for each entry, from revision r on
abbrev pub entry_lines : ℕ → List Entry → List (List ℕ)
entry_lines r [] = []
entry_lines r (entry ∷ entries) = entry_line r entry ∷ entry_lines (r + 1) entries

-- why a commit was refused, with the number that tells more
abbrev pub why_text : Why → List ℕ
why_text NoFile = codes "nofile"
why_text (Stale stamp) = codes "stale " ++ decimal stamp
why_text (Range len) = codes "range " ++ decimal len
why_text (FileTooLarge bytes) = codes "filetoolarge " ++ decimal bytes
why_text TooManyFiles = codes "toomanyfiles"

-- ` refused <r> edit <e> <why>`
abbrev pub refusal_text : ℕ → ℕ → Why → List ℕ
refusal_text r edit why = codes " refused " ++ decimal r ++ codes " edit " ++ decimal edit ++ codes " " ++ why_text why

-- ` <word> <m> <n>`
abbrev pub pair_text : List ℕ → ℕ → ℕ → List ℕ
pair_text word m n = codes " " ++ word ++ codes " " ++ decimal m ++ codes " " ++ decimal n

-- The record of command j: `<j> accepted <r>`, `<j> refused <r> edit <e> <why>`, `<j> answer <r> <k>` and the k lines,
-- `<j> cancelled <base> <newer>`, or `<j> spent <r> <budget>`.
abbrev pub record_lines : ℕ → Record → List (List ℕ)
record_lines j (Accepted r) = (decimal j ++ codes " accepted " ++ decimal r) ∷ []
record_lines j (Refused r edit why) = (decimal j ++ refusal_text r edit why) ∷ []
record_lines j (Answered r lines) = (decimal j ++ pair_text (codes "answer") r (length lines)) ∷ lines
record_lines j (Cancelled base newer) = (decimal j ++ pair_text (codes "cancelled") base newer) ∷ []
record_lines j (Spent r budget) = (decimal j ++ pair_text (codes "spent") r budget) ∷ []

-- the records of one client, from command j on
abbrev pub client_lines : ℕ → List Record → List (List ℕ)
client_lines j [] = []
client_lines j (rec ∷ recs) = record_lines j rec ++ client_lines (j + 1) recs

-- `client <i>` and its records, for each client from number i on
abbrev pub clients_lines : ℕ → List (List Record) → List (List ℕ)
clients_lines i [] = []
clients_lines i (recs ∷ records) = (codes "client " ++ decimal i) ∷ client_lines 1 recs ++ clients_lines (i + 1) records

abbrev pub report_lines : List Entry → List (List Record) → List (List ℕ)
report_lines entries records = (codes "history " ++ decimal (length entries)) ∷ entry_lines 1 entries ++ clients_lines 1 records

abbrev pub report : List Entry → List (List Record) → List ℕ
report entries records = text_of_lines (report_lines entries records)
