-- The summary of the run of a generated session (own).
use Rattle.std.specs.Prelude.{ℕ, ◌+◌, ◌-◌, ◌^◌, List, [], ◌∷◌, ◌++◌, Option, Some, None, length, take, drop, bytes_eq, if◌then◌else◌, codes, decimal}
use Rattle.std.specs.List.{slice_get}
use Rattle.std.specs.Option.{option_and_then}
use Rattle.sve_report.specs.declared.record.Record.{Record}
use Rattle.sve_report.specs.declared.record.Record.TheVariants.{Accepted, Refused, Answered, Cancelled, Spent}
use Rattle.sve_report.specs.Lines.{text_of_lines}
use Rattle.sve_words.specs.Words.{number_to}

-- the record of this command of the only client, counted from 0
abbrev pub record_of : List (List Record) → ℕ → Option Record
record_of [] command = None
record_of (recs ∷ records) command = slice_get recs command

-- the revision that a record names
abbrev pub revision_in : Record → ℕ
revision_in (Accepted r) = r
revision_in (Refused r edit why) = r
revision_in (Answered r lines) = r
revision_in (Cancelled base newer) = base
revision_in (Spent r budget) = r

abbrev pub revision_of : Option Record → ℕ
revision_of None = 0
revision_of (Some rec) = revision_in rec

-- the lines that an ask was answered
abbrev pub lines_in : Record → Option (List (List ℕ))
lines_in (Accepted r) = None
lines_in (Refused r edit why) = None
lines_in (Answered r lines) = Some lines
lines_in (Cancelled base newer) = None
lines_in (Spent r budget) = None

abbrev pub lines_of : Option Record → Option (List (List ℕ))
lines_of rec = option_and_then lines_in rec

-- how many things a line `more <n>` says were left out of a list
abbrev pub left_out : List ℕ → Option ℕ
left_out line = if bytes_eq (take 5 line) (codes "more ") then number_to (2 ^ 32 - 1) (drop 5 line) else None

abbrev pub with_left_out : ℕ → Option ℕ → ℕ
with_left_out lines None = lines
with_left_out lines (Some more) = lines - 1 + more

-- how many things a list answer tells: one with each line, but with `more <n>` at its end so many
abbrev pub counted : List (List ℕ) → ℕ
counted lines = with_left_out (length lines) (option_and_then left_out (slice_get lines (length lines - 1)))

-- the number of bits that an answer tells in its line `width <bits>`, or that it tells none
abbrev pub width_of : List (List ℕ) → List ℕ
width_of [] = codes "none"
width_of (line ∷ lines) = if bytes_eq (take 6 line) (codes "width ") then drop 6 line else width_of lines

-- what is said of an answer, or that its ask was beyond the budget
abbrev pub or_spent : (List (List ℕ) → List ℕ) → Option (List (List ℕ)) → List ℕ
or_spent say None = codes "spent"
or_spent say (Some lines) = say lines

abbrev pub count_of : Option (List (List ℕ)) → List ℕ
count_of lines = or_spent (λ told. decimal (counted told)) lines

-- Of the records of a generated session of n modules: n, the revision of the last answer, how many instances `tree` tells and how many diagnostics
-- `diagnostics`, and the width of the type that the last answer tells
abbrev pub summary : ℕ → List (List Record) → List ℕ
summary n records = text_of_lines (
    (codes "make " ++ decimal n)
    ∷ (codes "revision " ++ decimal (revision_of (record_of records 3)))
    ∷ (codes "instances " ++ count_of (lines_of (record_of records 0)))
    ∷ (codes "diagnostics " ++ count_of (lines_of (record_of records 1)))
    ∷ (codes "width " ++ or_spent width_of (lines_of (record_of records 3)))
    ∷ [])
