-- A report is read back: no two histories, and no two lists of records, have one report (own).
use Rattle.std.specs.Prelude.{ℕ, ◌≡◌, ◌^◌, ◌<◌, List, [], ◌∷◌, length}
use Rattle.sve_report.specs.declared.entry.Entry.{Entry}
use Rattle.sve_report.specs.declared.record.Record.{Record}
use Rattle.sve_report.specs.declared.record.Record.TheVariants.{Accepted, Refused, Answered, Cancelled, Spent}
use Rattle.sve_text.specs.declared.why.Why.{Why}
use Rattle.sve_text.specs.declared.why.Why.TheVariants.{NoFile, Stale, Range, FileTooLarge, TooManyFiles}
use Rattle.sve_report.specs.Lines.{AreLines}
use Rattle.sve_report.specs.Reports.{report}

-- a number of 64 bits
abbrev pub Fits64 : ℕ → Type 0
Fits64 n = n < 2 ^ 64

-- the numbers of the entries are of 64 bits
abbrev pub EntriesFit : List Entry → Type 0
EntriesFit [] = Unit {0}
EntriesFit (entry ∷ entries) = Fits64 entry.client × Fits64 entry.command × EntriesFit entries

-- the number of a reason is of 64 bits
abbrev pub WhyFits : Why → Type 0
WhyFits NoFile = Unit {0}
WhyFits (Stale stamp) = Fits64 stamp
WhyFits (Range len) = Fits64 len
WhyFits (FileTooLarge bytes) = Fits64 bytes
WhyFits TooManyFiles = Unit {0}

-- its numbers are of 64 bits, and no line of it holds a line feed
abbrev pub RecordFits : Record → Type 0
RecordFits (Accepted r) = Fits64 r
RecordFits (Refused r edit why) = Fits64 r × Fits64 edit × WhyFits why
RecordFits (Answered r lines) = Fits64 r × Fits64 (length lines) × AreLines lines
RecordFits (Cancelled base newer) = Fits64 base × Fits64 newer
RecordFits (Spent r budget) = Fits64 r × Fits64 budget

abbrev pub RecordsFit : List Record → Type 0
RecordsFit [] = Unit {0}
RecordsFit (rec ∷ recs) = RecordFits rec × RecordsFit recs

abbrev pub AllRecordsFit : List (List Record) → Type 0
AllRecordsFit [] = Unit {0}
AllRecordsFit (recs ∷ records) = RecordsFit recs × Fits64 (length recs) × AllRecordsFit records

-- the history is read off the bytes, and where no line of a record holds a line feed the records are too
pub record IsReadBack : Type 0 where
  pub history : (entries entries' : List Entry) (records records' : List (List Record)) → Fits64 (length entries) → Fits64 (length entries') → EntriesFit entries → EntriesFit entries'
      → report entries records ≡ report entries' records' → entries ≡ entries'
  pub told : (entries : List Entry) (records records' : List (List Record)) → AllRecordsFit records → AllRecordsFit records'
      → Fits64 (length records) → Fits64 (length records') → report entries records ≡ report entries records' → records ≡ records'
