-- The report of a run with what lint rules found behind the records, and that it is read back (own).
use Rattle.std.specs.Prelude.{ℕ, ◌≡◌, List, [], ◌∷◌, ◌++◌, length, codes, decimal}
use Rattle.sve_report.specs.declared.entry.Entry.{Entry}
use Rattle.sve_report.specs.declared.section.LintSection.{LintSection}
use Rattle.sve_report.specs.declared.section.LintSection.TheVariants.{Found, Spent}
use Rattle.sve_report.specs.declared.record.Record.{Record}
use Rattle.sve_report.specs.Lines.{AreLines, text_of_lines}
use Rattle.sve_report.specs.ReadBack.{AllRecordsFit, EntriesFit, Fits64}
use Rattle.sve_report.specs.Reports.{report}

-- `lint <r> <k>`
abbrev pub found_text : ℕ → ℕ → List ℕ
found_text r k = codes "lint " ++ decimal r ++ codes " " ++ decimal k

-- `lint <r> spent <budget>`
abbrev pub spent_text : ℕ → ℕ → List ℕ
spent_text r budget = codes "lint " ++ decimal r ++ codes " spent " ++ decimal budget

-- `lint <r> <k>` and the k lines of what was found, or `lint <r> spent <budget>`
abbrev pub section_lines : LintSection → List (List ℕ)
section_lines (Found r lines) = found_text r (length lines) ∷ lines
section_lines (Spent r budget) = spent_text r budget ∷ []

-- the report of the history and the records, and behind it what lint rules found
abbrev pub report_with_lint : List Entry → List (List Record) → LintSection → List ℕ
report_with_lint entries records section = report entries records ++ text_of_lines (section_lines section)

-- its numbers are of 64 bits, and no line of it holds a line feed
abbrev pub SectionFits : LintSection → Type 0
SectionFits (Found r lines) = Fits64 r × Fits64 (length lines) × AreLines lines
SectionFits (Spent r budget) = Fits64 r × Fits64 budget

-- the history is read off the bytes, and where no line holds a line feed the records are too, and what lint rules found
pub record IsLintedReadBack : Type 0 where
  pub history : (entries entries' : List Entry) (records records' : List (List Record)) (section section' : LintSection) → Fits64 (length entries) → Fits64 (length entries') → EntriesFit entries → EntriesFit entries'
      → report_with_lint entries records section ≡ report_with_lint entries' records' section' → entries ≡ entries'
  pub told : (entries : List Entry) (records records' : List (List Record)) (section section' : LintSection) → AllRecordsFit records → AllRecordsFit records' → Fits64 (length records) → Fits64 (length records')
      → SectionFits section → SectionFits section' → report_with_lint entries records section ≡ report_with_lint entries records' section' → (records ≡ records') × (section ≡ section')
