-- The text of a report (own).
use Rattle.std.specs.Prelude.{ℕ, ◌≡◌, Bool, true, false, List, length}
use Rattle.sve_text.specs.Files.{FilesValue}
use Rattle.sve_history.specs.Histories.{newest_files}
use Rattle.sve_script.specs.declared.sessions.Script.{Script}
use Rattle.sve_lint.specs.Rules.{RuleState}
use Rattle.sve_report.specs.declared.entry.Entry.{Entry}
use Rattle.sve_report.specs.declared.record.Record.{Record}
use Rattle.sve_report.specs.declared.section.LintSection.{LintSection}
use Rattle.sve_report.specs.Linted.{report_with_lint}
use Rattle.sve_report.specs.Reports.{report}
use Rattle.sve_runner.specs.Honest.{history_by}
use Rattle.sve_query.specs.Linting.{IsLintSection}
use Rattle.sve_words.specs.declared.request.Options.{Options}
use Rattle.sve_serve.specs.Honest.{run_budget}

-- the files of the last revision of a session with these commits
abbrev pub last_files : Script → List Entry → FilesValue
last_files script entries = newest_files (history_by script.files script.clients entries)

-- The text reports this history and these records. With lint there stands behind them what the rules, as they were handed in, find within this budget in the
-- design that the files of the last revision are.
abbrev pub IsTextWith : Bool → ℕ → List RuleState → FilesValue → List Entry → List (List Record) → List ℕ → Type 0
IsTextWith false budget rules files entries records text = text ≡ report entries records
IsTextWith true budget rules files entries records text =
    (section : LintSection) × IsLintSection files.rows (length entries) budget rules section × (text ≡ report_with_lint entries records section)

-- the same in a run with these options
abbrev pub IsTextOf : Options → List RuleState → FilesValue → List Entry → List (List Record) → List ℕ → Type 0
IsTextOf options rules files entries records text = IsTextWith options.lint (run_budget options) rules files entries records text
