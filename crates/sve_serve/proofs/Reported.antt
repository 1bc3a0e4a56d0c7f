-- The text of a report, with lint and without.
use Rattle.std.proofs.Common.{◌≡◌, ℕ, Bool, true, false, List, length, sym, subst, true≢false}
use Rattle.sve_text.specs.Files.{FilesValue}
use Rattle.sve_history.specs.Histories.{HistoryValue, newest_files}
use Rattle.sve_script.specs.declared.sessions.Script.{Script}
use Rattle.sve_lint.specs.Rules.{RuleState}
use Rattle.sve_report.specs.declared.entry.Entry.{Entry}
use Rattle.sve_report.specs.declared.record.Record.{Record}
use Rattle.sve_report.specs.declared.section.LintSection.{LintSection}
use Rattle.sve_report.specs.Linted.{report_with_lint}
use Rattle.sve_report.specs.Reports.{report}
use Rattle.sve_runner.specs.Honest.{history_by, told_entries}
use Rattle.sve_query.specs.Linting.{IsLintSection}
use Rattle.sve_words.specs.declared.request.Options.{Options}
use Rattle.sve_serve.specs.Texts.{IsTextOf, IsTextWith, last_files}

-- without lint it is the report
pub plain_text : (lint : Bool) (budget : ℕ) (rules : List RuleState) (files : FilesValue) (entries : List Entry) (records : List (List Record)) (text : List ℕ) → lint ≡ false → text ≡ report entries records
    → IsTextWith lint budget rules files entries records text
plain_text true budget rules files entries records text is written = absurd (true≢false is)
plain_text false budget rules files entries records text is written = written

-- with lint the section stands behind it that was found of these files, at this revision and within this budget
pub linted_text : (lint : Bool) (budget : ℕ) (rules : List RuleState) (files : FilesValue) (entries : List Entry) (records : List (List Record)) (text : List ℕ) (section : LintSection) (newest : FilesValue) (r limit : ℕ) → lint ≡ true
    → newest ≡ files → r ≡ length entries → limit ≡ budget → IsLintSection newest.rows r limit rules section → text ≡ report_with_lint entries records section → IsTextWith lint budget rules files entries records text
linted_text false budget rules files entries records text section newest r limit is files_are r_is limit_is found written = absurd (true≢false (sym is))
linted_text true budget rules files entries records text section newest r limit is files_are r_is limit_is found written = (
  section,
  subst (λ (f : FilesValue). IsLintSection f.rows (length entries) budget rules section) files_are
      (subst (λ (n : ℕ). IsLintSection newest.rows n budget rules section) r_is (subst (λ (b : ℕ). IsLintSection newest.rows r b rules section) limit_is found)),
  written,
)

-- the text of a report, told of the history that the script makes of its entries
pub text_told : (options : Options) (rules : List RuleState) (script : Script) (history : HistoryValue) (entries : List Entry) (records told : List (List Record)) (text : List ℕ) → history ≡ history_by script.files script.clients (told_entries history)
    → entries ≡ told_entries history → told ≡ records → IsTextOf options rules (newest_files history) entries told text → IsTextOf options rules (last_files script (told_entries history)) (told_entries history) records text
text_told options rules script history entries records told text by_script entries_are records_are is =
    subst (λ (h : HistoryValue). IsTextOf options rules (newest_files h) (told_entries history) records text) by_script
    (subst (λ (es : List Entry). IsTextOf options rules (newest_files history) es records text) entries_are
    (subst (λ (rs : List (List Record)). IsTextOf options rules (newest_files history) entries rs text) records_are is))
