-- What lint rules find in the design that some files are (own).
use Rattle.std.specs.Prelude.{ℕ, ◌≡◌, List, Option, Some, None, map}
use Rattle.sve_text.specs.Rows.{Row}
use Rattle.sve_lint.specs.declared.instance.InstanceFacts.{InstanceFacts}
use Rattle.sve_lint.specs.Lines.{lint_lines}
use Rattle.sve_lint.specs.Rules.{RuleState, having_seen_all}
use Rattle.sve_survey.specs.Lint.{lint_facts_of}
use Rattle.sve_survey.specs.Visitors.{given_by_all}
use Rattle.sve_report.specs.declared.section.LintSection.{LintSection}
use Rattle.sve_report.specs.declared.section.LintSection.TheVariants.{Found, Spent}
use Rattle.sve_named.specs.Projects.{IsProjectOf, ProjectValue}
use Rattle.sve_named.specs.Replies.{design_of}

-- at this revision, of all instances of the design, where the budget is enough for them: the lines of what each rule holds once it has seen them in order
abbrev pub section_of : ℕ → ℕ → List RuleState → Option (List InstanceFacts) → LintSection
section_of r budget rules None = Spent r budget
section_of r budget rules (Some instances) = Found r (lint_lines (map (having_seen_all instances) rules))

-- each instance costs one, and what its body costs
abbrev pub lint_section : ProjectValue → ℕ → ℕ → List RuleState → LintSection
lint_section p r budget rules = section_of r budget rules (given_by_all lint_facts_of (design_of p) budget)

-- A project is read from the files of the revision, and elaborated from nothing. Of all that, where a tree lies in memory alone is free.
pub record IsLintSection (files : List Row) (r budget : ℕ) (rules : List RuleState) (section : LintSection) : Type 0 where
  pub project : ProjectValue
  pub read : IsProjectOf files project
  pub over : section ≡ lint_section project r budget rules
