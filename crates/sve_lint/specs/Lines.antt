-- The lines of what rules found (own).
use Rattle.std.specs.Prelude.{ℕ, List, ◌∷◌, ◌++◌, map}
use Rattle.std.specs.List.{flat_map}
use Rattle.sve_bytes.specs.PathText.{name_text, path_text}
use Rattle.sve_lint.specs.declared.instance.Finding.{Finding}
use Rattle.sve_lint.specs.Rules.{RuleState}

-- `<rule> <path> <detail>`
abbrev pub finding_line : List ℕ → Finding → List ℕ
finding_line rule finding = rule ++ 32 ∷ path_text finding.path.steps ++ 32 ∷ name_text finding.detail

abbrev pub rule_lines : RuleState → List (List ℕ)
rule_lines rule = map (finding_line rule.name) rule.found

-- the rules in order, and of each its findings in order
abbrev pub lint_lines : List RuleState → List (List ℕ)
lint_lines rules = flat_map rule_lines rules
