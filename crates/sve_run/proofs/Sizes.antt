-- A measure of rules, which falls from a rule to its parts.
use Rattle.std.specs.Prelude.{ℕ, ◌+◌}
use Rattle.sve_grammar.specs.Rule.{Rule, tok, sym, ◌∙◌, ◌∣◌, nothing, many}

-- with how many rules a rule is written
abbrev pub size : Rule → ℕ
size (tok k) = 1
size (sym s) = 1
size (a ∙ b) = size a + size b + 1
size (a ∣ b) = size a + size b + 1
size nothing = 1
size (many a) = size a + 1
