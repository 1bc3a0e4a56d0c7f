-- What is read behind the names at the front of an item, in its place among the alternatives of an item (own).
use Rattle.std.specs.Prelude.{ℕ, Ok}
use Rattle.sve_grammar.specs.Reading.{leaf, Answer, both}
use Rattle.sve_parse_expr.specs.Alternatives.{last_alternative}

-- the last alternative of an item: a name, and what is read from the place behind it
abbrev pub behind_name : ℕ → ℕ → (ℕ → Answer) → Answer
behind_name name at rest = last_alternative 18 (both (Ok (leaf name, at)) rest)

-- its last alternative again: a second name, and what is read from the place behind both
abbrev pub behind_names : ℕ → ℕ → ℕ → (ℕ → Answer) → Answer
behind_names first second at rest = behind_name first second (λ i. last_alternative 3 (both (Ok (leaf second, at)) rest))
