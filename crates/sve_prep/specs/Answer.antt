-- What the preprocessor answers (own).
use Rattle.std.specs.Prelude.{◌≡◌, ℕ, List, [], Option, Some, None}
use Rattle.sve_origin.specs.Expanded.{ExpandedValue}
use Rattle.sve_prep.specs.State.{State}
use Rattle.sve_prep.specs.Expansion.{Outcome, Done}

abbrev pub text_or_empty : Option (List ℕ) → List ℕ
text_or_empty None = []
text_or_empty (Some text) = text

-- the expansion is done with this text, after asking for these names
pub record Expands (outcome : Outcome) (e : ExpandedValue) (asked : Option (List (List ℕ))) : Type 0 where
  pub last : State
  pub done : outcome ≡ Done last
  pub text : e ≡ record { cells = last.out; diags = last.diags; net_types = last.net_types }
  pub names : asked ≡ last.asked
