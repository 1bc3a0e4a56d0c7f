-- Where the way along a path ends (own).
use Rattle.std.specs.Prelude.{ℕ, Option, Some, None, List, [], ◌∷◌}
use Rattle.std.specs.Arc.{arc_value}
use Rattle.sve_bytes.specs.declared.path.Step.{Step}
use Rattle.sve_scope.specs.declared.spot.Spot.{Spot}
use Rattle.sve_scope.specs.Spots.{spot}
use Rattle.sve_facts.specs.declared.facts.BodyScope.{BodyScope}
use Rattle.sve_facts.specs.declared.facts.Facts.{Facts}
use Rattle.sve_design.specs.declared.visits.Visit.{Visit}
use Rattle.sve_find.specs.declared.found.Found.{Found}
use Rattle.sve_find.specs.declared.found.Find.{Find}
use Rattle.sve_find.specs.declared.found.Find.TheVariants as is_find

-- the token of this number in the text of a body: the first scope of a body is its own
abbrev pub token_place : List BodyScope → ℕ → Option Spot
token_place [] token = None
token_place (own ∷ blocks) token = Some (spot own.scope.file own.scope.chunk token)

-- where the way along a path ends: the innermost instance, where its name stands in its parent's text, what is found of its body, the steps of the
-- path that are behind it, and what is left of the budget
pub record FoundValue : Type 0 where
  pub visit : Visit
  pub at : Option Spot
  pub facts : Facts
  pub rest : List Step
  pub left : ℕ

-- it ends there, or nowhere, or costs more than the budget
pub data FindValue : Type 0 where
  Here : FoundValue → FindValue
  Nowhere : FindValue
  Spent : FindValue

-- the same, wherever the facts lie in memory
abbrev pub found_value : Found → FoundValue
found_value f = record { visit = f.visit; at = f.at; facts = arc_value f.facts; rest = f.rest; left = f.left }

abbrev pub find_value : Find → FindValue
find_value (is_find.Here found) = Here (found_value found)
find_value is_find.None = Nowhere
find_value is_find.Spent = Spent
