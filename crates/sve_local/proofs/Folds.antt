-- Steps of statements, one after another.
use Rattle.std.proofs.Common.{◌≡◌, List, [], ◌∷◌, refl}
use Rattle.std.specs.List.{fold}
use Rattle.sve_statement_use.specs.Steps.{Does, Step, Uses, happens}
use Rattle.sve_local.specs.declared.within.Within.{Within}
use Rattle.sve_local.specs.Steps.{stepped_in}
use Rattle.sve_local.specs.Within.{done_within, used_within}

pub all_steps : (s : Within) (steps : List Step) → (fold (happens used_within done_within) s steps).contents ≡ fold (stepped_in s.text.packages.now s.text.words.now) s.contents steps
all_steps s [] = refl
all_steps s (Uses u ∷ steps) = all_steps (used_within s u) steps
all_steps s (Does x ∷ steps) = all_steps (done_within s x) steps
