-- Plain names, found one after another.
use Rattle.std.proofs.Common.{◌≡◌, ℕ, List, [], ◌∷◌, ◌++◌, sym, append_assoc, ◌∙◌}
use Rattle.std.proofs.lemmas.List.{append-nil}
use Rattle.std.specs.List.{flat_map, fold}
use Rattle.sve_use.specs.Use.{Use}
use Rattle.sve_body.specs.Items.{plain_tokens}
use Rattle.sve_body_item.specs.Plain.{after}

from_here : (tokens : List ℕ) (names : List Use) → fold after tokens names ≡ tokens ++ flat_map plain_tokens names
from_here tokens [] = sym (append-nil tokens)
from_here tokens (name ∷ names) = from_here (tokens ++ plain_tokens name) names ∙ append_assoc tokens (plain_tokens name) (flat_map plain_tokens names)

pub all_plain : (names : List Use) → fold after [] names ≡ flat_map plain_tokens names
all_plain names = from_here [] names
