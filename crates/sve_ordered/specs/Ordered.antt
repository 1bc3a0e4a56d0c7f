-- Items in their order, each once (own).
use Rattle.std.specs.Prelude.{List, [], ◌∷◌}
use Rattle.std.specs.Ordering.{match_ordering}
use Rattle.std.specs.declared.cmp.Ordering.{Ordering}

module _ {X : Type 0} (cmp : X → X → Ordering) where
  -- one more, at its place; where it is there already, nothing is added
  abbrev pub with_one : X → List X → List X
  with_one x [] = x ∷ []
  with_one x (y ∷ ys) = match_ordering (cmp x y) (x ∷ y ∷ ys) (y ∷ ys) (y ∷ with_one x ys)

  -- all of them
  abbrev pub ordered : List X → List X
  ordered [] = []
  ordered (x ∷ xs) = with_one x (ordered xs)
