-- Chains that are grouped from the left.
use Rattle.std.proofs.Common.{List, [], ◌∷◌, ◌++◌, ◌≡◌, refl}
use Rattle.sve_tree.specs.Grouping.{grouped}

-- no operation
pub grouped_none : {A B : Type 0} (step : B → A → B) (b : B) → grouped step b [] ≡ b
grouped_none step b = refl

-- the last operation applies to what the others give
pub grouped_push : {A B : Type 0} (step : B → A → B) (b : B) (xs : List A) (x : A) → grouped step b (xs ++ x ∷ []) ≡ step (grouped step b xs) x
grouped_push step b [] x = refl
grouped_push step b (y ∷ ys) x = grouped_push step (step b y) ys x
