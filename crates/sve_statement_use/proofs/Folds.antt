-- Names among the steps of statements.
use Rattle.std.proofs.Common.{◌≡◌, List, [], ◌∷◌, refl}
use Rattle.std.specs.List.{fold}
use Rattle.sve_use.specs.Use.{Use}
use Rattle.sve_statement_use.specs.Steps.{Local, happens, used}

pub fold_used : {W : Type 0} (after : W → Use → W) (does : W → Local → W) (w : W) (names : List Use) → fold (happens after does) w (used names) ≡ fold after w names
fold_used after does w [] = refl
fold_used after does w (name ∷ names) = fold_used after does (after w name) names
