-- The line of a diagnostic whose line and column are known (own).
use Rattle.std.specs.Prelude.{ℕ, List, ◌∷◌, ◌++◌, decimal}
use Rattle.sve_diag.specs.declared.diag.Diag.{Diag}
use Rattle.sve_diag.specs.CodeText.{code_text}
use Rattle.sve_diag.specs.DiagText.{argument_text}
use Rattle.sve_listing.specs.declared.spot.Spot.{Spot}

abbrev pub spot_line : Diag → Spot → List ℕ
spot_line d s = d.place.file ++ 58 ∷ decimal s.line ++ 58 ∷ decimal s.column ++ 58 ∷ 32 ∷ code_text d.code ++ argument_text d.arg
