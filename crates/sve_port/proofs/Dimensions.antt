-- Where no dimension is written, none is evaluated.
use Rattle.std.proofs.Common.{◌≡◌, List, [], ◌∷◌, true, refl}
use Rattle.sve_tree.specs.declared.expression.Dimension.{Dimension}
use Rattle.sve_env.specs.Told.{Told}
use Rattle.sve_env.specs.Nodes.{dimension_count}
use Rattle.sve_type_of.specs.Written.{is_empty}

pub none_counted : (m : Told) (dimensions : List Dimension) → is_empty dimensions ≡ true → dimension_count m dimensions ≡ 0
unfolding dimension_count
none_counted m [] h = refl
none_counted m (dimension ∷ rest) h = cc
