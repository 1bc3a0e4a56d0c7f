-- No dimensions have no nodes.
use Rattle.std.proofs.Common.{◌≡◌, List, [], ◌∷◌, true, refl}
use Rattle.sve_tree.specs.declared.expression.Dimension.{Dimension}
use Rattle.sve_env.specs.Told.{Told}
use Rattle.sve_env.specs.Nodes.{dimension_count}
use Rattle.sve_type_of.specs.Written.{is_empty}

pub no_nodes : (m : Told) (ds : List Dimension) → is_empty ds ≡ true → dimension_count m ds ≡ 0
unfolding dimension_count
no_nodes m [] h = refl
no_nodes m (d ∷ ds) h = cc
