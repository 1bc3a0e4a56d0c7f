use Rattle.sve_use.specs.LeftSides.{left_side_uses}
use Rattle.sve_use.specs.Uses.{uses}
use Rattle.sve_used.specs.Used.{name_used}
use Rattle.sve_used_names.proofs.Folds.{folded_both}
use Rattle.sve_used_names.proofs.used.sides_used.Goals as goal

pub returns : goal.returns
returns c =
    folded_both (name_used c.args.text.packages.now c.args.text.words.now) c.args.contents c.in_ok-contents.contents (left_side_uses c.args.left.now) (uses c.args.value.now) c.names_used.result c.in_ok-contents.ensures c.names_used.ensures
