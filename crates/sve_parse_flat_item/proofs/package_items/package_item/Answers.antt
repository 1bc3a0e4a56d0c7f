use Rattle.std.proofs.Common.{◌-◌}
use Rattle.std.proofs.lemmas.Result.{err_from_is_err_and}
use Rattle.sve_tree.specs.Items.{item_tree}
use Rattle.sve_parse_flat_item.proofs.Parts.{item_gives, item_fails}
use Rattle.sve_parse_flat_item.proofs.package_items.package_item.Goals as goal

pub returns-clause-tree : goal.returns-clause-tree
returns-clause-tree c = item_gives c.args.tokens.now (512 - c.args.depth) c.args.from c.args.form c.requires.form c.in_ok-part.part c.in_ok-part.end (item_tree c.as_item.result) c.in_ok-part.ensures.tree c.in_ok-part.ensures.form c.as_item.ensures

pub returns-in_err-part-clause-tree : goal.returns-in_err-part-clause-tree
returns-in_err-part-clause-tree c =
    let p = err_from_is_err_and c.from_residual.result c.from_residual.ensures.1 in
    rw (p.1, p.2) (item_fails c.args.tokens.now (512 - c.args.depth) c.args.from c.args.form c.requires.form c.in_err-part.field-0.0 c.in_err-part.ensures.tree)
