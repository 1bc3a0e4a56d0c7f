use Rattle.std.proofs.Common.{◌-◌}
use Rattle.sve_parse_flat_item.proofs.Parts.{unit_gives}
use Rattle.sve_parse_flat_item.proofs.package_items.unit_item.Goals as goal

pub returns-clause-tree : goal.returns-clause-tree
returns-clause-tree c = unit_gives c.args.tokens.now (512 - c.args.depth) c.args.from c.args.form c.requires.form c.package_part.result c.package_part.ensures.tree c.package_part.ensures.form
