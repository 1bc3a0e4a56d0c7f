use Rattle.std.proofs.Common.{◌++◌, length}
use Rattle.std.specs.List.{sum_by}
use Rattle.sve_generate.specs.Constructs.{constructs}
use Rattle.sve_generate.specs.BlockNames.{is_taken, names_from}
use Rattle.sve_generate.proofs.Names.{item_added, all_added}
use Rattle.sve_generate.proofs.naming.+names.Goals as goal

pub add_items-items-preserved : goal.add_items-items-preserved
add_items-items-preserved g t c =
    item_added (is_taken g.T.Named.called c.args.declared.now) c.args.items.now c.items.item-index c.item-item.result c.items.names.items c.add_item.new.names.items
    (c.args.names.now.items ++ names_from (is_taken g.T.Named.called c.args.declared.now) (length c.args.names.now.items) (sum_by constructs c.args.items.now))
    c.items-test.true c.item-item.is c.in_ok-add_item.ensures c.items.invariant

pub add_items-returns : goal.add_items-returns
add_items-returns g t c =
    all_added (is_taken g.T.Named.called c.args.declared.now) c.args.items.now c.items.item-index c.items.names.items
    (c.args.names.now.items ++ names_from (is_taken g.T.Named.called c.args.declared.now) (length c.args.names.now.items) (sum_by constructs c.args.items.now))
    c.items-test.false c.items.invariant
