use Rattle.std.proofs.Common.{◌∙◌}
use Rattle.sve_table.proofs.Entries.{lookup-item_of}
use Rattle.sve_table.proofs.table.Table.get.Goals as goal

pub returns : goal.returns
returns g c = rw (← c.self.view_is) (c.get.ensures.value ∙ lookup-item_of g.T.Named.called c.args.name.now c.self.inside.items.entries c.self.invariant)
