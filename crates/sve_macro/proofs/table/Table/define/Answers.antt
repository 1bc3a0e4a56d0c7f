use Rattle.std.proofs.Common.{Some}
use Rattle.sve_macro.proofs.Entries.{sets_from_updates}
use Rattle.sve_macro.proofs.table.Table.define.Goals as goal

pub returns-clause-defined : goal.returns-clause-defined
returns-clause-defined c = sets_from_updates c.args.name c.self.inside.map c.insert.new.self (Some c.args.definition) c.args.self.now c.self.view_is c.in_ok-insert.ensures.updates
