use Rattle.std.proofs.Common.{None, ap, ◌∙◌, bytes_eq}
use Rattle.std.specs.Map.{remove_entry}
use Rattle.sve_macro.proofs.Entries.{sets_from_updates, remove_entry-cmp}
use Rattle.sve_macro.proofs.table.Table.undefine.Goals as goal

pub returns-clause-entries : goal.returns-clause-entries
returns-clause-entries c = c.remove.ensures.entries ∙ remove_entry-cmp c.args.name.now c.self.inside.map.entries ∙ ap (λ es. remove_entry (bytes_eq c.args.name.now) es) c.self.view_is

pub returns-clause-undefined : goal.returns-clause-undefined
returns-clause-undefined c = sets_from_updates c.args.name.now c.self.inside.map c.remove.new.self None c.args.self.now c.self.view_is c.remove.ensures.updates
