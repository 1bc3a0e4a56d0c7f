use Rattle.std.proofs.Common.{ap, ◌∙◌}
use Rattle.sve_macro.specs.Macros.{macro_of}
use Rattle.sve_macro.proofs.Entries.{lookup-cmp}
use Rattle.sve_macro.proofs.table.Table.find.Goals as goal

pub returns : goal.returns
returns c = c.get.ensures.value ∙ lookup-cmp c.args.name.now c.self.inside.map.entries ∙ ap (λ es. macro_of es c.args.name.now) c.self.view_is
