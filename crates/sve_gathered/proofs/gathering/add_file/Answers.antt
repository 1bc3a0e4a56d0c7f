use Rattle.std.proofs.Common.{subst}
use Rattle.std.specs.Arc.{arc_value}
use Rattle.sve_key.specs.declared.value.Value.{Value}
use Rattle.sve_key.specs.Values.{text_in_value}
use Rattle.sve_gathered.specs.Told.{AddsText}
use Rattle.sve_gathered.proofs.gathering.add_file.Goals as goal

pub returns-clause-added : goal.returns-clause-added
returns-clause-added g c = (
  arc_value c.in_ok-value.value,
  c.in_ok-value.ensures.found,
  subst (λ (v : Value). AddsText c.args.name.now (text_in_value v).text c.args.files.now.items c.add_text.new.files.items) c.deref.ensures c.in_ok-add_text.ensures,
)
