use Rattle.std.proofs.Common.{sym, ◌∙◌}
use Rattle.serde_json.specs.View.{view}
use Rattle.sve_script.proofs.Fitting.{parts_are_fair}
use Rattle.sve_script.proofs.reading.session.Goals as goal

pub settled-requires : goal.settled-requires
settled-requires c = (parts_are_fair (view c.args.value.now) c.in-Ok.parts (sym c.in_ok-parts.ensures ∙ c.in-Ok.is)).distinct_names
