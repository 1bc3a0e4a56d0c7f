use Rattle.std.proofs.Common.{option_map, ap, ◌∙◌}
use Rattle.serde_json.specs.View.{view}
use Rattle.serde_json.proofs.Views.{view_of_ref, view-lookup}
use Rattle.sve_shape.proofs.member.value_under.Goals as goal

-- the map's answer, seen as data, is what stands under the key among the data
pub returns : goal.returns
returns c = view_of_ref c.get.result ∙ ap (option_map view) c.get.ensures.value ∙ view-lookup c.args.key.now c.args.object.now.entries
