use Rattle.std.proofs.Common.{◌∙◌, ◌-◌, [], ◌∷◌, ◌++◌, map, drop, take, ap, sym, arith}
use Rattle.std.specs.Arc.{arc_value}
use Rattle.std.proofs.lemmas.List.{append_assoc}
use Rattle.sve_hier.specs.Instances.{instance_value}
use Rattle.sve_hier.specs.Places.{block_place, instance_place}
use Rattle.sve_hier.proofs.Blocks.{next_behind}
use Rattle.sve_hier.proofs.place.add.Goals as goal

pub parts-preserved : goal.parts-preserved
parts-preserved c =
    let path = c.args.instance.now.path in
    let scopes = (arc_value c.args.instance.now.facts).scopes in
    let block = c.in_ok-block.field-0 in
    let first = c.args.places.now.items ++ (path, instance_place (instance_value c.args.instance.now)) ∷ [] in
    c.in_ok-push-2.ensures.items ∙ ap (λ ps. ps ++ block ∷ []) c.parts.invariant ∙ append_assoc first (map (block_place path) (take (c.parts.number - 1) (drop 1 scopes))) (block ∷ [])
    ∙ ap (λ ps. first ++ ps) (sym (next_behind (block_place path) scopes c.parts.number block (omega arith) c.in_ok-block.ensures))
