use Rattle.std.proofs.Common.{◌≡◌, ◌-◌, [], ◌∷◌, ◌++◌, map, drop, take}
use Rattle.std.specs.Arc.{arc_value}
use Rattle.sve_hier.specs.Instances.{instance_value}
use Rattle.sve_hier.specs.Places.{block_place, instance_place}
use Rattle.sve_hier.proofs.place.add.Given as goal

-- the instance, and the blocks so far
abbrev pub invariant-parts : goal.invariant-parts
invariant-parts l = l.places.items ≡ (l.fn.places.items ++ (l.instance.path, instance_place (instance_value l.instance)) ∷ []) ++ map (block_place l.instance.path) (take (l.number - 1) (drop 1 (arc_value l.instance.facts).scopes))
