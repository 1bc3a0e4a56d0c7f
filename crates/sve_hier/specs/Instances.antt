-- The instances of a design with what is found of their bodies (IEEE 1800-2017, 23.3).
use Rattle.std.specs.Prelude.{ℕ, Bool, nat_le, if◌then◌else◌, Option, Some, None, List, [], ◌∷◌, map}
use Rattle.std.specs.Arc.{arc_value}
use Rattle.std.specs.List.{list_all}
use Rattle.sve_bytes.specs.declared.path.Path.{Path}
use Rattle.sve_facts.specs.declared.facts.Facts.{Facts}
use Rattle.sve_facts.specs.Bodies.{Design, Question, OfBody}
use Rattle.sve_design.specs.declared.visits.Visit.{Visit}
use Rattle.sve_hier.specs.declared.bodies.Instance.{Instance}

-- an instance, the name of its module, and what is found of its body
pub record InstanceValue : Type 0 where
  pub path : Path
  pub module_name : List ℕ
  pub facts : Facts

-- the same, wherever the facts lie in memory
abbrev pub instance_value : Instance → InstanceValue
instance_value i = record { path = i.path; module_name = i.module; facts = arc_value i.facts }

-- the instance of a visit
abbrev pub instance_of : Design → Visit → InstanceValue
instance_of design v = record { path = v.path; module_name = v.spec.definition; facts = design.facts v.spec }

-- whether its body costs no more than this
abbrev pub fits : Design → ℕ → Visit → Bool
fits design fuel v = nat_le (design.cost v.spec) fuel

-- the instances of visits, where none of the bodies costs more than this
abbrev pub instances_within : Design → ℕ → List Visit → Option (List InstanceValue)
instances_within design fuel vs = if list_all (fits design fuel) vs then Some (map (instance_of design) vs) else None

-- the bodies that are asked for: that of each visit, up to the first that costs more
abbrev pub asked_within : Design → ℕ → List Visit → List Question
asked_within design fuel [] = []
asked_within design fuel (v ∷ vs) = OfBody v.spec fuel ∷ (if fits design fuel v then asked_within design fuel vs else [])
