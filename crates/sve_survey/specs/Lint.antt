-- The instances of a design as lint sees them (own).
use Rattle.std.specs.Prelude.{ℕ, Bool, if◌then◌else◌, List, [], ◌∷◌}
use Rattle.std.specs.List.{flat_map, list_any}
use Rattle.std.specs.Str.{bytes_eq}
use Rattle.sve_facts.specs.declared.facts.Port.{Port}
use Rattle.sve_lint.specs.declared.instance.InstanceFacts.{InstanceFacts}
use Rattle.sve_lint.specs.declared.instance.UnconnectedPort.{UnconnectedPort}
use Rattle.sve_survey.specs.Seen.{Instance}
use Rattle.sve_survey.specs.Visitors.{VisitorState}

-- whether a name is one of these
abbrev pub is_among : List (List ℕ) → List ℕ → Bool
is_among names name = list_any (λ other. bytes_eq other name) names

-- a port with its direction, where its name is one that is meant
abbrev pub port_if : (List ℕ → Bool) → Port → List UnconnectedPort
port_if is_meant port = if is_meant port.name then record { name = port.name; direction = port.direction } ∷ [] else []

-- the ports of these names, in the order of the ports (IEEE 1800-2017, 23.2.2)
abbrev pub ports_among : List (List ℕ) → List Port → List UnconnectedPort
ports_among names ports = flat_map (port_if (is_among names)) ports

-- an instance: its path, its module, its depth, and its ports that its parent connects to nothing, which stand in its body
abbrev pub lint_facts : Instance → InstanceFacts
lint_facts instance = record { path = instance.visit.path; «module» = instance.visit.spec.definition; depth = instance.visit.depth; unconnected = ports_among instance.unconnected instance.facts.ports }

-- each instance gives itself
abbrev pub lint_facts_of : Instance → List InstanceFacts
lint_facts_of instance = lint_facts instance ∷ []

-- the visitor that holds these instances
abbrev pub lint_visitor : List InstanceFacts → VisitorState InstanceFacts
lint_visitor instances = record { meaning = lint_facts_of; held = instances }
