-- What the rules mean (own).
use Rattle.std.specs.Prelude.{ℕ, Bool, true, false, nat_lt, if◌then◌else◌, List, [], ◌∷◌, codes}
use Rattle.std.specs.List.{flat_map}
use Rattle.sve_bytes.specs.declared.direction.Dir.{Dir}
use Rattle.sve_bytes.specs.declared.direction.Dir.TheVariants.{Input, Output, Inout}
use Rattle.sve_lint.specs.declared.instance.Finding.{Finding}
use Rattle.sve_lint.specs.declared.instance.InstanceFacts.{InstanceFacts}
use Rattle.sve_lint.specs.declared.instance.UnconnectedPort.{UnconnectedPort}
use Rattle.sve_lint.specs.Rules.{RuleState}

-- a port that reads what is connected to it: an input or an inout (IEEE 1800-2017, 23.2.2)
abbrev pub reads : Dir → Bool
reads Input = true
reads Output = false
reads Inout = true

-- what a port gives that is connected to nothing: an output nothing
abbrev pub port_findings : InstanceFacts → UnconnectedPort → List Finding
port_findings instance port = if reads port.direction then record { path = instance.path; detail = port.name } ∷ [] else []

-- each unconnected input or inout, in the order of the ports, of an instance that is no top; the depth of a top is 1
abbrev pub unconnected_meaning : InstanceFacts → List Finding
unconnected_meaning instance = if nat_lt 1 instance.depth then flat_map (port_findings instance) instance.unconnected else []

-- each instance at a depth above 8, with its module
abbrev pub deep_meaning : InstanceFacts → List Finding
deep_meaning instance = if nat_lt 8 instance.depth then record { path = instance.path; detail = instance.module } ∷ [] else []

-- the rule `unconnected` that holds these findings
abbrev pub unconnected_rule : List Finding → RuleState
unconnected_rule found = record { name = codes "unconnected"; meaning = unconnected_meaning; found = found }

-- the rule `deep` that holds these findings
abbrev pub deep_rule : List Finding → RuleState
deep_rule found = record { name = codes "deep"; meaning = deep_meaning; found = found }
