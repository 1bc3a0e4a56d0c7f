-- Which modules and interfaces have a parameter that each instance must override (IEEE 1800-2017, 6.20.1).
use Rattle.std.specs.Prelude.{◌≡◌, List, [], Option, Some, None}
use Rattle.std.specs.List.{Any}
use Rattle.sve_tree.specs.declared.element.Definition.{Definition}
use Rattle.sve_tree.specs.declared.header.ParameterPort.{ParameterPort}
use Rattle.sve_tree.specs.declared.header.ParameterPorts.{ParameterPorts}

-- the parameters of a header; one without a list of them has none
abbrev pub parameters_in : Option ParameterPorts → List ParameterPort
parameters_in None = []
parameters_in (Some list) = list.parameters.items.items

-- one of them has no value
abbrev pub LacksDefault : Definition → Type 0
LacksDefault definition = Any (λ port. port.value ≡ None) (parameters_in definition.header.parameters)
