-- Parameters from one on, and behind the last.
use Rattle.std.proofs.Common.{◌≡◌, ◌<◌, ◌≤◌, ℕ, ◌+◌, List, length, drop, get_or, refl}
use Rattle.std.proofs.lemmas.List.{drop_more}
use Rattle.std.proofs.Math.ListN.{drop_of_length-le}
use Rattle.sve_tree.specs.declared.header.ParameterPort.{ParameterPort}
use Rattle.sve_spec.specs.declared.given.Given.{Given}
use Rattle.sve_env.specs.Told.{Told}
use Rattle.sve_resolve.specs.declared.resolving.Resolving.{Resolving}
use Rattle.sve_resolve.specs.Resolving.{nodes_of_parameters, parameter_nodes, with_parameter, with_parameters}

pub parameter_taken : (m : Told) (given : List Given) (ports : List ParameterPort) (i : ℕ) (port : ParameterPort) (r : Resolving) → i < length ports → port ≡ get_or ports i port →
    with_parameters m given (with_parameter m given r port) (drop (i + 1) ports) ≡ with_parameters m given r (drop i ports)
unfolding with_parameters
parameter_taken m given ports i port r h e = rw (drop_more ports i port h, ← e) refl

pub parameters_taken : (m : Told) (given : List Given) (ports : List ParameterPort) (i : ℕ) (r : Resolving) → length ports ≤ i → with_parameters m given r (drop i ports) ≡ r
unfolding with_parameters
parameters_taken m given ports i r h = rw (drop_of_length-le ports h) refl

pub parameter_counted : (m : Told) (given : List Given) (ports : List ParameterPort) (i : ℕ) (port : ParameterPort) (r : Resolving) → i < length ports → port ≡ get_or ports i port →
    nodes_of_parameters m given r (drop i ports) ≡ parameter_nodes m given r port + nodes_of_parameters m given (with_parameter m given r port) (drop (i + 1) ports)
unfolding nodes_of_parameters
parameter_counted m given ports i port r h e = rw (drop_more ports i port h, ← e) refl

pub parameters_counted : (m : Told) (given : List Given) (ports : List ParameterPort) (i : ℕ) (r : Resolving) → length ports ≤ i → nodes_of_parameters m given r (drop i ports) ≡ 0
unfolding nodes_of_parameters
parameters_counted m given ports i r h = rw (drop_of_length-le ports h) refl
