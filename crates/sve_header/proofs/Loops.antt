-- Parameters and ports of a header, one by one.
use Rattle.std.proofs.Common.{◌≡◌, ◌<◌, ◌≤◌, ℕ, ◌+◌, List, length, drop, get_or, refl}
use Rattle.std.proofs.lemmas.List.{drop_more}
use Rattle.std.proofs.Math.ListN.{drop_of_length-le}
use Rattle.sve_tree.specs.declared.token_word.Word.{Word}
use Rattle.sve_tree.specs.declared.header.ParameterPorts.{ParameterPorts}
use Rattle.sve_tree.specs.declared.header.Ports.{Ports}
use Rattle.sve_scope.specs.declared.what.PortFace.{PortFace}
use Rattle.sve_facts.specs.declared.facts.Port.{Port}
use Rattle.sve_enumerated.specs.declared.passed.Passed.{Passed}
use Rattle.sve_resolve.specs.declared.known.Resolved.{Resolved}
use Rattle.sve_header.specs.Parameters.{parameter_after, parameters_behind}
use Rattle.sve_header.specs.Ports.{port_after, ports_behind}

pub parameters_step : (ws : List Word) (list : ParameterPorts) (rs : List Resolved) (i : ℕ) (r : Resolved) (p : Passed) → i < length rs → r ≡ get_or rs i r →
    parameters_behind ws list (i + 1) (parameter_after ws list i p r) (drop (i + 1) rs) ≡ parameters_behind ws list i p (drop i rs)
unfolding parameters_behind
parameters_step ws list rs i r p h e = rw (drop_more rs i r h, ← e) refl

pub parameters_end : (ws : List Word) (list : ParameterPorts) (rs : List Resolved) (i : ℕ) (p : Passed) → length rs ≤ i → parameters_behind ws list i p (drop i rs) ≡ p
unfolding parameters_behind
parameters_end ws list rs i p h = rw (drop_of_length-le rs h) refl

pub ports_step : (ws : List Word) (faces : List PortFace) (list : Ports) (ports : List Port) (i : ℕ) (port : Port) (p : Passed) → i < length ports → port ≡ get_or ports i port →
    ports_behind ws faces list (i + 1) (port_after ws faces list i p port) (drop (i + 1) ports) ≡ ports_behind ws faces list i p (drop i ports)
unfolding ports_behind
ports_step ws faces list ports i port p h e = rw (drop_more ports i port h, ← e) refl

pub ports_end : (ws : List Word) (faces : List PortFace) (list : Ports) (ports : List Port) (i : ℕ) (p : Passed) → length ports ≤ i → ports_behind ws faces list i p (drop i ports) ≡ p
unfolding ports_behind
ports_end ws faces list ports i p h = rw (drop_of_length-le ports h) refl
