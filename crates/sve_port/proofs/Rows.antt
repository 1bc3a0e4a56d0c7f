-- Ports from one on, and behind the last.
use Rattle.std.proofs.Common.{◌≡◌, ◌<◌, ◌≤◌, ℕ, ◌+◌, List, Option, length, drop, get_or, refl}
use Rattle.std.proofs.lemmas.List.{drop_more}
use Rattle.std.proofs.Math.ListN.{drop_of_length-le}
use Rattle.sve_tree.specs.declared.header.Port.{Port}
use Rattle.sve_env.specs.Told.{Told}
use Rattle.sve_port.specs.declared.interfaces.DesignKind.{DesignKind}
use Rattle.sve_port.specs.declared.listing.Listed.{Listed}
use Rattle.sve_port.specs.Ports.{nodes_of_ports, port_nodes, with_port, with_ports}

pub port_listed : (m : Told) (kinds : List ℕ → Option DesignKind) (ports : List Port) (i : ℕ) (port : Port) (l : Listed) → i < length ports → port ≡ get_or ports i port →
    with_ports m kinds (with_port m kinds l port) (drop (i + 1) ports) ≡ with_ports m kinds l (drop i ports)
unfolding with_ports
port_listed m kinds ports i port l h e = rw (drop_more ports i port h, ← e) refl

pub ports_listed : (m : Told) (kinds : List ℕ → Option DesignKind) (ports : List Port) (i : ℕ) (l : Listed) → length ports ≤ i → with_ports m kinds l (drop i ports) ≡ l
unfolding with_ports
ports_listed m kinds ports i l h = rw (drop_of_length-le ports h) refl

pub port_counted : (m : Told) (kinds : List ℕ → Option DesignKind) (ports : List Port) (i : ℕ) (port : Port) → i < length ports → port ≡ get_or ports i port →
    nodes_of_ports m kinds (drop i ports) ≡ port_nodes m kinds port + nodes_of_ports m kinds (drop (i + 1) ports)
unfolding nodes_of_ports
port_counted m kinds ports i port h e = rw (drop_more ports i port h, ← e) refl

pub ports_counted : (m : Told) (kinds : List ℕ → Option DesignKind) (ports : List Port) (i : ℕ) → length ports ≤ i → nodes_of_ports m kinds (drop i ports) ≡ 0
unfolding nodes_of_ports
ports_counted m kinds ports i h = rw (drop_of_length-le ports h) refl
