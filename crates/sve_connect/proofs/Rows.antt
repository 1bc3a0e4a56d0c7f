-- Ports and arguments from one on, and behind the last.
use Rattle.std.proofs.Common.{◌≡◌, ◌<◌, ◌≤◌, ℕ, ◌+◌, List, Option, length, drop, get_or, refl}
use Rattle.std.proofs.lemmas.List.{drop_more}
use Rattle.std.proofs.Math.ListN.{drop_of_length-le}
use Rattle.sve_table.specs.Tables.{with_item}
use Rattle.sve_tree.specs.declared.expression.Arg.{Arg}
use Rattle.sve_facts.specs.declared.facts.Port.{Port}
use Rattle.sve_connect.specs.declared.connecting.Ending.{Ending}
use Rattle.sve_connect.specs.declared.linked.Link.{Link}
use Rattle.sve_connect.specs.declared.linked.Linking.{Linking}
use Rattle.sve_connect.specs.declared.linked.Star.{Star}
use Rattle.sve_connect.specs.declared.ports.PortName.{PortName}
use Rattle.sve_connect.specs.Seen.{Seen}
use Rattle.sve_connect.specs.Links.{named_ports, port_name, with_argument}
use Rattle.sve_connect.specs.Connections.{behind, link_at, ports_ended, with_arguments, with_port}

pub port_named : (ports : List Port) (i : ℕ) (port : Port) (names : List PortName) → i < length ports → port ≡ get_or ports i port →
    named_ports (i + 1) (drop (i + 1) ports) (with_item port_name names (record { name = port.name; place = i })) ≡ named_ports i (drop i ports) names
unfolding named_ports
port_named ports i port names h e = rw (drop_more ports i port h, ← e) refl

pub ports_named : (ports : List Port) (i : ℕ) (names : List PortName) → length ports ≤ i → named_ports i (drop i ports) names ≡ names
unfolding named_ports
ports_named ports i names h = rw (drop_of_length-le ports h) refl

pub argument_taken : (s : Seen) (ports : List Port) (names : List PortName) (commas : List ℕ) (closing : ℕ) (arguments : List Arg) (i : ℕ) (argument : Arg) (l : Linking) → i < length arguments → argument ≡ get_or arguments i argument →
    with_arguments s ports names commas closing (i + 1) (drop (i + 1) arguments) (with_argument s ports names l i (behind commas closing i) argument) ≡ with_arguments s ports names commas closing i (drop i arguments) l
unfolding with_arguments
argument_taken s ports names commas closing arguments i argument l h e = rw (drop_more arguments i argument h, ← e) refl

pub arguments_taken : (s : Seen) (ports : List Port) (names : List PortName) (commas : List ℕ) (closing : ℕ) (arguments : List Arg) (i : ℕ) (l : Linking) → length arguments ≤ i →
    with_arguments s ports names commas closing i (drop i arguments) l ≡ l
unfolding with_arguments
arguments_taken s ports names commas closing arguments i l h = rw (drop_of_length-le arguments h) refl

pub port_ended : (s : Seen) (links : List Link) (star : Option Star) (at : ℕ) (ports : List Port) (i : ℕ) (port : Port) (e : Ending) → i < length ports → port ≡ get_or ports i port →
    ports_ended s links star at (i + 1) (drop (i + 1) ports) (with_port s e port i (link_at links i) star at) ≡ ports_ended s links star at i (drop i ports) e
unfolding ports_ended
port_ended s links star at ports i port e h is = rw (drop_more ports i port h, ← is) refl

pub all_ended : (s : Seen) (links : List Link) (star : Option Star) (at : ℕ) (ports : List Port) (i : ℕ) (e : Ending) → length ports ≤ i → ports_ended s links star at i (drop i ports) e ≡ e
unfolding ports_ended
all_ended s links star at ports i e h = rw (drop_of_length-le ports h) refl
