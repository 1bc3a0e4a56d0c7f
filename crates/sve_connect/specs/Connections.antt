-- How the arguments of an instance connect its ports (IEEE 1800-2017, 23.3.2, 25.3 and 6.10).
use Rattle.std.specs.Prelude.{ℕ, ◌+◌, Bool, true, false, List, [], ◌∷◌, ◌++◌, slice_get, Option, Some, None}
use Rattle.sve_diag.specs.declared.code.Code.{Code}
use Rattle.sve_diag.specs.declared.code.Code.TheVariants.{E09, E10}
use Rattle.sve_tree.specs.declared.expression.Arg.{Arg}
use Rattle.sve_tree.specs.declared.expression.Arg.TheVariants as is_arg
use Rattle.sve_scope.specs.declared.what.FaceName.{FaceName}
use Rattle.sve_facts.specs.declared.facts.Port.{Port}
use Rattle.sve_connect.specs.declared.connecting.Connected.{Connected}
use Rattle.sve_connect.specs.declared.connecting.Ending.{Ending}
use Rattle.sve_connect.specs.declared.linked.Link.{Link}
use Rattle.sve_connect.specs.declared.linked.Link.TheVariants as is_link
use Rattle.sve_connect.specs.declared.linked.Linking.{Linking}
use Rattle.sve_connect.specs.declared.linked.Star.{Star}
use Rattle.sve_connect.specs.declared.ports.PortName.{PortName}
use Rattle.sve_connect.specs.Seen.{Seen}
use Rattle.sve_connect.specs.Fitting.{misfit}
use Rattle.sve_connect.specs.Links.{named_ports, no_linking, with_argument}

-- the token behind an argument: a comma, or what closes the list
abbrev pub comma_or : ℕ → Option ℕ → ℕ
comma_or closing (Some comma) = comma
comma_or closing None = closing

abbrev pub behind : List ℕ → ℕ → ℕ → ℕ
behind commas closing place = comma_or closing (slice_get commas place)

-- the arguments in turn
unfoldable pub with_arguments : Seen → List Port → List PortName → List ℕ → ℕ → ℕ → List Arg → Linking → Linking
with_arguments s ports names commas closing place [] l = l
with_arguments s ports names commas closing place (argument ∷ arguments) l =
    with_arguments s ports names commas closing (place + 1) arguments (with_argument s ports names l place (behind commas closing place) argument)

-- a list of one argument that is nothing is a list without any
abbrev pub is_empty_argument : Arg → Bool
is_empty_argument is_arg.Empty = true
is_empty_argument argument = false

abbrev pub is_nothing : List Arg → Bool
is_nothing [] = false
is_nothing (argument ∷ []) = is_empty_argument argument
is_nothing (argument ∷ next ∷ rest) = false

-- ---- then the ports in turn

abbrev pub paired : Ending → ℕ → ℕ → Ending
paired e port argument = record e { pairs = e.pairs ++ (record { port = port; argument = argument }) ∷ [] }

abbrev pub left_free : Ending → List ℕ → Ending
left_free e name = record e { unconnected = e.unconnected ++ name ∷ [] }

abbrev pub link_or_free : Option Link → Link
link_or_free (Some link) = link
link_or_free None = is_link.Free

abbrev pub link_at : List Link → ℕ → Link
link_at links place = link_or_free (slice_get links place)

module _ (s : Seen) where
  abbrev pub said : Ending → ℕ → Code → List ℕ → Ending
  said e token code name = record e { notes = e.notes ++ (record { file = s.file; chunk = s.chunk; token = token; code = code; arg = Some name }) ∷ [] }

  -- a port that is connected to nothing; an interface port must be connected
  abbrev pub unless_faced : Option FaceName → Ending → ℕ → List ℕ → Ending
  unless_faced None e at name = e
  unless_faced (Some face) e at name = said e at E10 name

  abbrev pub missing : Ending → Port → ℕ → Ending
  missing e port at = unless_faced port.face (left_free e port.name) at port.name

  -- a port that is connected to what its name stands for
  abbrev pub free_if_absent : Code → Ending → List ℕ → Ending
  free_if_absent E09 e name = left_free e name
  free_if_absent code e name = e

  abbrev pub starred_unless : Option Code → Ending → Port → ℕ → Star → Ending
  starred_unless None e port place star = paired e place star.place
  starred_unless (Some code) e port place star = free_if_absent code (said e star.token code port.name) port.name

  abbrev pub by_star : Ending → Port → ℕ → Star → Ending
  by_star e port place star = starred_unless (misfit port (s.thing port.name)) e port place star

  abbrev pub free_port_ended : Option Star → Ending → Port → ℕ → ℕ → Ending
  free_port_ended (Some star) e port place at = by_star e port place star
  free_port_ended None e port place at = missing e port at

  abbrev pub with_port : Ending → Port → ℕ → Link → Option Star → ℕ → Ending
  with_port e port place (is_link.To argument) star at = paired e place argument
  with_port e port place is_link.Wrong star at = e
  with_port e port place is_link.Nothing star at = missing e port at
  with_port e port place is_link.Free star at = free_port_ended star e port place at

  unfoldable pub ports_ended : List Link → Option Star → ℕ → ℕ → List Port → Ending → Ending
  ports_ended links star at place [] e = e
  ports_ended links star at place (port ∷ ports) e = ports_ended links star at (place + 1) ports (with_port e port place (link_at links place) star at)

  abbrev pub connected_of : Linking → Ending → Connected
  connected_of l e = record { pairs = e.pairs; unconnected = e.unconnected; nets = l.nets; notes = e.notes }

  abbrev pub ended : List Port → Linking → ℕ → Connected
  ended ports l at = connected_of l (ports_ended l.links l.star at 0 ports (record { pairs = []; unconnected = []; notes = l.notes }))

  abbrev pub connected_unless : Bool → List Port → List ℕ → ℕ → List Arg → ℕ → Connected
  connected_unless true ports commas closing arguments at = ended ports (no_linking ports) at
  connected_unless false ports commas closing arguments at = ended ports (with_arguments s ports (named_ports 0 ports []) commas closing 0 arguments (no_linking ports)) at

  abbrev pub connected : List Port → List ℕ → ℕ → List Arg → ℕ → Connected
  connected ports commas closing arguments at = connected_unless (is_nothing arguments) ports commas closing arguments at
