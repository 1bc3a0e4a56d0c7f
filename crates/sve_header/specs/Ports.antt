-- What the ports of a header leave in its scope (IEEE 1800-2017, 23.2.2 and 25.3).
use Rattle.std.specs.Prelude.{ℕ, ◌+◌, Bool, true, false, List, [], ◌∷◌, Option, Some, None, slice_get}
use Rattle.sve_types.specs.DataType.{DataType}
use Rattle.sve_tree.specs.declared.token_word.Word.{Word}
use Rattle.sve_tree.specs.declared.header.Header.{Header}
use Rattle.sve_tree.specs.declared.header.Port.{Port as WrittenPort}
use Rattle.sve_tree.specs.declared.header.Ports.{Ports}
use Rattle.sve_tree.specs.declared.header.PortType.{PortType}
use Rattle.sve_tree.specs.declared.header.PortType.TheVariants as is_port_type
use Rattle.sve_env.specs.Told.{Told}
use Rattle.sve_table.specs.Tables.{item_of}
use Rattle.sve_scope.specs.declared.what.Face.{Face}
use Rattle.sve_scope.specs.declared.what.FaceName.{FaceName}
use Rattle.sve_scope.specs.declared.what.PortFace.{PortFace}
use Rattle.sve_scope.specs.declared.what.What.{What}
use Rattle.sve_scope.specs.declared.what.What.TheVariants as is_what
use Rattle.sve_scope.specs.Interfaces.{face_port}
use Rattle.sve_facts.specs.declared.facts.Port.{Port}
use Rattle.sve_contents.specs.declared.contents.Contents.{Contents}
use Rattle.sve_enumerated.specs.declared.passed.Passed.{Passed}
use Rattle.sve_enumerated.specs.Passing.{passed_to}
use Rattle.sve_contents.specs.Reading.{noted_all}
use Rattle.sve_port.specs.declared.interfaces.DesignKind.{DesignKind}
use Rattle.sve_port.specs.declared.listing.Listing.{Listing}
use Rattle.sve_port.specs.Ports.{header_nodes, header_ports}
use Rattle.sve_plan.specs.Plan.{Counted}
use Rattle.sve_header.specs.declared.ports.HeaderPorts.{HeaderPorts}
use Rattle.sve_header.specs.Coming.{come_in, names_of_type, separator}

-- what an interface port is connected to, where that is known; else its own interface and modport are known alone
abbrev pub face_or_own : Option PortFace → FaceName → Face
face_or_own (Some known) own = known.face
face_or_own None own = record { name = own; names = None }

abbrev pub face_by : List PortFace → List ℕ → FaceName → Face
face_by faces n own = face_or_own (item_of face_port n faces) own

-- a port stands for a net or a variable of its type, or for an interface port
abbrev pub what_by : List PortFace → List ℕ → Option FaceName → Bool → DataType → What
what_by faces n (Some own) net ty = is_what.InterfacePort (face_by faces n own)
what_by faces n None true ty = is_what.Net ty
what_by faces n None false ty = is_what.Variable ty

abbrev pub what_of : List PortFace → Port → What
what_of faces port = what_by faces port.name port.face port.net port.ty

-- the names that its type declares come first; an interface with a modport is none, nor a use
unfoldable pub in_front : List Word → DataType → Passed → PortType → Passed
in_front ws ty p (is_port_type.Data t) = names_of_type ws (Some ty) p t
in_front ws ty p (is_port_type.Interface interface dot modport) = record { contents = (passed_to ws p interface).contents; at = modport }

abbrev pub in_front_at : List Word → DataType → Passed → Option WrittenPort → Passed
in_front_at ws ty p None = p
in_front_at ws ty p (Some written) = in_front ws ty p written.port_type

-- where this is known of interface ports
module _ (ws : List Word) (faces : List PortFace) where
  -- the port at a place of the list
  unfoldable pub port_after : Ports → ℕ → Passed → Port → Passed
  port_after list place p port =
      come_in ws (in_front_at ws port.ty p (slice_get list.ports.items.items place)) port.token (what_of faces port) (separator list.ports.separators.items list.closing place)

  -- one after another
  unfoldable pub ports_behind : Ports → ℕ → Passed → List Port → Passed
  ports_behind list place p [] = p
  ports_behind list place p (port ∷ more) = ports_behind list (place + 1) (port_after list place p port) more

  abbrev pub ports_in : Contents → Option Ports → List Port → Contents
  ports_in c None ports = c
  ports_in c (Some list) ports = (ports_behind list 0 (record { contents = c; at = list.opening }) ports).contents

  -- what is said of them is said first
  abbrev pub ports_left : Contents → Header → Listing → HeaderPorts
  ports_left c h found = record { contents = ports_in (noted_all c found.notes) h.ports found.ports; ports = found.ports }

-- The ports of a header, where this is known in the scope as far as its text was read, this of interface ports, and this of each name of a
-- module or an interface: they count the nodes that are evaluated, and then stand in the scope.
abbrev pub with_header_ports : (Contents → Told) → List Word → List PortFace → (List ℕ → Option DesignKind) → Contents → Header → Counted HeaderPorts
with_header_ports known ws faces kinds c h = (header_nodes (known c) kinds h, ports_left ws faces c h (header_ports (known c) kinds h))
