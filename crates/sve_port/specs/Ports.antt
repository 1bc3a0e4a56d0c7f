-- The ports of a header (IEEE 1800-2017, 23.2.2.3 and 25.3).
use Rattle.std.specs.Prelude.{◌≡◌, ℕ, ◌+◌, Bool, true, false, not, if◌then◌else◌, List, [], ◌∷◌, ◌++◌, Option, Some, None}
use Rattle.sve_bytes.specs.declared.direction.Dir.{Dir}
use Rattle.sve_diag.specs.declared.code.Code.{Code}
use Rattle.sve_diag.specs.declared.code.Code.TheVariants.{E06}
use Rattle.sve_diag.specs.declared.diag.Note.{Note}
use Rattle.sve_tree.specs.declared.word.Mark.{Mark}
use Rattle.sve_tree.specs.declared.data_type.Declarator.{Declarator}
use Rattle.sve_tree.specs.declared.data_type.DeclaredType.{DeclaredType}
use Rattle.sve_tree.specs.declared.expression.Dimension.{Dimension}
use Rattle.sve_tree.specs.declared.header.Header.{Header}
use Rattle.sve_tree.specs.declared.header.Port.{Port}
use Rattle.sve_tree.specs.declared.header.PortKind.{PortKind}
use Rattle.sve_tree.specs.declared.header.Ports.{Ports}
use Rattle.sve_types.specs.DataType.{DataType, Form, atom, vector, enumeration, structure, text, form_of_type}
use Rattle.sve_fault.specs.Faults.{argument_of}
use Rattle.sve_scope.specs.declared.what.FaceName.{FaceName}
use Rattle.sve_facts.specs.declared.facts.Port.{Port as PortFact}
use Rattle.sve_type_rule.specs.Outcomes.{Outcome}
use Rattle.sve_env.specs.Told.{Told}
use Rattle.sve_env.specs.Nodes.{dimension_count}
use Rattle.sve_type_of.specs.Nodes.{declared_nodes}
use Rattle.sve_type_of.specs.Written.{is_empty}
use Rattle.sve_type_of.specs.TypeOf.{declared, notes_in, unpacked_over}
use Rattle.sve_port.specs.declared.interfaces.DesignKind.{DesignKind}
use Rattle.sve_port.specs.declared.manner.Manner.{Manner}
use Rattle.sve_port.specs.declared.listing.Listed.{Listed}
use Rattle.sve_port.specs.declared.listing.Listing.{Listing}
use Rattle.sve_port.specs.declared.typed.Mannered.{Mannered}
use Rattle.sve_port.specs.declared.typed.Shaped.{Shaped}
use Rattle.sve_port.specs.Manners.{direction_or, first_manner, is_net, is_typed, manner_of_face}
use Rattle.sve_port.specs.Headings.{Saying, nothing, face, wrong, data_of, heading}

-- ---- in front of the name

-- what a port is, and what is said of it
pub record InFront : Type 0 where
  pub manner : Manner
  pub said : List Note

abbrev pub IsMannered : Mannered → Told → InFront → Type 0
IsMannered r m f = (r.manner ≡ f.manner) × (r.notes ≡ f.said)

abbrev pub note_about : Told → ℕ → Code → Note
note_about m token code = record { file = m.file; chunk = m.chunk; token = token; code = code; arg = argument_of (m.text token) }

abbrev pub modport_name : Told → Option ℕ → Option (List ℕ)
modport_name m (Some token) = argument_of (m.text token)
modport_name m None = None

abbrev pub face_named : Option (List ℕ) → Option (List ℕ) → Manner
face_named (Some interface) modport = manner_of_face (record { interface = interface; modport = modport })
face_named None modport = first_manner

abbrev pub face_manner : Told → ℕ → Option ℕ → Manner
face_manner m interface modport = face_named (argument_of (m.text interface)) (modport_name m modport)

abbrev pub manner_by : Option PortKind → Dir → Bool → DataType → Manner
manner_by kind direction typed t = record { direction = direction; net = is_net kind direction typed; ty = t; face = None }

abbrev pub typed_by : Told → Option PortKind → Dir → Bool → Outcome → InFront
typed_by m kind direction typed o = record { manner = manner_by kind direction typed o.ty; said = notes_in m o.faults }

abbrev pub typed_manner : Told → Dir → Option (Mark Dir) → Option PortKind → DeclaredType → InFront
typed_manner m before direction kind t = typed_by m kind (direction_or direction before) (is_typed t) (declared m t)

abbrev pub mannered : Told → Manner → Option (Mark Dir) → Option PortKind → Saying → InFront
mannered m before direction kind nothing = record { manner = before; said = [] }
mannered m before direction kind (face interface modport) = record { manner = face_manner m interface modport; said = [] }
mannered m before direction kind (wrong interface modport code) = record { manner = face_manner m interface (Some modport); said = note_about m interface code ∷ [] }
mannered m before direction kind (data_of t) = typed_manner m before.direction direction kind t

abbrev pub heading_nodes : Told → Saying → ℕ
heading_nodes m nothing = 0
heading_nodes m (face interface modport) = 0
heading_nodes m (wrong interface modport code) = 0
heading_nodes m (data_of t) = declared_nodes m t

-- ---- behind it

-- the type of a port, and what is said of it
pub record Behind : Type 0 where
  pub ty : DataType
  pub said : List Note

abbrev pub IsShaped : Shaped → Told → Behind → Type 0
IsShaped s m b = (s.ty ≡ b.ty) × (s.notes ≡ b.said)

abbrev pub form_is_text : Form → Bool
form_is_text (atom a s) = false
form_is_text (vector v s) = false
form_is_text (enumeration id of names) = false
form_is_text (structure s ms) = false
form_is_text text = true

abbrev pub is_text : DataType → Bool
is_text t = form_is_text (form_of_type t)

-- No port is a string, and no interface port has dimensions (own): this is said, and the type stays.
abbrev pub is_out_by : Option FaceName → DataType → Bool → Bool
is_out_by (Some interface) t plain = not plain
is_out_by None t plain = is_text t

abbrev pub is_out : Manner → Bool → Bool
is_out manner plain = is_out_by manner.face manner.ty plain

abbrev pub behind_of : Told → Outcome → Behind
behind_of m o = record { ty = o.ty; said = notes_in m o.faults }

abbrev pub shape_of : Told → DataType → List Dimension → Behind
shape_of m t dimensions = if is_empty dimensions then (record { ty = t; said = [] }) else behind_of m (unpacked_over m t dimensions)

abbrev pub shaped_unless : Bool → Told → ℕ → Behind → Behind
shaped_unless false m name b = b
shaped_unless true m name b = record { ty = b.ty; said = b.said ++ note_about m name E06 ∷ [] }

abbrev pub shaped : Told → Manner → Declarator → Behind
shaped m manner declarator = shaped_unless (is_out manner (is_empty declarator.dimensions.items)) m declarator.name (shape_of m manner.ty declarator.dimensions.items)

-- ---- one port more

abbrev pub port_called : Option (List ℕ) → List PortFact → Manner → DataType → ℕ → List PortFact
port_called None ports manner t token = ports
port_called (Some name) ports manner t token = ports ++ (record { name = name; direction = manner.direction; net = manner.net; ty = t; face = manner.face; token = token }) ∷ []

abbrev pub port_named : Told → List PortFact → Manner → DataType → ℕ → List PortFact
port_named m ports manner t token = port_called (argument_of (m.text token)) ports manner t token

abbrev pub listed_by : Told → Listed → ℕ → InFront → Behind → Listed
listed_by m l token f b = record { before = f.manner; ports = port_named m l.ports f.manner b.ty token; notes = (l.notes ++ f.said) ++ b.said }

abbrev pub listed_behind : Told → Listed → Declarator → InFront → Listed
listed_behind m l declarator f = listed_by m l declarator.name f (shaped m f.manner declarator)

abbrev pub ports_in : Option Ports → List Port
ports_in None = []
ports_in (Some list) = list.ports.items.items

abbrev pub none_so_far : Listed
none_so_far = record { before = first_manner; ports = []; notes = [] }

abbrev pub listing_of : Listed → Listing
listing_of l = record { ports = l.ports; notes = l.notes }

module _ (m : Told) (kinds : List ℕ → Option DesignKind) where
  abbrev pub with_port : Listed → Port → Listed
  with_port l port = listed_behind m l port.declarator (mannered m l.before port.direction port.kind (heading m kinds port))

  abbrev pub port_nodes : Port → ℕ
  port_nodes port = heading_nodes m (heading m kinds port) + dimension_count m port.declarator.dimensions.items

  -- ---- all of them

  unfoldable pub with_ports : Listed → List Port → Listed
  with_ports l [] = l
  with_ports l (port ∷ ports) = with_ports (with_port l port) ports

  unfoldable pub nodes_of_ports : List Port → ℕ
  nodes_of_ports [] = 0
  nodes_of_ports (port ∷ ports) = port_nodes port + nodes_of_ports ports

  abbrev pub header_ports : Header → Listing
  header_ports header = listing_of (with_ports none_so_far (ports_in header.ports))

  abbrev pub header_nodes : Header → ℕ
  header_nodes header = nodes_of_ports (ports_in header.ports)
