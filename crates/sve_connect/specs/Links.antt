-- What the arguments of an instance connect, in their order, and what is said of them (IEEE 1800-2017, 23.3.2, 25.3 and 6.10).
use Rattle.std.specs.Prelude.{ℕ, ◌+◌, ◌-◌, ◌^◌, min, nat_le, nat_eq, Bool, true, false, ◌&&◌, not, if◌then◌else◌, List, [], ◌∷◌, ◌++◌, length, set, slice_get, map, Option, Some, None, is_none}
use Rattle.sve_diag.specs.declared.code.Code.{Code}
use Rattle.sve_diag.specs.declared.code.Code.TheVariants.{E07, E08, E10}
use Rattle.sve_table.specs.Tables.{item_of, with_item}
use Rattle.sve_tree.specs.declared.expression.Arg.{Arg}
use Rattle.sve_tree.specs.declared.expression.Arg.TheVariants as is_arg
use Rattle.sve_tree.specs.declared.expression.Expr.{Expr}
use Rattle.sve_form.specs.Tokens.{token_of}
use Rattle.sve_scope.specs.declared.what.FaceName.{FaceName}
use Rattle.sve_facts.specs.declared.facts.Port.{Port}
use Rattle.sve_connect.specs.declared.linked.Link.{Link}
use Rattle.sve_connect.specs.declared.linked.Link.TheVariants as is_link
use Rattle.sve_connect.specs.declared.linked.Linking.{Linking}
use Rattle.sve_connect.specs.declared.linked.Star.{Star}
use Rattle.sve_connect.specs.declared.linking.Means.{Means}
use Rattle.sve_connect.specs.declared.linking.Means.TheVariants as is_means
use Rattle.sve_connect.specs.declared.ports.PortName.{PortName}
use Rattle.sve_connect.specs.Seen.{Seen}
use Rattle.sve_connect.specs.Fitting.{is_interface, misfit}

-- ---- ports by their names: of two ports of one name the first counts

abbrev pub port_name : PortName → List ℕ
port_name p = p.name

unfoldable pub named_ports : ℕ → List Port → List PortName → List PortName
named_ports place [] names = names
named_ports place (port ∷ ports) names = named_ports (place + 1) ports (with_item port_name names (record { name = port.name; place = place }))

abbrev pub place_in : Option PortName → Option ℕ
place_in None = None
place_in (Some port) = Some port.place

abbrev pub place_of : List PortName → Option (List ℕ) → Option ℕ
place_of names None = None
place_of names (Some name) = place_in (item_of port_name name names)

-- ---- what each port is connected to

abbrev pub free_link : Port → Link
free_link port = is_link.Free

abbrev pub free_links : List Port → List Link
free_links ports = map free_link ports

abbrev pub no_linking : List Port → Linking
no_linking ports = record { links = free_links ports; form = None; next = 0; star = None; nets = []; notes = [] }

abbrev pub is_free_link : Option Link → Bool
is_free_link (Some is_link.Free) = true
is_free_link (Some is_link.Nothing) = false
is_free_link (Some (is_link.To place)) = false
is_free_link (Some is_link.Wrong) = false
is_free_link None = false

abbrev pub is_free : List Link → ℕ → Bool
is_free links place = is_free_link (slice_get links place)

abbrev pub linked : Linking → ℕ → Link → Linking
linked l place link = if nat_le (length l.links) place then l else record l { links = set l.links place link }

abbrev pub counted : Linking → Linking
counted l = record l { next = min (l.next + 1) (2 ^ 64 - 1) }

abbrev pub in_form : Option Bool → Bool → Bool
in_form (Some true) by_order = by_order
in_form (Some false) by_order = not by_order
in_form None by_order = true

abbrev pub with_form : Linking → Bool → Linking
with_form l by_order = record l { form = Some by_order }

abbrev pub with_star : Linking → Star → Linking
with_star l star = record l { star = Some star }

-- what is connected, wherever it lies in memory
pub data Connecting : Type 0 where
  expression : Expr → Connecting
  own_name : ℕ → Connecting
  nothing : Connecting

abbrev pub means_of : Means → Connecting
means_of (is_means.Expression e) = expression e.now
means_of (is_means.OwnName token) = own_name token
means_of is_means.Nothing = nothing

abbrev pub port_at : List Port → Bool → ℕ → Option Port
port_at ports true place = slice_get ports place
port_at ports false place = None

abbrev pub free_port : List Port → Linking → Option ℕ → Option Port
free_port ports l None = None
free_port ports l (Some place) = port_at ports (is_free l.links place) place

abbrev pub place_or_first : Option ℕ → ℕ
place_or_first None = 0
place_or_first (Some place) = place

module _ (s : Seen) where
  -- a note more, at a token of the chunk of the instance
  abbrev pub noted : Linking → ℕ → Code → Option (List ℕ) → Linking
  noted l token code arg = record l { notes = l.notes ++ (record { file = s.file; chunk = s.chunk; token = token; code = code; arg = arg }) ∷ [] }

  abbrev pub with_nets : Linking → Expr → Linking
  with_nets l e = record l { nets = l.nets ++ s.nets e }

  -- ---- a port and what is connected to it

  abbrev pub face_linked : Bool → Linking → Port → ℕ → ℕ → Expr → Linking
  face_linked true l port at place e = linked l at (is_link.To place)
  face_linked false l port at place e = noted (linked l at is_link.Wrong) (token_of e) E10 (Some port.name)

  abbrev pub linked_by_face : Option FaceName → Linking → Port → ℕ → ℕ → Expr → Linking
  linked_by_face None l port at place e = with_nets (linked l at (is_link.To place)) e
  linked_by_face (Some face) l port at place e = face_linked (is_interface face.interface (s.interface e)) l port at place e

  abbrev pub expression_linked : Linking → Port → ℕ → ℕ → Expr → Linking
  expression_linked l port at place e = linked_by_face port.face l port at place e

  abbrev pub linked_unless : Option Code → Linking → Port → ℕ → ℕ → ℕ → Linking
  linked_unless None l port at place token = linked l at (is_link.To place)
  linked_unless (Some code) l port at place token = noted (linked l at is_link.Wrong) token code (Some port.name)

  abbrev pub name_linked : Linking → Port → ℕ → ℕ → ℕ → Linking
  name_linked l port at place token = linked_unless (misfit port (s.thing port.name)) l port at place token

  abbrev pub taken : Linking → Port → ℕ → ℕ → Connecting → Linking
  taken l port at place (expression e) = expression_linked l port at place e
  taken l port at place (own_name token) = name_linked l port at place token
  taken l port at place nothing = linked l at is_link.Nothing

  -- ---- an argument that connects no port

  abbrev pub left_out : Linking → Connecting → Linking
  left_out l (expression e) = with_nets l e
  left_out l (own_name token) = l
  left_out l nothing = l

  abbrev pub refused : Linking → ℕ → Code → Option (List ℕ) → Connecting → Linking
  refused l token code arg means = left_out (noted l token code arg) means

  -- ---- by name

  abbrev pub to_port : Option Port → Linking → Option ℕ → Option (List ℕ) → ℕ → ℕ → Connecting → Linking
  to_port (Some port) l at called name place means = taken l port (place_or_first at) place means
  to_port None l at called name place means = refused l name E07 called means

  abbrev pub by_name : List Port → List PortName → Linking → ℕ → ℕ → Connecting → Linking
  by_name ports names l name place means = to_port (free_port ports l (place_of names (s.name name))) l (place_of names (s.name name)) (s.name name) name place means

  abbrev pub named : List Port → List PortName → Linking → ℕ → ℕ → Connecting → Linking
  named ports names l name place means = if in_form l.form false then by_name ports names (with_form l false) name place means else refused l name E08 None means

  -- ---- by order: the first in excess is said

  abbrev pub in_place : Option Port → List Port → Linking → ℕ → ℕ → ℕ → Connecting → Linking
  in_place (Some port) ports l at token place means = taken l port at place means
  in_place None ports l at token place means = if nat_eq at (length ports) then refused l token E08 None means else left_out l means

  abbrev pub by_order : List Port → Linking → ℕ → ℕ → Connecting → Linking
  by_order ports l token place means = in_place (slice_get ports l.next) ports (counted l) l.next token place means

  abbrev pub ordered : List Port → Linking → ℕ → ℕ → Connecting → Linking
  ordered ports l token place means = if in_form l.form true then by_order ports (with_form l true) token place means else refused l token E08 None means

  -- ---- all other ports by their names, once and not with arguments by order

  abbrev pub starred : Linking → Star → Linking
  starred l star = if in_form l.form false && is_none l.star then with_star (with_form l false) star else noted l star.token E08 None

  -- ---- one argument more, with the token behind it

  unfoldable pub with_argument : List Port → List PortName → Linking → ℕ → ℕ → Arg → Linking
  with_argument ports names l place behind (is_arg.Wildcard token) = starred l (record { token = token; place = place })
  with_argument ports names l place behind (is_arg.Implicit dot name) = named ports names l name place (own_name name)
  with_argument ports names l place behind (is_arg.Unconnected dot name opening closing) = named ports names l name place nothing
  with_argument ports names l place behind (is_arg.Named' dot name opening _ value closing) = named ports names l name place (expression value)
  with_argument ports names l place behind (is_arg.Ordered' _ value) = ordered ports l (token_of value) place (expression value)
  with_argument ports names l place behind is_arg.Empty = ordered ports l behind place nothing
