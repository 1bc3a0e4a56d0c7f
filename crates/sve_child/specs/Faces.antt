-- What the connections of an instance give its interface ports, and the names with one member that stand in them (IEEE 1800-2017, 23.6, 25.3 and 25.5).
use Rattle.std.specs.Prelude.{ℕ, Bool, true, false, if◌then◌else◌, List, [], ◌∷◌, ◌++◌, Option, Some, None, is_some, slice_get}
use Rattle.std.specs.List.{fold}
use Rattle.sve_diag.specs.declared.code.Code.TheVariants.{E11}
use Rattle.sve_fault.specs.declared.fault.Fault.{Fault}
use Rattle.sve_tree.specs.declared.expression.Arg.{Arg}
use Rattle.sve_tree.specs.declared.expression.Expr.{Expr}
use Rattle.sve_tree.specs.declared.item.Instance.{Instance}
use Rattle.sve_tree.specs.declared.token_word.Word.{Word}
use Rattle.sve_spec.specs.declared.spec.FaceGiven.{FaceGiven}
use Rattle.sve_scope.specs.declared.declared.Declared.{Declared}
use Rattle.sve_scope.specs.declared.interface.InterfaceNames.{InterfaceNames}
use Rattle.sve_scope.specs.declared.what.FaceName.{FaceName}
use Rattle.sve_scope.specs.declared.what.What.{What}
use Rattle.sve_scope.specs.declared.what.What.TheVariants as is_what
use Rattle.sve_scope.specs.Interfaces.{has_modport}
use Rattle.sve_scope.specs.Lookup.{Meaning, local, imported, two, nothing, looked_up}
use Rattle.sve_facts.specs.declared.facts.Port.{Port}
use Rattle.sve_known.specs.Packages.{Known}
use Rattle.sve_known.specs.Naming.{name_at, named_fault}
use Rattle.sve_contents.specs.declared.contents.Contents.{Contents}
use Rattle.sve_contents.specs.Uses.{said_if}
use Rattle.sve_connect.specs.declared.connecting.Pair.{Pair}
use Rattle.sve_around.specs.References.{member_behind, reference_of}
use Rattle.sve_child.specs.Connecting.{argument_value, lone, names_in_value}

-- ---- what is declared by the name to which a connection refers

abbrev pub declared_found : Meaning → Option Declared
declared_found (local d) = Some d
declared_found (imported p n through) = None
declared_found (two p q) = None
declared_found nothing = None

abbrev pub declared_by : Contents → Option (List ℕ) → ℕ → Option Declared
declared_by c None token = None
declared_by c (Some n) token = declared_found (looked_up (c.scope ∷ c.around) n token)

abbrev pub referred : List Word → Contents → Option ℕ → Option Declared
referred ws c None = None
referred ws c (Some token) = declared_by c (name_at ws token) token

-- of an expression the name that it is, perhaps with a member; else the port's own name, which is sought at the instance
abbrev pub lender : List Word → Contents → ℕ → List ℕ → Option Expr → Option Declared
lender ws c at port None = declared_by c (Some port) at
lender ws c at port (Some e) = referred ws c (reference_of e)

abbrev pub member_in : Option Expr → Option ℕ
member_in None = None
member_in (Some e) = member_behind e

-- ---- what gives an interface: an instance, and an interface port that is connected to something that fits

abbrev pub lends : What → Bool
lends is_what.Instance = true
lends (is_what.InterfacePort face) = is_some face.names
lends what = false

-- the modport through which an interface port is given
abbrev pub handed_on : What → Option (List ℕ)
handed_on (is_what.InterfacePort face) = face.name.modport
handed_on what = None

abbrev pub names_have : Option InterfaceNames → List ℕ → Bool
names_have None modport = false
names_have (Some names) modport = has_modport names modport

-- ---- what a port is given: through its own modport, else through the one in its connection, else through the one that is handed on

abbrev pub modport_or : Option (List ℕ) → Option (List ℕ) → Option (List ℕ)
modport_or (Some own) other = Some own
modport_or None other = other

abbrev pub given_through : List ℕ → FaceName → Option (List ℕ) → FaceGiven
given_through port own modport = record { port = port; interface = own.interface; modport = modport_or own.modport modport }

abbrev pub and_face : List FaceGiven → Option FaceGiven → List FaceGiven
and_face faces None = faces
and_face faces (Some one) = faces ++ one ∷ []

-- ---- a modport that is not there is said at its token

abbrev pub unless_lent : Bool → ℕ → List ℕ → Option Fault
unless_lent true token modport = None
unless_lent false token modport = Some (named_fault token E11 modport)

-- where these are the modports of the interfaces of instances
module _ (modports : Declared → List ℕ → Bool) where
  abbrev pub lent_by : Declared → What → List ℕ → Bool
  lent_by d is_what.Instance modport = modports d modport
  lent_by d (is_what.InterfacePort face) modport = names_have face.names modport
  lent_by d what modport = false

  abbrev pub has_lent : Declared → List ℕ → Bool
  has_lent d modport = lent_by d d.what modport

  abbrev pub given_named : List ℕ → FaceName → Declared → Option (List ℕ) → Option FaceGiven
  given_named port own d None = None
  given_named port own d (Some modport) = if has_lent d modport then Some (given_through port own (Some modport)) else None

  abbrev pub modport_fault : Declared → ℕ → Option (List ℕ) → Option Fault
  modport_fault d token None = None
  modport_fault d token (Some modport) = unless_lent (has_lent d modport) token modport

module _ (ws : List Word) (modports : Declared → List ℕ → Bool) where
  -- ---- a port

  abbrev pub given_in : List ℕ → FaceName → Declared → Option ℕ → Option FaceGiven
  given_in port own d None = Some (given_through port own (handed_on d.what))
  given_in port own d (Some token) = given_named modports port own d (name_at ws token)

  abbrev pub face_given : List ℕ → FaceName → Declared → Option ℕ → Option FaceGiven
  face_given port own d member = if lends d.what then given_in port own d member else None

  abbrev pub face_by : List ℕ → Option FaceName → Option Declared → Option ℕ → Option FaceGiven
  face_by port None d member = None
  face_by port (Some own) None member = None
  face_by port (Some own) (Some d) member = face_given port own d member

  abbrev pub port_face : Contents → ℕ → Port → Arg → Option FaceGiven
  port_face c at port argument = face_by port.name port.face (lender ws c at port.name (argument_value argument)) (member_in (argument_value argument))

  abbrev pub unknown_modport : Declared → Option ℕ → Option Fault
  unknown_modport d None = None
  unknown_modport d (Some token) = if lends d.what then modport_fault modports d token (name_at ws token) else None

  -- ---- a pair of a port and an argument, and all pairs

  abbrev pub face_at : Contents → ℕ → Option Port → Option Arg → Option FaceGiven
  face_at c at None argument = None
  face_at c at (Some port) None = None
  face_at c at (Some port) (Some argument) = port_face c at port argument

  abbrev pub pair_face : Contents → List Port → Instance → Pair → Option FaceGiven
  pair_face c ports i pair = face_at c i.name (slice_get ports pair.port) (slice_get i.connections.arguments.items.items pair.argument)

  abbrev pub with_pair_face : Contents → List Port → Instance → List FaceGiven → Pair → List FaceGiven
  with_pair_face c ports i faces pair = and_face faces (pair_face c ports i pair)

  abbrev pub faces_given : Contents → List Port → Instance → List Pair → List FaceGiven
  faces_given c ports i pairs = fold (with_pair_face c ports i) [] pairs

  -- ---- connected to an interface port the member behind a name is a modport, which is said where it is not there

  abbrev pub lender_fault : Option Declared → Option ℕ → Option Fault
  lender_fault None member = None
  lender_fault (Some d) member = unknown_modport d member

  abbrev pub modport_said : Contents → ℕ → List ℕ → Option Expr → Contents
  modport_said c at port value = said_if c (lender_fault (lender ws c at port value) (member_in value))

-- connected to another port a name with one member is used as elsewhere
abbrev pub lone_by : List Known → List Word → Contents → Expr → Option ℕ → Contents
lone_by packages ws c e None = c
lone_by packages ws c e (Some token) = names_in_value packages ws c e

abbrev pub lone_used : List Known → List Word → Contents → Option Expr → Contents
lone_used packages ws c None = c
lone_used packages ws c (Some e) = lone_by packages ws c e (lone e)

module _ (packages : List Known) (ws : List Word) (modports : Declared → List ℕ → Bool) where
  abbrev pub said_by : Option FaceName → Contents → ℕ → List ℕ → Option Expr → Contents
  said_by (Some own) c at port value = modport_said ws modports c at port value
  said_by None c at port value = lone_used packages ws c value

  abbrev pub port_said : ℕ → Contents → Port → Arg → Contents
  port_said at c port argument = said_by port.face c at port.name (argument_value argument)

  abbrev pub said_at : ℕ → Contents → Option Port → Option Arg → Contents
  said_at at c None argument = c
  said_at at c (Some port) None = c
  said_at at c (Some port) (Some argument) = port_said at c port argument

  abbrev pub pair_said : List Port → Instance → Contents → Pair → Contents
  pair_said ports i c pair = said_at i.name c (slice_get ports pair.port) (slice_get i.connections.arguments.items.items pair.argument)

  abbrev pub pairs_said : List Port → Instance → Contents → List Pair → Contents
  pairs_said ports i c pairs = fold (pair_said ports i) c pairs
