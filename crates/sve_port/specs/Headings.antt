-- What a port says in front of its name (IEEE 1800-2017, 23.2.2.2, 23.2.2.3 and 25.3).
use Rattle.std.specs.Prelude.{ℕ, Bool, true, false, not, ◌&&◌, if◌then◌else◌, List, Option, Some, None, is_none, Result, Ok, Err}
use Rattle.sve_diag.specs.declared.code.Code.{Code}
use Rattle.sve_diag.specs.declared.code.Code.TheVariants.{N01, N09, N11}
use Rattle.sve_tree.specs.declared.word.ScopedName.{ScopedName}
use Rattle.sve_tree.specs.declared.data_type.DeclaredType.{DeclaredType}
use Rattle.sve_tree.specs.declared.data_type.DeclaredType.TheVariants as is_declared
use Rattle.sve_tree.specs.declared.data_type.TypeRef.{TypeRef}
use Rattle.sve_tree.specs.declared.data_type.TypeRef.TheVariants as is_type_ref
use Rattle.sve_tree.specs.declared.header.Port.{Port}
use Rattle.sve_tree.specs.declared.header.PortType.{PortType}
use Rattle.sve_tree.specs.declared.header.PortType.TheVariants as is_port_type
use Rattle.sve_types.specs.DataType.{DataType}
use Rattle.sve_fault.specs.Faults.{argument_of}
use Rattle.sve_fault.specs.declared.fault.Fault.{Fault}
use Rattle.sve_fault.specs.declared.fault.Said.{Said}
use Rattle.sve_fault.specs.declared.fault.Said.TheVariants as is_said
use Rattle.sve_env.specs.Told.{Told}
use Rattle.sve_formal.specs.Written.{is_written}
use Rattle.sve_type_of.specs.Written.{is_empty}
use Rattle.sve_port.specs.declared.heading.Heading.{Heading}
use Rattle.sve_port.specs.declared.heading.Heading.TheVariants as is_heading
use Rattle.sve_port.specs.declared.interfaces.DesignKind.{DesignKind}
use Rattle.sve_port.specs.declared.interfaces.DesignKind.TheVariants.{Module, Interface}

-- what a port says, wherever it lies in memory
pub data Saying : Type 0 where
  nothing : Saying
  face : ℕ → Option ℕ → Saying
  wrong : ℕ → ℕ → Code → Saying
  data_of : DeclaredType → Saying

abbrev pub meaning_of_heading : Heading → Saying
meaning_of_heading is_heading.Nothing = nothing
meaning_of_heading (is_heading.Face interface modport) = face interface modport
meaning_of_heading (is_heading.Wrong interface modport code) = wrong interface modport code
meaning_of_heading (is_heading.Data t) = data_of t.now

-- with a modport: a name that is not that of an interface is said, and the port is an interface port all the same
abbrev pub face_heading : ℕ → ℕ → Option DesignKind → Saying
face_heading interface modport (Some Interface) = face interface (Some modport)
face_heading interface modport (Some Module) = wrong interface modport N11
face_heading interface modport None = wrong interface modport N09

-- a name by itself
abbrev pub lone_if : Bool → ScopedName → Option ScopedName
lone_if true name = Some name
lone_if false name = None

abbrev pub lone_type : TypeRef → Option ScopedName
lone_type (is_type_ref.Written d) = None
lone_type (is_type_ref.Named n) = lone_if (is_none n.name.scope && is_empty n.dimensions.items) n.name

abbrev pub lone_name : DeclaredType → Option ScopedName
lone_name (is_declared.Explicit t) = lone_type t
lone_name (is_declared.Implicit sign dimensions) = None

abbrev pub is_undeclared_code : Code → Bool
is_undeclared_code N01 = true
is_undeclared_code code = false

abbrev pub is_undeclared : Said → Bool
is_undeclared (is_said.Here code arg) = is_undeclared_code code
is_undeclared is_said.Nothing = false
is_undeclared (is_said.Elsewhere note) = false

abbrev pub is_missing : Result DataType Fault → Bool
is_missing (Ok t) = false
is_missing (Err f) = is_undeclared f.said

-- it stands for nothing
abbrev pub is_unfound : Told → ScopedName → Bool
is_unfound m name = if m.is_type name then false else is_missing (m.ty name)

abbrev pub is_unsaid : Port → Bool
is_unsaid port = is_none port.direction && is_none port.kind

abbrev pub is_interface_kind : Option DesignKind → Bool
is_interface_kind (Some Interface) = true
is_interface_kind (Some Module) = false
is_interface_kind None = false

module _ (m : Told) (kinds : List ℕ → Option DesignKind) where
  abbrev pub kind_of : Option (List ℕ) → Option DesignKind
  kind_of (Some name) = kinds name
  kind_of None = None

  abbrev pub kind_at : ℕ → Option DesignKind
  kind_at token = kind_of (argument_of (m.text token))

  -- a name that is declared is that of a type, and one that is not may be that of an interface
  abbrev pub is_interface : ScopedName → Bool
  is_interface name = if is_unfound m name then is_interface_kind (kind_at name.name) else false

  abbrev pub named_heading : Option ScopedName → DeclaredType → Saying
  named_heading None t = data_of t
  named_heading (Some name) t = if is_interface name then face name.name None else data_of t

  abbrev pub typed_heading : DeclaredType → Saying
  typed_heading t = named_heading (lone_name t) t

  abbrev pub heading_by : PortType → Bool → Saying
  heading_by (is_port_type.Interface interface dot modport) unsaid = face_heading interface modport (kind_at interface)
  heading_by (is_port_type.Data t) unsaid = if unsaid && not (is_written t) then nothing else typed_heading t

  abbrev pub heading : Port → Saying
  heading port = heading_by port.port_type (is_unsaid port)
