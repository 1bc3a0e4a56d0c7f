-- The tokens at which a definition may name modules and interfaces (IEEE 1800-2017, 23.3.2 and 25.3).
use Rattle.std.specs.Prelude.{ℕ, List, [], ◌∷◌, Option, Some, None}
use Rattle.std.specs.List.{flat_map}
use Rattle.sve_tree.specs.declared.word.PackageScope.{PackageScope}
use Rattle.sve_tree.specs.declared.data_type.DeclaredType.{DeclaredType}
use Rattle.sve_tree.specs.declared.data_type.DeclaredType.TheVariants as is_declared
use Rattle.sve_tree.specs.declared.data_type.TypeRef.{TypeRef}
use Rattle.sve_tree.specs.declared.data_type.TypeRef.TheVariants as is_type_ref
use Rattle.sve_tree.specs.declared.header.Header.{Header}
use Rattle.sve_tree.specs.declared.header.Port.{Port}
use Rattle.sve_tree.specs.declared.header.Ports.{Ports}
use Rattle.sve_tree.specs.declared.header.PortType.{PortType}
use Rattle.sve_tree.specs.declared.header.PortType.TheVariants as is_port_type
use Rattle.sve_tree.specs.declared.element.Element.{Element}
use Rattle.sve_mention.specs.declared.mention.Mention.{Mention}
use Rattle.sve_mention.specs.declared.mention.Mention.TheVariants.{Instance, EndLabel}
use Rattle.sve_mention.specs.InElements.{element_mentions}

-- ---- in a header: what a port has in place of a type

-- a name of a package is that of no interface
abbrev pub plain_name : Option PackageScope → ℕ → List ℕ
plain_name None token = token ∷ []
plain_name (Some scope) token = []

abbrev pub type_ref_names : TypeRef → List ℕ
type_ref_names (is_type_ref.Written d) = []
type_ref_names (is_type_ref.Named n) = plain_name n.name.scope n.name.name

abbrev pub declared_type_names : DeclaredType → List ℕ
declared_type_names (is_declared.Explicit t) = type_ref_names t
declared_type_names (is_declared.Implicit sign dimensions) = []

abbrev pub port_type_names : PortType → List ℕ
port_type_names (is_port_type.Data t) = declared_type_names t
port_type_names (is_port_type.Interface interface dot modport) = interface ∷ []

abbrev pub port_names : Port → List ℕ
port_names port = port_type_names port.port_type

abbrev pub ports_in : Option Ports → List Port
ports_in None = []
ports_in (Some list) = list.ports.items.items

abbrev pub header_names : Header → List ℕ
header_names h = flat_map port_names (ports_in h.ports)

-- ---- behind it: what its instantiations begin with, selected or not

abbrev pub instantiated : Mention → List ℕ
instantiated (Instance definition) = definition ∷ []
instantiated (EndLabel name label) = []

abbrev pub instantiations : Element → List ℕ
instantiations e = flat_map instantiated (element_mentions e)
