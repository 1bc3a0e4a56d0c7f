-- The modules and interfaces that a definition names, and where it instantiates them (IEEE 1800-2017, 23.3.2 and 25.3).
use Rattle.std.specs.Prelude.{ℕ, Bool, true, false, List, [], ◌++◌, Option, Some, None, if◌then◌else◌, refl}
use Rattle.std.specs.Coded.{Coded, code_by, coded×, coded_list, coded_option}
use Rattle.sve_tree.specs.declared.header.Header.{Header}
use Rattle.sve_tree.specs.declared.token_word.Word.{Word}
use Rattle.sve_tree.specs.contracts.token_word.Word as word
use Rattle.sve_index.specs.declared.whole.Index.{Index}
use Rattle.sve_known.specs.Naming.{name_at}
use Rattle.sve_scope.specs.declared.declared.Declared.{Declared}
use Rattle.sve_spec.specs.declared.spec.FaceGiven.{FaceGiven}
use Rattle.sve_scope.specs.declared.interface.InterfaceNames.{InterfaceNames}
use Rattle.sve_scope.specs.contracts.interface.InterfaceNames as interface
use Rattle.sve_scope.specs.declared.what.PortFace.{PortFace}
use Rattle.sve_scope.specs.contracts.what.PortFace as port_face
use Rattle.sve_scope.specs.declared.what.What.{What}
use Rattle.sve_scope.specs.declared.what.What.TheVariants as is_what
use Rattle.sve_port.specs.declared.interfaces.DesignKind.{DesignKind}
use Rattle.sve_port.specs.declared.interfaces.DesignKind.TheVariants.{Module, Interface}
use Rattle.sve_plan.specs.Plan.{Give, Plan, and_then, each}
use Rattle.sve_look.specs.Questions.{Reply}
use Rattle.sve_design_kinds.specs.declared.kinds.KnownDesign.{KnownDesign}
use Rattle.sve_design_kinds.specs.contracts.kinds.KnownDesign as design
use Rattle.sve_design_kinds.specs.Beginnings.{Tokens, last_before, tokens_code, tokens_of}
use Rattle.sve_design_kinds.specs.Names.{header_names}
use Rattle.sve_scope.specs.Interfaces.{has_modport}
use Rattle.sve_design_kinds.specs.Kinds.{kind_in, with_token}
use Rattle.sve_design_kinds.specs.Faces.{names_in, port_faces}

pub record Designs : Type 0 where
  -- the words of the chunk, and what the names are that stand in it
  pub words : List Word
  pub kinds : List KnownDesign
  -- the tokens with which its instantiations begin
  pub instantiations : Tokens
  -- its own names, where it is an interface, and what its interface ports are connected to
  pub own : Option InterfaceNames
  pub faces : List PortFace

-- they are told apart by all of these
abbrev pub designs_code : Coded Designs
designs_code = code_by (List Word × ((List KnownDesign × Tokens) × (Option InterfaceNames × List PortFace)))
    (coded× (coded_list word.the_row.coded) (coded× (coded× (coded_list design.the_row.coded) tokens_code) (coded× (coded_option interface.the_row.coded) (coded_list port_face.the_row.coded))))
    (λ d. (d.words, ((d.kinds, d.instantiations), (d.own, d.faces)))) (λ p. record { words = p.0; kinds = p.1.0.0; instantiations = p.1.0.1; own = p.1.1.0; faces = p.1.1.1 }) (λ _. refl)

abbrev pub kind_named : Designs → List ℕ → Option DesignKind
kind_named d n = kind_in d.kinds n

-- ---- of which interface an instance is: of what the last instantiation names that begins in front of it

abbrev pub interface_if : Option DesignKind → List ℕ → Option (List ℕ)
interface_if (Some Interface) n = Some n
interface_if (Some Module) n = None
interface_if None n = None

abbrev pub interface_named : Designs → Option (List ℕ) → Option (List ℕ)
interface_named d None = None
interface_named d (Some n) = interface_if (kind_named d n) n

abbrev pub interface_at : Designs → ℕ → Option (List ℕ)
interface_at d token = interface_named d (name_at d.words token)

abbrev pub interface_behind : Designs → Option ℕ → Option (List ℕ)
interface_behind d None = None
interface_behind d (Some token) = interface_at d token

abbrev pub is_instance : What → Bool
is_instance is_what.Instance = true
is_instance what = false

abbrev pub interface_of : Designs → Declared → Option (List ℕ)
interface_of d declared = if is_instance declared.what then interface_behind d (last_before d.instantiations declared.at.token) else None

-- whether that interface has a modport
abbrev pub has_modport_by : Option InterfaceNames → List ℕ → Bool
has_modport_by None modport = false
has_modport_by (Some names) modport = has_modport names modport

abbrev pub has_modport_in : List KnownDesign → Option (List ℕ) → List ℕ → Bool
has_modport_in kinds None modport = false
has_modport_in kinds (Some n) modport = has_modport_by (names_in kinds n) modport

abbrev pub modport_of : Designs → Declared → List ℕ → Bool
modport_of d declared modport = has_modport_in d.kinds (interface_of d declared) modport

-- ---- what the names of a header are, and those with which these instantiations begin

abbrev pub designs_by : List Word → List ℕ → Option InterfaceNames → List FaceGiven → List KnownDesign → Designs
designs_by ws instantiations own given kinds = record { words = ws; kinds = kinds; instantiations = tokens_of instantiations; own = own; faces = port_faces kinds given }

abbrev pub designs_named : Index → List Word → Header → List ℕ → Option InterfaceNames → List FaceGiven → Plan Reply Designs
designs_named index ws h instantiations own given = and_then (each (with_token index ws) (header_names h ++ instantiations) []) (λ kinds. Give (designs_by ws instantiations own given kinds))
