-- What the interface ports of a definition are connected to, and the modports in its header that are not there (IEEE 1800-2017, 25.3 and 25.5).
use Rattle.std.specs.Prelude.{ℕ, Bool, true, false, not, if◌then◌else◌, List, [], ◌∷◌, Option, Some, None}
use Rattle.std.specs.List.{flat_map, fold}
use Rattle.sve_table.specs.Tables.{item_of, with_item}
use Rattle.sve_tree.specs.declared.header.Header.{Header}
use Rattle.sve_tree.specs.declared.header.Port.{Port}
use Rattle.sve_tree.specs.declared.header.PortType.{PortType}
use Rattle.sve_tree.specs.declared.header.PortType.TheVariants as is_port_type
use Rattle.sve_tree.specs.declared.token_word.Word.{Word}
use Rattle.sve_spec.specs.declared.spec.FaceGiven.{FaceGiven}
use Rattle.sve_scope.specs.declared.interface.InterfaceNames.{InterfaceNames}
use Rattle.sve_scope.specs.declared.what.PortFace.{PortFace}
use Rattle.sve_scope.specs.Interfaces.{face_port, has_modport}
use Rattle.sve_known.specs.Naming.{name_at}
use Rattle.sve_design_kinds.specs.declared.kinds.KnownDesign.{KnownDesign}
use Rattle.sve_design_kinds.specs.Names.{ports_in}
use Rattle.sve_design_kinds.specs.Kinds.{known_name}

abbrev pub names_of : KnownDesign → Option InterfaceNames
names_of k = k.names

abbrev pub names_by : Option KnownDesign → Option InterfaceNames
names_by None = None
names_by (Some k) = names_of k

-- an interface can be given through a modport that it has, and by itself
abbrev pub has_face : InterfaceNames → Option (List ℕ) → Bool
has_face names None = true
has_face names (Some modport) = has_modport names modport

abbrev pub fitting : Option InterfaceNames → Option (List ℕ) → Option InterfaceNames
fitting None modport = None
fitting (Some names) modport = if has_face names modport then Some names else None

-- whether a modport is there, where one is named
abbrev pub modport_named : InterfaceNames → Option (List ℕ) → Bool
modport_named names None = true
modport_named names (Some modport) = has_modport names modport

-- the name at a token, in an interface, is that of no modport of it
abbrev pub is_missing : Option InterfaceNames → List Word → ℕ → Bool
is_missing None ws token = false
is_missing (Some names) ws token = not (modport_named names (name_at ws token))

-- where this is known of names
module _ (kinds : List KnownDesign) where
  abbrev pub names_in : List ℕ → Option InterfaceNames
  names_in n = names_by (item_of known_name n kinds)

  -- what a port is connected to; through a modport that is not there it is connected to nothing that fits
  abbrev pub port_face : FaceGiven → PortFace
  port_face given = record {
    port = given.port;
    face = record {
      name = record { interface = given.interface; modport = given.modport };
      names = fitting (names_in given.interface) given.modport;
    };
  }

  abbrev pub with_face : List PortFace → FaceGiven → List PortFace
  with_face faces given = with_item face_port faces (port_face given)

  abbrev pub port_faces : List FaceGiven → List PortFace
  port_faces given = fold with_face [] given

  -- ---- the modports that a header names and that are not there, by their tokens

  abbrev pub names_named : Option (List ℕ) → Option InterfaceNames
  names_named None = None
  names_named (Some n) = names_in n

  abbrev pub names_at : List Word → ℕ → Option InterfaceNames
  names_at ws token = names_named (name_at ws token)

  abbrev pub port_type_modports : List Word → PortType → List ℕ
  port_type_modports ws (is_port_type.Data t) = []
  port_type_modports ws (is_port_type.Interface interface dot modport) = if is_missing (names_at ws interface) ws modport then modport ∷ [] else []

  abbrev pub port_modports : List Word → Port → List ℕ
  port_modports ws port = port_type_modports ws port.port_type

  abbrev pub unknown_modports : List Word → Header → List ℕ
  unknown_modports ws h = flat_map (port_modports ws) (ports_in h.ports)
