-- The answers about an instance (own).
use Rattle.std.specs.Prelude.{ℕ, Option, Some, None, List, [], ◌∷◌, ◌++◌, codes, map}
use Rattle.sve_bytes.specs.PathText.{name_text, path_text}
use Rattle.sve_types.specs.TypeText.{text_of}
use Rattle.sve_diag.specs.declared.diag.Place.{Place}
use Rattle.sve_scope.specs.declared.what.FaceName.{FaceName}
use Rattle.sve_facts.specs.declared.facts.Child.{Child}
use Rattle.sve_facts.specs.declared.facts.Facts.{Facts}
use Rattle.sve_facts.specs.declared.facts.ParameterValue.{ParameterValue}
use Rattle.sve_facts.specs.declared.facts.Port.{Port}
use Rattle.sve_listing.specs.Lists.{listed, on_one_line}
use Rattle.sve_value_text.specs.ValueText.{value_text}
use Rattle.sve_facts_lines.specs.Texts.{at_text, direction_word}

-- `module <name>`
abbrev pub module_text : List ℕ → List ℕ
module_text definition = codes "module " ++ name_text definition

-- `param <name> <value>`
abbrev pub param_text : ParameterValue → List ℕ
param_text p = codes "param " ++ name_text p.name ++ 32 ∷ value_text p.value

-- `<interface>`, or `<interface>.<modport>`
abbrev pub modport_text : Option (List ℕ) → List ℕ
modport_text None = []
modport_text (Some modport) = 46 ∷ name_text modport

abbrev pub face_text : FaceName → List ℕ
face_text f = name_text f.interface ++ modport_text f.modport

-- `port <interface>[.<modport>] <name>`
abbrev pub face_port_text : List ℕ → FaceName → List ℕ
face_port_text name face = codes "port " ++ face_text face ++ 32 ∷ name_text name

-- `port <direction> <name> <type>`
abbrev pub data_port_text : Port → List ℕ
data_port_text p = codes "port " ++ direction_word p.direction ++ 32 ∷ name_text p.name ++ 32 ∷ text_of p.ty

abbrev pub port_text_of : Option FaceName → Port → List ℕ
port_text_of (Some face) p = face_port_text p.name face
port_text_of None p = data_port_text p

abbrev pub port_text : Port → List ℕ
port_text p = port_text_of p.face p

-- `child <relative path> <module>`
abbrev pub child_text : Child → List ℕ
child_text c = codes "child " ++ path_text c.path.steps ++ 32 ∷ name_text c.spec.definition

-- the module, the place, the parameters, the ports and the instances in the body
abbrev pub instance_texts : List ℕ → Place → List ℕ → Facts → List (List ℕ)
instance_texts definition place text facts =
    (module_text definition ∷ at_text place text ∷ []) ++ map param_text facts.params ++ map port_text facts.ports ++ map child_text facts.children

abbrev pub instance_lines : List ℕ → Place → List ℕ → Facts → List (List ℕ)
instance_lines definition place text facts = listed on_one_line (instance_texts definition place text facts)
