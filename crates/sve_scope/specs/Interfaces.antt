-- The names of interfaces, and which of them are given through a modport (IEEE 1800-2017, 25.3 and 25.5).
use Rattle.std.specs.Prelude.{ℕ, Bool, false, List, Option, Some, None, is_some}
use Rattle.sve_table.specs.Tables.{item_of}
use Rattle.sve_scope.specs.declared.interface.InterfaceNames.{InterfaceNames}
use Rattle.sve_scope.specs.declared.interface.ModportNames.{ModportNames}
use Rattle.sve_scope.specs.declared.what.PortFace.{PortFace}
use Rattle.sve_scope.specs.Scopes.{itself}

-- what is found in a table by a name
abbrev pub modport_name : ModportNames → List ℕ
modport_name m = m.name

abbrev pub face_port : PortFace → List ℕ
face_port f = f.port

abbrev pub is_among : List ℕ → List (List ℕ) → Bool
is_among n names = is_some (item_of itself n names)

abbrev pub modport_named : InterfaceNames → List ℕ → Option ModportNames
modport_named i n = item_of modport_name n i.modports

abbrev pub has_modport : InterfaceNames → List ℕ → Bool
has_modport i n = is_some (modport_named i n)

-- a modport that is not there gives nothing
abbrev pub given_by : Option ModportNames → List ℕ → Bool
given_by None member = false
given_by (Some m) member = is_among member m.members

abbrev pub gives_through : InterfaceNames → List ℕ → List ℕ → Bool
gives_through i modport member = given_by (modport_named i modport) member

-- without a modport all names are given
abbrev pub gives : InterfaceNames → Option (List ℕ) → List ℕ → Bool
gives i None member = is_among member i.all
gives i (Some modport) member = gives_through i modport member
