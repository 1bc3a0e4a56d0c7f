-- What modules and interfaces are, by their names, as a plan (IEEE 1800-2017, 3.13, clauses 23 and 25).
use Rattle.std.specs.Prelude.{ℕ, List, Option, Some, None, is_some, option_map, if◌then◌else◌}
use Rattle.sve_table.specs.Tables.{item_of, with_item}
use Rattle.sve_tree.specs.declared.element.Design.{Design}
use Rattle.sve_tree.specs.declared.element.Design.TheVariants as is_design
use Rattle.sve_tree.specs.declared.element.Element.{Element}
use Rattle.sve_tree.specs.declared.token_word.Word.{Word}
use Rattle.sve_index.specs.declared.def.Def.{Def}
use Rattle.sve_index.specs.declared.whole.Index.{Index}
use Rattle.sve_index.specs.Defs.{def_name}
use Rattle.sve_known.specs.Naming.{name_at}
use Rattle.sve_scope.specs.declared.interface.InterfaceNames.{InterfaceNames}
use Rattle.sve_iface.specs.Names.{interface_names}
use Rattle.sve_port.specs.declared.interfaces.DesignKind.{DesignKind}
use Rattle.sve_port.specs.declared.interfaces.DesignKind.TheVariants.{Module, Interface}
use Rattle.sve_plan.specs.Plan.{Give, Plan, and_then, ask}
use Rattle.sve_look.specs.Questions.{ElementOf, Reply}
use Rattle.sve_design_kinds.specs.declared.kinds.KnownDesign.{KnownDesign}

-- the names of a definition itself, where it is an interface
abbrev pub names_of_design : List Word → Design → Option InterfaceNames
names_of_design ws (is_design.Module keyword definition) = None
names_of_design ws (is_design.Interface keyword definition) = Some (interface_names ws definition.value)
names_of_design ws (is_design.Package unit) = None

abbrev pub names_in_element : List Word → Option Design → Option InterfaceNames
names_in_element ws None = None
names_in_element ws (Some design) = names_of_design ws design

abbrev pub own_names : Element → Option InterfaceNames
own_names e = names_in_element e.words.items e.design

-- ---- what is known of names: of an interface also its own names

abbrev pub known_name : KnownDesign → List ℕ
known_name k = k.name

abbrev pub kind_by : Option InterfaceNames → DesignKind
kind_by None = Module
kind_by (Some names) = Interface

abbrev pub known_kind : KnownDesign → DesignKind
known_kind k = kind_by k.names

abbrev pub kind_in : List KnownDesign → List ℕ → Option DesignKind
kind_in known n = option_map known_kind (item_of known_name n known)

-- ---- one more; a package is neither a module nor an interface, nor is a chunk that is refused

abbrev pub with_names : List KnownDesign → List ℕ → Option InterfaceNames → List KnownDesign
with_names known n names = with_item known_name known (record { name = n; names = names })

abbrev pub with_design : List KnownDesign → List ℕ → List Word → Design → List KnownDesign
with_design known n ws (is_design.Module keyword definition) = with_names known n None
with_design known n ws (is_design.Interface keyword definition) = with_names known n (Some (interface_names ws definition.value))
with_design known n ws (is_design.Package unit) = known

abbrev pub with_design_in : List KnownDesign → List ℕ → List Word → Option Design → List KnownDesign
with_design_in known n ws None = known
with_design_in known n ws (Some design) = with_design known n ws design

abbrev pub with_design_of : List KnownDesign → List ℕ → Element → List KnownDesign
with_design_of known n e = with_design_in known n e.words.items e.design

abbrev pub with_element : List KnownDesign → List ℕ → Option Element → List KnownDesign
with_element known n None = known
with_element known n (Some e) = with_design_of known n e

-- a name more: its definition is asked for, where the design has one of it, and once
abbrev pub definition_asked : List ℕ → Def → List KnownDesign → Plan Reply (List KnownDesign)
definition_asked n def known = and_then (ask (ElementOf def.file def.chunk)) (λ e. Give (with_element known n e))

abbrev pub asked_at : List ℕ → Option Def → List KnownDesign → Plan Reply (List KnownDesign)
asked_at n None known = Give known
asked_at n (Some def) known = definition_asked n def known

abbrev pub sought : Index → List KnownDesign → List ℕ → Option Def
sought index known n = if is_some (item_of known_name n known) then None else item_of def_name n index.definitions

abbrev pub with_name : Index → Option (List ℕ) → List KnownDesign → Plan Reply (List KnownDesign)
with_name index None known = Give known
with_name index (Some n) known = asked_at n (sought index known n) known

-- the name at a token
abbrev pub with_token : Index → List Word → ℕ → List KnownDesign → Plan Reply (List KnownDesign)
with_token index ws token known = with_name index (name_at ws token) known
