-- Items of a body that hold no other items, as plans (IEEE 1800-2017, 6.10, 9.2, 10.3, 20.11, 23.3 and 25.5). What counts is own.
use Rattle.std.specs.Prelude.{ℕ, Bool, true, if◌then◌else◌, codes, bytes_eq, List, [], ◌∷◌, ◌++◌, length, sum_by, Option, Some, None}
use Rattle.std.specs.List.{flat_map, fold}
use Rattle.std.specs.Option.{is_none}
use Rattle.sve_diag.specs.declared.code.Code.TheVariants.{E17}
use Rattle.sve_fault.specs.declared.fault.Fault.{Fault}
use Rattle.sve_fault.specs.Faults.{fault_about}
use Rattle.sve_tree.specs.declared.element.Element.{Element}
use Rattle.sve_tree.specs.declared.header.Header.{Header}
use Rattle.sve_tree.specs.declared.item.EventControl.{EventControl}
use Rattle.sve_tree.specs.declared.item.Item.{Item}
use Rattle.sve_tree.specs.declared.item.Item.TheVariants as is_item
use Rattle.sve_tree.specs.declared.item.Instance.{Instance}
use Rattle.sve_tree.specs.declared.item.Instantiation.{Instantiation}
use Rattle.sve_tree.specs.declared.item.NetAssignment.{NetAssignment}
use Rattle.sve_tree.specs.declared.statement.Stmt.{Stmt}
use Rattle.sve_spec.specs.declared.spec.Spec.{Spec}
use Rattle.sve_use.specs.Use.{Called, Dotted, Named, Use}
use Rattle.sve_use.specs.Uses.{uses}
use Rattle.sve_use.specs.LeftSides.{left_side_uses}
use Rattle.sve_statement_use.specs.Steps.{Does, Step, Uses, happens}
use Rattle.sve_simple_use.specs.Simple.{event_uses}
use Rattle.sve_statement_use.specs.Statements.{statement_steps}
use Rattle.sve_item_names.specs.Declarations.{parameters_of, ports_of}
use Rattle.sve_plan.specs.Plan.{Counted, Give, Plan, Spend, and_then, ask, each, paid}
use Rattle.sve_look.specs.Questions.{ElementOf, IndexOf, NetAt, PortsOf, Reply}
use Rattle.sve_body.specs.declared.place.Place.{Place}
use Rattle.sve_body.specs.Steps.{Steps}

-- what costs something and asks nothing
abbrev pub done : {S : Type 0} → Counted S → Plan Reply S
done counted = paid counted Give

abbrev pub say_all : {S : Type 0} → Steps S → List Fault → S → S
say_all steps faults s = fold (λ t fault. steps.say fault t) s faults

abbrev pub use_all : {S : Type 0} → Steps S → List Use → S → S
use_all steps names s = fold (λ t name. steps.use_name name t) s names

-- ---- the header (23.2)

-- its parameters count one each, and then what their values cost; so do its ports
abbrev pub header : {S : Type 0} → Steps S → Header → S → Plan Reply S
header steps h s = Spend (length (parameters_of h.parameters)) (paid (steps.header_parameters h (steps.header_imports h s)) (λ t. Spend (length (ports_of h.ports)) (done (steps.header_ports h t))))

-- ---- names that may make nets (6.10)

-- a plain name by itself; a function that is called, a name of a package and the first of a dotted name make none
abbrev pub plain_tokens : Use → List ℕ
plain_tokens (Named name) = if is_none name.scope then name.name ∷ [] else []
plain_tokens (Called name) = []
plain_tokens (Dotted name postfixes) = []

-- A name that nothing declares makes a net of the net type that is in force there; where that is none, it does not.
abbrev pub implied : {S : Type 0} → Steps S → ℕ → S → Plan Reply S
implied steps token s = if steps.is_declared token s then Give s else and_then (ask (NetAt (steps.told s).file (steps.told s).chunk token)) (λ type. Give (steps.implicit_net token type s))

abbrev pub assignment_uses : NetAssignment → List Use
assignment_uses a = left_side_uses a.left ++ uses a.value.value

-- A continuous assignment: plain names on its left make nets where nothing declares them, and then all its names are used (10.3).
abbrev pub assignment : {S : Type 0} → Steps S → NetAssignment → S → Plan Reply S
assignment steps a s = and_then (each (implied steps) (flat_map plain_tokens (left_side_uses a.left)) s) (λ t. Give (use_all steps (assignment_uses a) t))

-- ---- procedures (9.2)

-- what evaluating in a step of statements costs: a use evaluates nothing
abbrev pub step_nodes : {S : Type 0} → Steps S → S → Step → ℕ
step_nodes steps s (Uses name) = 0
step_nodes steps s (Does local) = steps.local_nodes local s

-- A statement costs what its steps cost, over what is known where it begins. Then names are used, and scopes open and close, step by step.
abbrev pub statement : {S : Type 0} → Steps S → Stmt → S → Counted S
statement steps stmt s = (sum_by (step_nodes steps s) (statement_steps stmt), fold (happens (λ t name. steps.use_name name t) (λ t local. steps.local local t)) s (statement_steps stmt))

abbrev pub events : {S : Type 0} → Steps S → EventControl → S → S
events steps control s = use_all steps (event_uses control) s

-- ---- system tasks (20.11): what `$error` and `$fatal` say is said where they are selected, and others have no effect (own)

abbrev pub is_failing : List ℕ → Bool
is_failing name = if bytes_eq name (codes "$error") then true else bytes_eq name (codes "$fatal")

abbrev pub system_task : {S : Type 0} → Steps S → ℕ → S → S
system_task steps token s = if is_failing ((steps.told s).text token) then steps.say (fault_about token E17 ((steps.told s).text token)) s else s

-- ---- items that ask nothing

-- what an item costs and does that holds no other items and makes neither nets nor children
abbrev pub plain_item : {S : Type 0} → Steps S → Item → S → Counted S
plain_item steps (is_item.Import declaration) s = (0, steps.import declaration.value s)
plain_item steps (is_item.Parameters declaration) s = steps.parameters declaration.value s
plain_item steps (is_item.Typedef declaration) s = steps.typedef declaration.value s
plain_item steps (is_item.Function function) s = steps.function function.value s
plain_item steps (is_item.Genvars declaration) s = (0, fold (λ t name. steps.genvar name t) s declaration.value.names.items.items)
plain_item steps (is_item.Net declaration) s = steps.nets declaration.value s
plain_item steps (is_item.Variable declaration) s = steps.variables declaration.value s
plain_item steps (is_item.Data declaration) s = steps.data_of_type declaration.value s
plain_item steps (is_item.Clocked procedure) s = statement steps procedure.value.statement.value (events steps procedure.value.control s)
plain_item steps (is_item.Plain procedure) s = statement steps procedure.value.statement.value s
plain_item steps (is_item.Modports declaration) s = (0, fold (λ t modport. steps.modport modport t) s declaration.value.modports.items.items)
plain_item steps (is_item.SystemTask task) s = (0, system_task steps task.value.name s)
plain_item steps item s = (0, s)

-- ---- instances (23.3)

-- one without a specialization: names in its connections make nets and are used, and it is no child
abbrev pub unknown_instance : {S : Type 0} → Steps S → Instance → S → Plan Reply S
unknown_instance steps i s = and_then (each (implied steps) (steps.unknown_tokens i s) s) (λ t. Give (steps.unknown i t))

-- the ports of a specialization are asked for, names in its connections make nets and are used, and it is a child
abbrev pub special_instance : {S : Type 0} → Steps S → Instance → Spec → S → Plan Reply S
special_instance steps i spec s = and_then (ask (PortsOf spec)) (λ ports. and_then (each (implied steps) (steps.connection_tokens ports i s) s) (λ t. Give (steps.child spec ports i t)))

abbrev pub known_instance : {S : Type 0} → Steps S → Instance → Option Spec → S → Plan Reply S
known_instance steps i None s = unknown_instance steps i s
known_instance steps i (Some spec) s = special_instance steps i spec s

abbrev pub instance : {S : Type 0} → Steps S → ℕ → Option Element → Instance → S → Plan Reply S
instance steps definition element i s = known_instance steps i (steps.specialized definition element i s).0 (steps.specialized definition element i s).1

-- the text of the definition is asked for, once for all instances
abbrev pub defined_instances : {S : Type 0} → Steps S → Instantiation → Place → S → Plan Reply S
defined_instances steps i place s = and_then (ask (ElementOf place.file place.chunk)) (λ element. each (instance steps i.definition element) i.instances.items.items s)

abbrev pub undefined_instances : {S : Type 0} → Steps S → Instantiation → S → Plan Reply S
undefined_instances steps i s = each (unknown_instance steps) i.instances.items.items (steps.no_definition i.definition s)

abbrev pub instances_of : {S : Type 0} → Steps S → Instantiation → Option Place → S → Plan Reply S
instances_of steps i None s = undefined_instances steps i s
instances_of steps i (Some place) s = defined_instances steps i place s

abbrev pub sought_instances : {S : Type 0} → Steps S → Instantiation → S → Plan Reply S
sought_instances steps i s = and_then (ask IndexOf) (λ index. instances_of steps i (steps.definition_at index i.definition s) s)

-- overrides are paid once, before anything is asked for
abbrev pub instances : {S : Type 0} → Steps S → Instantiation → S → Plan Reply S
instances steps i s = paid (steps.overrides i.overrides s) (sought_instances steps i)
