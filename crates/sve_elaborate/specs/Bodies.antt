-- The elaboration of a specialization, as a plan (IEEE 1800-2017, 3.12.1, 23.10, clauses 23, 26 and 27).
use Rattle.std.specs.Prelude.{◌≡◌, ℕ, List, [], Option, Some, None, Result, Ok, Err}
use Rattle.sve_io.specs.declared.halt.Halt.{Halt}
use Rattle.sve_io.specs.declared.halt.Halt.TheVariants as is_halt
use Rattle.sve_table.specs.Tables.{item_of}
use Rattle.sve_tree.specs.declared.element.Element.{Element}
use Rattle.sve_tree.specs.declared.element.Definition.{Definition}
use Rattle.sve_tree.specs.declared.item.Item.{Item}
use Rattle.sve_tree.specs.declared.token_word.Word.{Word}
use Rattle.sve_tree.specs.Elements.{element_definition}
use Rattle.sve_index.specs.declared.def.Def.{Def}
use Rattle.sve_index.specs.declared.whole.Index.{Index}
use Rattle.sve_index.specs.Defs.{def_name}
use Rattle.sve_spec.specs.declared.spec.Spec.{Spec}
use Rattle.sve_spec.specs.declared.given.Given.{Given}
use Rattle.sve_facts.specs.declared.facts.Facts.{Facts}
use Rattle.sve_facts.specs.Facts.{no_facts}
use Rattle.sve_facts.specs.declared.facts.Port.{Port}
use Rattle.sve_facts.specs.declared.bodies.Body.{Body}
use Rattle.sve_facts.specs.Bodies.{BodyValue, Costs, CostsMore, body_value}
use Rattle.sve_scope.specs.declared.interface.InterfaceNames.{InterfaceNames}
use Rattle.sve_known.specs.Packages.{Known}
use Rattle.sve_contents.specs.declared.contents.Contents.{Contents}
use Rattle.sve_contents.specs.Nested.{entered}
use Rattle.sve_function.specs.Readings.{readings}
use Rattle.sve_plan.specs.declared.stop.Stop.{Stop}
use Rattle.sve_plan.specs.declared.stop.Stop.TheVariants as is_stop
use Rattle.sve_plan.specs.Plan.{Done, Give, Needs, Outcome, Over, Plan, and_then, ask}
use Rattle.sve_look.specs.Questions.{ElementOf, IndexOf, NetAt, PackageOf, PortsOf, Question, Reply}
use Rattle.sve_body.specs.Body.{body}
use Rattle.sve_design_kinds.specs.Designs.{Designs, designs_named}
use Rattle.sve_design_kinds.specs.Kinds.{own_names}
use Rattle.sve_design_kinds.specs.Names.{instantiations}
use Rattle.sve_elaboration.specs.Ends.{begun_body, facts_of}
use Rattle.sve_elaboration.specs.Elaborating.{elaborating}
use Rattle.sve_unit_scope.specs.Elements.{ChunkElement, elements_before}
use Rattle.sve_unit_scope.specs.Packages.{packages_named}
use Rattle.sve_unit_scope.specs.Units.{unit_of}
use Rattle.sve_elaborate.specs.declared.extent.Extent.{Extent}
use Rattle.sve_elaborate.specs.declared.extent.Extent.TheVariants as is_extent

-- the items behind the header that are gone over
abbrev pub items_to : Extent → Definition → List Item
items_to is_extent.Header d = []
items_to is_extent.Whole d = d.items.items

-- the instantiations behind it
abbrev pub instantiations_to : Extent → Element → List ℕ
instantiations_to is_extent.Header own = []
instantiations_to is_extent.Whole own = instantiations own

-- the names of the interface that it is, for its modports
abbrev pub own_to : Extent → Element → Option InterfaceNames
own_to is_extent.Header own = None
own_to is_extent.Whole own = own_names own

-- A body in its scope: its header, then items of it, and then what was found.
unfoldable pub body_in : Extent → List Known → List Word → Designs → List Given → Contents → Definition → Plan Reply Facts
body_in extent packages ws designs given c d = and_then (body elaborating d.header (items_to extent d) (begun_body packages ws designs given c d)) (λ s. Give (facts_of s))

module _ (extent : Extent) where
  -- The scope of the body stands inside of the scope of the compilation unit.
  abbrev pub within : List Known → Designs → Spec → Def → List ChunkElement → Element → Definition → Plan Reply Facts
  within packages designs spec def es own d = body_in extent packages own.words.items designs spec.values (entered (unit_of readings packages def.file def.chunk es own)) d

  -- What the modules and interfaces are that it names is asked first; its interface ports are given what the specialization gives them.
  abbrev pub in_designs : Index → List Known → Spec → Def → List ChunkElement → Element → Definition → Plan Reply Facts
  in_designs index packages spec def es own d = and_then (designs_named index own.words.items d.header (instantiations_to extent own) (own_to extent own) spec.faces) (λ designs. within packages designs spec def es own d)

  -- an element without module or interface has a body with nothing in it
  abbrev pub of_definition : Index → List Known → Spec → Def → List ChunkElement → Element → Option Definition → Plan Reply Facts
  of_definition index packages spec def es own None = Give no_facts
  of_definition index packages spec def es own (Some d) = in_designs index packages spec def es own d

module _ (extent : Extent) (index : Index) (spec : Spec) (def : Def) where
  abbrev pub of_tree : List ChunkElement → Element → Plan Reply Facts
  of_tree es own = and_then (packages_named index es own) (λ packages. of_definition extent index packages spec def es own (element_definition own))

  -- so has a chunk that is refused
  abbrev pub of_element : List ChunkElement → Option Element → Plan Reply Facts
  of_element es None = Give no_facts
  of_element es (Some own) = of_tree es own

  -- the elements of the file in front of it are asked for, and then its own
  abbrev pub at_definition : Plan Reply Facts
  at_definition = and_then (elements_before def.file def.chunk) (λ es. and_then (ask (ElementOf def.file def.chunk)) (λ own. of_element es own))

-- and so has a name that the index lacks
abbrev pub at_place : Extent → Index → Spec → Option Def → Plan Reply Facts
at_place extent index spec None = Give no_facts
at_place extent index spec (Some def) = at_definition extent index spec def

unfoldable pub elaborated_to : Extent → Spec → Plan Reply Facts
elaborated_to extent spec = and_then (ask IndexOf) (λ index. at_place extent index spec (item_of def_name spec.definition index.definitions))

-- the whole body
abbrev pub elaborated : Spec → Plan Reply Facts
elaborated spec = elaborated_to is_extent.Whole spec

-- The ports, which are those of the header: no item behind it is gone over (23.2.2).
abbrev pub ports_of : Facts → List Port
ports_of facts = facts.ports

unfoldable pub header_ports : Spec → Plan Reply (List Port)
header_ports spec = and_then (elaborated_to is_extent.Header spec) (λ facts. Give (ports_of facts))

-- no question of the ports of another specialization
abbrev pub IsNoPorts : Question → Type 0
IsNoPorts (ElementOf file chunk) = Unit {0}
IsNoPorts (NetAt file chunk token) = Unit {0}
IsNoPorts IndexOf = Unit {0}
IsNoPorts (PackageOf name) = Unit {0}
IsNoPorts (PortsOf other) = ⊥

-- ---- as what a call gives

-- what a body comes to, where nothing is needed: that it costs more, or what is found of it and what that costs
abbrev pub outcome_value : Outcome Question Facts → Option BodyValue
outcome_value (Done facts cost) = Some (Costs facts cost)
outcome_value Over = Some CostsMore
outcome_value (Needs q) = None

-- the same of a call that follows the plan, by what was spent in it
abbrev pub end_value : Result Facts Stop → ℕ → Option BodyValue
end_value (Ok facts) cost = Some (Costs facts cost)
end_value (Err is_stop.Over) cost = Some CostsMore
end_value (Err (is_stop.Halted halt)) cost = None

-- A call that gives a body or halts gives what such a call came to, and is stopped only as that was.
abbrev pub EndsAs : Result Facts Stop → ℕ → Result Body Halt → Type 0
EndsAs end cost (Ok body) = end_value end cost ≡ Some (body_value body)
EndsAs end cost (Err (is_halt.Stopped number)) = end ≡ Err (is_stop.Halted (is_halt.Stopped number))
EndsAs end cost (Err is_halt.NoMemory) = Unit {0}

-- A call that gives a value or halts, with all fuel that can be counted, gives what such a call came to. That the fuel is too little is not told apart from
-- want of memory, since it never is.
abbrev pub GivesAs : {X : Type 0} → Result X Stop → Result X Halt → Type 0
GivesAs end (Ok x) = end ≡ Ok x
GivesAs end (Err (is_halt.Stopped number)) = end ≡ Err (is_stop.Halted (is_halt.Stopped number))
GivesAs end (Err is_halt.NoMemory) = Unit {0}
