-- An element instantiates what its mentions say.
use Rattle.std.proofs.Common.{ℕ, List, [], ◌∷◌, ◌++◌, ◌≡◌, ◌↔◌, inl, inr, Option, Some, None, sym, subst}
use Rattle.std.specs.Global.{Box}
use Rattle.std.specs.List.{Any, Contains, flat_map}
use Rattle.std.proofs.lemmas.List.Elements.{Contains-append_cases, Contains-append_left, Contains-append_right}
use Rattle.sve_tree.specs.declared.element.Element.{Element}
use Rattle.sve_tree.specs.declared.element.Design.{Design}
use Rattle.sve_tree.specs.declared.element.Definition.{Definition}
use Rattle.sve_tree.specs.declared.element.UnitItem.{UnitItem}
use Rattle.sve_tree.specs.declared.item.Item.{Item}
use Rattle.sve_tree.specs.declared.item.Instantiation.{Instantiation}
use Rattle.sve_tree.specs.declared.item.GenerateRegion.{Row_of-Item, end_of-Item, items-the_row-Item, more_of-Item}
use Rattle.sve_tree.specs.declared.item.GenerateBlock.{GenerateBlock}
use Rattle.sve_tree.specs.declared.item.IfGenerate.{IfGenerate, IfGenerate', Held-IfGenerate-otherwise, None', Some'}
use Rattle.sve_tree.specs.declared.item.CaseGenerate.{Row_of-CaseGenerateItem, end_of-CaseGenerateItem, items-the_row-CaseGenerateItem, more_of-CaseGenerateItem}
use Rattle.sve_tree.specs.declared.item.CaseGenerateItem.{CaseGenerateItem}
use Rattle.sve_tree.specs.declared.element.Design.TheVariants as is_design
use Rattle.sve_tree.specs.declared.element.UnitItem.TheVariants as is_unit_item
use Rattle.sve_tree.specs.declared.item.Item.TheVariants as is_item
use Rattle.sve_tree.specs.declared.item.GenerateBlock.TheVariants as is_generate_block
use Rattle.sve_tree.specs.declared.item.CaseGenerateItem.TheVariants as is_case_generate_item
use Rattle.sve_mention.specs.declared.mention.Mention.{Mention}
use Rattle.sve_mention.specs.declared.mention.Mention.TheVariants.{Instance}
use Rattle.sve_mention.specs.Labels.{end_label, label_name}
use Rattle.sve_mention.specs.InItems.{item_mentions, generate_block_mentions, if_generate_mentions, else_generate_mentions, case_generate_item_mentions, items_mentions, case_generate_items_mentions}
use Rattle.sve_mention.specs.InElements.{unit_item_mentions, definition_mentions, optional_design_mentions, element_mentions}
use Rattle.sve_mention.specs.Instantiations.{block_items, else_items, branch_items, choice_items, items_within, Instantiates, itself, within, design_items, ElementInstantiates}
use Rattle.sve_mention.proofs.Found.{nowhere, first, later, only, some_gives, given_by}
use Rattle.sve_mention.proofs.Labels.{NoInstance, none_at_all, none_in_both, none_in_each, none_in_function, none_in_label, none_in_statement}
use Rattle.sve_mention.proofs.Items.{items_are, case_items_are}

-- ---- what is mentioned is instantiated

-- one of these items instantiates it
abbrev SomeIn : ℕ → List Item → Type 0
SomeIn d items = (item : Item) × Contains items item × Instantiates d item

inside : (d : ℕ) (outer : Item) → SomeIn d (items_within outer) → Instantiates d outer
inside d outer s = within s.1 s.2

further : (d : ℕ) (item : Item) (items : List Item) → SomeIn d items → SomeIn d (item ∷ items)
further d item items s = (s.0, later item items s.0 s.1, s.2)

on_the_left : (d : ℕ) (a b : List Item) → SomeIn d a → SomeIn d (a ++ b)
on_the_left d a b s = (s.0, Contains-append_left a b s.0 s.1, s.2)

on_the_right : (d : ℕ) (a b : List Item) → SomeIn d b → SomeIn d (a ++ b)
on_the_right d a b s = (s.0, Contains-append_right a b s.0 s.1, s.2)

same_name : (d e : ℕ) → Contains (Instance e ∷ []) (Instance d) → e ≡ d
same_name d e c = let p : Instance e ≡ Instance d = only (Instance e) (Instance d) c in cc

mutual
  unfolding item_mentions

  said_in_item : (d : ℕ) (item : Item) → Contains (item_mentions item) (Instance d) → Instantiates d item
  said_in_item d (is_item.Function function) c = absurd (none_in_function function.value d c)
  said_in_item d (is_item.Clocked procedure) c = absurd (none_in_statement procedure.value.statement.value d c)
  said_in_item d (is_item.Plain procedure) c = absurd (none_in_statement procedure.value.statement.value d c)
  said_in_item d (is_item.Region' p keyword n items end) c = inside d (is_item.Region' p keyword n items end) (said_in_items d items c)
  said_in_item d (is_item.LoopGenerate' p keyword opening genvar name equals start first_semicolon condition second_semicolon step closing block) c =
      inside d (is_item.LoopGenerate' p keyword opening genvar name equals start first_semicolon condition second_semicolon step closing block) (said_in_block d block c)
  said_in_item d (is_item.IfGenerate' p construct) c = inside d (is_item.IfGenerate' p construct) (said_in_branches d construct c)
  said_in_item d (is_item.CaseGenerate' p keyword selector n items end) c = inside d (is_item.CaseGenerate' p keyword selector n items end) (said_in_choices d items c)
  said_in_item d (is_item.Instances instantiation) c = itself instantiation (same_name d instantiation.value.definition c)
  said_in_item d item c = absurd (nowhere (Instance d) c)

  said_in_block : (d : ℕ) (block : GenerateBlock) → Contains (generate_block_mentions block) (Instance d) → SomeIn d (block_items block)
  said_in_block d (is_generate_block.Block' _ begin label _ items end last) c = elim (Contains-append_cases (items_mentions items) (end_label (label_name label) last) (Instance d) c) [
    | inl a ↦ said_in_items d items a
    | inr b ↦ absurd (none_in_label (label_name label) last d b)
  ]
  said_in_block d (is_generate_block.Item' _ item) c = (item, first item [], said_in_item d item c)

  said_in_branches : (d : ℕ) (construct : IfGenerate) → Contains (if_generate_mentions construct) (Instance d) → SomeIn d (branch_items construct)
  said_in_branches d (IfGenerate' keyword condition chosen otherwise) c = elim (Contains-append_cases (generate_block_mentions chosen) (else_generate_mentions otherwise) (Instance d) c) [
    | inl a ↦ on_the_left d (block_items chosen) (else_items otherwise) (said_in_block d chosen a)
    | inr b ↦ on_the_right d (block_items chosen) (else_items otherwise) (said_in_else d otherwise b)
  ]

  said_in_else : (d : ℕ) (otherwise : Held-IfGenerate-otherwise) → Contains (else_generate_mentions otherwise) (Instance d) → SomeIn d (else_items otherwise)
  said_in_else d None' c = absurd (nowhere (Instance d) c)
  said_in_else d (Some' keyword block) c = said_in_block d block c

  said_in_choice : (d : ℕ) (item : CaseGenerateItem) → Contains (case_generate_item_mentions item) (Instance d) → SomeIn d (choice_items item)
  said_in_choice d (is_case_generate_item.Default keyword colon block) c = said_in_block d block c
  said_in_choice d (is_case_generate_item.Labels labels colon block) c = said_in_block d block c

  said_in_items : (d : ℕ) {n : _} (items : Row_of-Item n) → Contains (items_mentions items) (Instance d) → SomeIn d (items-the_row-Item n items)
  said_in_items d end_of-Item c = absurd (nowhere (Instance d) c)
  said_in_items d (more_of-Item item rest) c = elim (Contains-append_cases (item_mentions item) (items_mentions rest) (Instance d) c) [
    | inl a ↦ (item, first item (items-the_row-Item _ rest), said_in_item d item a)
    | inr b ↦ further d item (items-the_row-Item _ rest) (said_in_items d rest b)
  ]

  said_in_choices : (d : ℕ) {n : _} (items : Row_of-CaseGenerateItem n) → Contains (case_generate_items_mentions items) (Instance d) → SomeIn d (flat_map choice_items (items-the_row-CaseGenerateItem n items))
  said_in_choices d end_of-CaseGenerateItem c = absurd (nowhere (Instance d) c)
  said_in_choices d (more_of-CaseGenerateItem item rest) c = elim (Contains-append_cases (case_generate_item_mentions item) (case_generate_items_mentions rest) (Instance d) c) [
    | inl a ↦ on_the_left d (choice_items item) (flat_map choice_items (items-the_row-CaseGenerateItem _ rest)) (said_in_choice d item a)
    | inr b ↦ on_the_right d (choice_items item) (flat_map choice_items (items-the_row-CaseGenerateItem _ rest)) (said_in_choices d rest b)
  ]

-- ---- what is instantiated is mentioned

row_mentions : {n : _} (items : Row_of-Item n) (inner : Item) (m : Mention) → Contains (items-the_row-Item n items) inner → Contains (item_mentions inner) m → Contains (items_mentions items) m
row_mentions {n} items inner m s c = subst (λ (ms : List Mention). Contains ms m) (sym (items_are items)) (given_by item_mentions (items-the_row-Item n items) inner m s c)

block_mentions_within : (block : GenerateBlock) (inner : Item) (m : Mention) → Contains (block_items block) inner → Contains (item_mentions inner) m → Contains (generate_block_mentions block) m
unfolding item_mentions
block_mentions_within (is_generate_block.Block' _ begin label _ items end last) inner m s c = Contains-append_left (items_mentions items) (end_label (label_name label) last) m (row_mentions items inner m s c)
block_mentions_within (is_generate_block.Item' _ item) inner m s c = subst (λ (x : Item). Contains (item_mentions x) m) (sym (only item inner s)) c

else_mentions_within : (otherwise : Held-IfGenerate-otherwise) (inner : Item) (m : Mention) → Contains (else_items otherwise) inner → Contains (item_mentions inner) m → Contains (else_generate_mentions otherwise) m
unfolding item_mentions
else_mentions_within None' inner m s c = absurd (nowhere inner s)
else_mentions_within (Some' keyword block) inner m s c = block_mentions_within block inner m s c

branch_mentions_within : (construct : IfGenerate) (inner : Item) (m : Mention) → Contains (branch_items construct) inner → Contains (item_mentions inner) m → Contains (if_generate_mentions construct) m
unfolding item_mentions
branch_mentions_within (IfGenerate' keyword condition chosen otherwise) inner m s c = elim (Contains-append_cases (block_items chosen) (else_items otherwise) inner s) [
  | inl a ↦ Contains-append_left (generate_block_mentions chosen) (else_generate_mentions otherwise) m (block_mentions_within chosen inner m a c)
  | inr b ↦ Contains-append_right (generate_block_mentions chosen) (else_generate_mentions otherwise) m (else_mentions_within otherwise inner m b c)
]

choice_mentions_within : (item : CaseGenerateItem) (inner : Item) (m : Mention) → Contains (choice_items item) inner → Contains (item_mentions inner) m → Contains (case_generate_item_mentions item) m
unfolding item_mentions
choice_mentions_within (is_case_generate_item.Default keyword colon block) inner m s c = block_mentions_within block inner m s c
choice_mentions_within (is_case_generate_item.Labels labels colon block) inner m s c = block_mentions_within block inner m s c

choices_mention : {n : _} (items : Row_of-CaseGenerateItem n) (inner : Item) (m : Mention) → Contains (flat_map choice_items (items-the_row-CaseGenerateItem n items)) inner → Contains (item_mentions inner) m → Contains (case_generate_items_mentions items) m
choices_mention {n} items inner m s c =
    let choice = some_gives choice_items (items-the_row-CaseGenerateItem n items) inner s in
    subst (λ (ms : List Mention). Contains ms m) (sym (case_items_are items))
    (given_by case_generate_item_mentions (items-the_row-CaseGenerateItem n items) choice.0 m choice.1 (choice_mentions_within choice.0 inner m choice.2 c))

mentions_within : (outer inner : Item) (m : Mention) → Contains (items_within outer) inner → Contains (item_mentions inner) m → Contains (item_mentions outer) m
unfolding item_mentions
mentions_within (is_item.Region' _ keyword _ items end) inner m s c = row_mentions items inner m s c
mentions_within (is_item.LoopGenerate' _ keyword opening genvar name equals start first_semicolon condition second_semicolon step closing block) inner m s c = block_mentions_within block inner m s c
mentions_within (is_item.IfGenerate' _ construct) inner m s c = branch_mentions_within construct inner m s c
mentions_within (is_item.CaseGenerate' _ keyword selector _ items end) inner m s c = choices_mention items inner m s c
mentions_within outer inner m s c = absurd (nowhere inner s)

itself_said : (d : ℕ) (instantiation : Box Instantiation) → instantiation.value.definition ≡ d → Contains (item_mentions (is_item.Instances instantiation)) (Instance d)
unfolding item_mentions
itself_said d instantiation e = subst (λ (x : ℕ). Contains (Instance instantiation.value.definition ∷ []) (Instance x)) e (first (Instance instantiation.value.definition) [])

said_of : (d : ℕ) {item : Item} → Instantiates d item → Contains (item_mentions item) (Instance d)
said_of d (itself instantiation e) = itself_said d instantiation e
said_of d (within {outer} {inner} s i) = mentions_within outer inner (Instance d) s (said_of d i)

-- ---- elements

none_in_unit_item : (item : UnitItem) → NoInstance (unit_item_mentions item)
none_in_unit_item (is_unit_item.Function function) = none_in_function function.value
none_in_unit_item item = none_at_all

said_in_definition : (d : ℕ) (definition : Definition) → Contains (definition_mentions definition) (Instance d) → Any (Instantiates d) definition.items.items
said_in_definition d definition c = elim (Contains-append_cases (flat_map item_mentions definition.items.items) (end_label (Some definition.header.name) definition.label) (Instance d) c) [
  | inl a ↦ let s = some_gives item_mentions definition.items.items (Instance d) a in (s.1.0, s.0, s.1.1, s.1.2, said_in_item d s.0 s.2)
  | inr b ↦ absurd (none_in_label (Some definition.header.name) definition.label d b)
]

said_in_design : (d : ℕ) (design : Option Design) → Contains (optional_design_mentions design) (Instance d) → Any (Instantiates d) (design_items design)
said_in_design d None c = absurd (nowhere (Instance d) c)
said_in_design d (Some (is_design.Module keyword definition)) c = said_in_definition d definition.value c
said_in_design d (Some (is_design.Interface keyword definition)) c = said_in_definition d definition.value c
said_in_design d (Some (is_design.Package unit)) c =
    absurd (none_in_both (flat_map unit_item_mentions unit.value.items.items) (end_label (Some unit.value.name) unit.value.label) (none_in_each unit_item_mentions none_in_unit_item unit.value.items.items) (none_in_label (Some unit.value.name) unit.value.label) d c)

said_of_definition : (d : ℕ) (definition : Definition) → Any (Instantiates d) definition.items.items → Contains (definition_mentions definition) (Instance d)
said_of_definition d definition a =
    Contains-append_left (flat_map item_mentions definition.items.items) (end_label (Some definition.header.name) definition.label) (Instance d)
    (given_by item_mentions definition.items.items a.1 (Instance d) (a.0, a.2, a.3) (said_of d a.4))

said_of_design : (d : ℕ) (design : Option Design) → Any (Instantiates d) (design_items design) → Contains (optional_design_mentions design) (Instance d)
said_of_design d None a = absurd (nowhere a.1 (a.0, a.2, a.3))
said_of_design d (Some (is_design.Module keyword definition)) a = said_of_definition d definition.value a
said_of_design d (Some (is_design.Interface keyword definition)) a = said_of_definition d definition.value a
said_of_design d (Some (is_design.Package unit)) a = absurd (nowhere a.1 (a.0, a.2, a.3))

pub mentions_are_instantiations : (element : Element) (d : ℕ) → ElementInstantiates element d ↔ Contains (element_mentions element) (Instance d)
mentions_are_instantiations element d =
    let outside = flat_map unit_item_mentions element.items.items in (
      (λ i. Contains-append_right outside (optional_design_mentions element.design) (Instance d) (said_of_design d element.design i)),
      (λ c. elim (Contains-append_cases outside (optional_design_mentions element.design) (Instance d) c) [
        | inl a ↦ absurd (none_in_each unit_item_mentions none_in_unit_item element.items.items d a)
        | inr b ↦ said_in_design d element.design b
      ]),
    )
