-- A budget that is enough for the body of a specialization whose element has no generate loop (own): four times the tokens of the element.
use Rattle.std.specs.Prelude.{◌≡◌, ◌≤◌, ◌*◌, ℕ, length, Option, Some, None}
use Rattle.std.specs.List.{All}
use Rattle.sve_grammar.specs.Reading.{leaves}
use Rattle.sve_tree.specs.declared.element.Definition.{Definition}
use Rattle.sve_tree.specs.declared.element.Element.{Element}
use Rattle.sve_tree.specs.declared.item.Item.{Item}
use Rattle.sve_tree.specs.declared.item.Item.TheVariants as is_item
use Rattle.sve_tree.specs.declared.item.GenerateRegion.{Row_of-Item, end_of-Item, more_of-Item}
use Rattle.sve_tree.specs.declared.item.GenerateBlock.{GenerateBlock}
use Rattle.sve_tree.specs.declared.item.GenerateBlock.TheVariants as is_generate_block
use Rattle.sve_tree.specs.declared.item.IfGenerate.{IfGenerate, IfGenerate', Held-IfGenerate-otherwise, None', Some'}
use Rattle.sve_tree.specs.declared.item.CaseGenerate.{Row_of-CaseGenerateItem, end_of-CaseGenerateItem, more_of-CaseGenerateItem}
use Rattle.sve_tree.specs.declared.item.CaseGenerateItem.{CaseGenerateItem}
use Rattle.sve_tree.specs.declared.item.CaseGenerateItem.TheVariants as is_case_generate_item
use Rattle.sve_tree.specs.Elements.{element_definition, element_tree}
use Rattle.sve_outline.specs.Outline.{IsWhole}
use Rattle.sve_told.specs.Told.{Told}
use Rattle.sve_table.specs.Tables.{item_of}
use Rattle.sve_index.specs.declared.def.Def.{Def}
use Rattle.sve_index.specs.declared.whole.Index.{Index}
use Rattle.sve_index.specs.Defs.{def_name}
use Rattle.sve_spec.specs.declared.spec.Spec.{Spec}
use Rattle.sve_look.specs.Questions.{ElementOf, IndexOf, Reply}

-- ---- no generate loop (27.4), however deep

unfoldable mutual
  pub HasNoLoop : Item → Type 0
  HasNoLoop (is_item.Region' _ keyword _ items end) = HaveNoLoop items
  HasNoLoop (is_item.LoopGenerate' _ keyword opening genvar name equals start first_semicolon condition second_semicolon step closing block) = ⊥
  HasNoLoop (is_item.IfGenerate' _ construct) = IfHasNoLoop construct
  HasNoLoop (is_item.CaseGenerate' _ keyword selector _ items end) = CasesHaveNoLoop items
  HasNoLoop i = Unit {0}

  pub HaveNoLoop : {n : _} → Row_of-Item n → Type 0
  HaveNoLoop end_of-Item = Unit {0}
  HaveNoLoop (more_of-Item i rest) = HasNoLoop i × HaveNoLoop rest

  pub BlockHasNoLoop : GenerateBlock → Type 0
  BlockHasNoLoop (is_generate_block.Block' _ begin label _ items end last) = HaveNoLoop items
  BlockHasNoLoop (is_generate_block.Item' _ i) = HasNoLoop i

  pub IfHasNoLoop : IfGenerate → Type 0
  IfHasNoLoop (IfGenerate' keyword condition chosen otherwise) = BlockHasNoLoop chosen × ElseHasNoLoop otherwise

  pub ElseHasNoLoop : Held-IfGenerate-otherwise → Type 0
  ElseHasNoLoop None' = Unit {0}
  ElseHasNoLoop (Some' keyword block) = BlockHasNoLoop block

  pub CaseHasNoLoop : CaseGenerateItem → Type 0
  CaseHasNoLoop (is_case_generate_item.Default keyword colon block) = BlockHasNoLoop block
  CaseHasNoLoop (is_case_generate_item.Labels labels colon block) = BlockHasNoLoop block

  pub CasesHaveNoLoop : {n : _} → Row_of-CaseGenerateItem n → Type 0
  CasesHaveNoLoop end_of-CaseGenerateItem = Unit {0}
  CasesHaveNoLoop (more_of-CaseGenerateItem i rest) = CaseHasNoLoop i × CasesHaveNoLoop rest

abbrev pub DefinitionHasNoLoop : Option Definition → Type 0
DefinitionHasNoLoop None = Unit {0}
DefinitionHasNoLoop (Some d) = All HasNoLoop d.items.items

-- ---- the element that a body is elaborated of, as it is told

abbrev pub IsToldAt : Told Reply → Option Def → Element → Type 0
IsToldAt told None own = ⊥
IsToldAt told (Some def) own = told (ElementOf def.file def.chunk) ≡ Some (Some own)

abbrev pub IsTold : Told Reply → Spec → Element → Type 0
IsTold told spec own = (index : Index) × (told IndexOf ≡ Some index) × IsToldAt told (item_of def_name spec.definition index.definitions) own

-- ---- the budget

abbrev pub element_tokens : Element → ℕ
element_tokens own = length (leaves (element_tree own))

-- an element without a generate loop, whose tree is whole, as that of each reading is, and so much fuel as four times its tokens at least
pub record IsEnough (fuel : ℕ) (own : Element) : Type 0 where
  pub tree : IsWhole (element_tree own)
  pub loops : DefinitionHasNoLoop (element_definition own)
  pub tokens : 4 * element_tokens own ≤ fuel
