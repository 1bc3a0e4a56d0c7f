-- A budget that is enough for a body without a generate loop (own): four times its tokens.
use Rattle.std.specs.Prelude.{ℕ, ◌+◌, ◌*◌, ◌≤◌, List, length, sum_by}
use Rattle.std.specs.List.{All}
use Rattle.sve_grammar.specs.Reading.{Tree, leaf, leaves}
use Rattle.sve_tree.specs.Shape.{row_tree}
use Rattle.sve_tree.specs.Expressions.{tree_at}
use Rattle.sve_tree.specs.Declarations.{header_tree}
use Rattle.sve_tree.specs.Items.{item_tree}
use Rattle.sve_tree.specs.declared.expression.Expr.{Expr}
use Rattle.sve_tree.specs.declared.header.Header.{Header}
use Rattle.sve_tree.specs.declared.row.Row.{Row}
use Rattle.sve_tree.specs.declared.item.Item.{Item}
use Rattle.sve_tree.specs.declared.item.GenerateRegion.{Row_of-Item, end_of-Item, more_of-Item}
use Rattle.sve_tree.specs.declared.item.GenerateBlock.{GenerateBlock}
use Rattle.sve_tree.specs.declared.item.IfGenerate.{IfGenerate, IfGenerate', Held-IfGenerate-otherwise, None', Some'}
use Rattle.sve_tree.specs.declared.item.CaseGenerate.{Row_of-CaseGenerateItem, end_of-CaseGenerateItem, more_of-CaseGenerateItem}
use Rattle.sve_tree.specs.declared.item.CaseGenerateItem.{CaseGenerateItem}
use Rattle.sve_tree.specs.declared.item.Item.TheVariants as is_item
use Rattle.sve_tree.specs.declared.item.GenerateBlock.TheVariants as is_generate_block
use Rattle.sve_tree.specs.declared.item.CaseGenerateItem.TheVariants as is_case_generate_item
use Rattle.sve_env.specs.Nodes.{nodes}
use Rattle.sve_item_names.specs.Declarations.{parameters_of, ports_of}
use Rattle.sve_body.specs.Steps.{Steps}
use Rattle.sve_body.specs.Items.{plain_item}

abbrev pub tokens : Tree → ℕ
tokens t = length (leaves t)

abbrev pub item_tokens : Item → ℕ
item_tokens i = tokens (item_tree i)

-- the tokens of a header and of items
abbrev pub body_tokens : Header → List Item → ℕ
body_tokens h items = tokens (header_tree h) + sum_by item_tokens items

-- what evaluating costs is at most three for each token of what is evaluated, whatever was found before
abbrev pub IsModestExpression : {S : Type 0} → Steps S → Expr → Type 0
IsModestExpression {S} steps e = (s : S) → nodes (steps.told s) e ≤ 3 * tokens (tree_at 13 e)

abbrev pub AreModestLabels : {S : Type 0} → Steps S → Row Expr ℕ → Type 0
AreModestLabels {S} steps labels = (s : S) → sum_by (nodes (steps.told s)) labels.items.items ≤ 3 * tokens (row_tree (tree_at 13) leaf labels)

-- the parameters and the ports of a header, one each, with what evaluating there costs, are at most four for each of its tokens
abbrev pub IsModestHeader : {S : Type 0} → Steps S → Header → Type 0
IsModestHeader {S} steps h = (s t : S) → length (parameters_of h.parameters) + (steps.header_parameters h s).0 + length (ports_of h.ports) + (steps.header_ports h t).0 ≤ 4 * tokens (header_tree h)

-- There is no generate loop in an item, and what evaluating costs in it is at most three for each token of what is evaluated.
unfoldable mutual
  pub IsModest : {S : Type 0} → Steps S → Item → Type 0
  IsModest steps (is_item.Region' _ keyword _ items end) = AreModest steps items
  IsModest steps (is_item.LoopGenerate' _ keyword opening genvar name equals start first_semicolon condition second_semicolon step closing block) = ⊥
  IsModest steps (is_item.IfGenerate' _ construct) = IsModestIf steps construct
  IsModest steps (is_item.CaseGenerate' _ keyword selector _ items end) = IsModestExpression steps selector.value.value × AreModestCases steps items
  IsModest {S} steps (is_item.Instances instantiation) = (s : S) → (steps.overrides instantiation.value.overrides s).0 ≤ 3 * item_tokens (is_item.Instances instantiation)
  IsModest {S} steps i = (s : S) → (plain_item steps i s).0 ≤ 3 * item_tokens i

  pub AreModest : {S : Type 0} {n : _} → Steps S → Row_of-Item n → Type 0
  AreModest steps end_of-Item = Unit {0}
  AreModest steps (more_of-Item i rest) = IsModest steps i × AreModest steps rest

  pub IsModestBlock : {S : Type 0} → Steps S → GenerateBlock → Type 0
  IsModestBlock steps (is_generate_block.Block' _ begin label _ items end last) = AreModest steps items
  IsModestBlock steps (is_generate_block.Item' _ i) = IsModest steps i

  pub IsModestIf : {S : Type 0} → Steps S → IfGenerate → Type 0
  IsModestIf steps (IfGenerate' keyword condition chosen otherwise) = IsModestExpression steps condition.value.value × IsModestBlock steps chosen × IsModestElse steps otherwise

  pub IsModestElse : {S : Type 0} → Steps S → Held-IfGenerate-otherwise → Type 0
  IsModestElse steps None' = Unit {0}
  IsModestElse steps (Some' keyword block) = IsModestBlock steps block

  pub IsModestCase : {S : Type 0} → Steps S → CaseGenerateItem → Type 0
  IsModestCase steps (is_case_generate_item.Default keyword colon block) = IsModestBlock steps block
  IsModestCase steps (is_case_generate_item.Labels labels colon block) = AreModestLabels steps labels × IsModestBlock steps block

  pub AreModestCases : {S : Type 0} {n : _} → Steps S → Row_of-CaseGenerateItem n → Type 0
  AreModestCases steps end_of-CaseGenerateItem = Unit {0}
  AreModestCases steps (more_of-CaseGenerateItem i rest) = IsModestCase steps i × AreModestCases steps rest

-- a header and items of which each is
abbrev pub IsModestBody : {S : Type 0} → Steps S → Header → List Item → Type 0
IsModestBody steps h items = IsModestHeader steps h × All (IsModest steps) items
