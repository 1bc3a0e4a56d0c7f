-- Where single steps cost at most as much as the tokens of what they evaluate, a body without a generate loop is modest.
use Rattle.std.proofs.Common.{ℕ, ◌+◌, ◌*◌, ◌≤◌, List, [], ◌∷◌, length, Option, arith}
use Rattle.std.specs.Prelude.{sum_by}
use Rattle.std.specs.List.{All}
use Rattle.std.proofs.lemmas.List.Elements.{All-cons, All-head, All-tail}
use Rattle.sve_grammar.specs.Reading.{Tree, leaf}
use Rattle.sve_tree.specs.Shape.{first_of, first_tree, others_of, others_tree, repeated_tree, row_tree}
use Rattle.sve_tree.specs.Declarations.{header_tree}
use Rattle.sve_tree.specs.Items.{case_generate_item_tree, case_generate_item_trees, generate_block_tree, if_generate_tree, instances_tree, item_row, item_tree, optional_else_generate}
use Rattle.sve_tree.specs.declared.row.Row.{Row}
use Rattle.sve_tree.specs.declared.expression.Expr.{Expr}
use Rattle.sve_tree.specs.declared.header.Header.{Header}
use Rattle.sve_tree.specs.declared.item.Item.{Item}
use Rattle.sve_tree.specs.declared.item.Item.TheVariants as is_item
use Rattle.sve_tree.specs.declared.item.Instance.{Instance}
use Rattle.sve_tree.specs.declared.item.Overrides.{Overrides}
use Rattle.sve_tree.specs.declared.item.GenerateRegion.{Row_of-Item, end_of-Item, more_of-Item}
use Rattle.sve_tree.specs.declared.item.GenerateBlock.{GenerateBlock}
use Rattle.sve_tree.specs.declared.item.GenerateBlock.TheVariants as is_generate_block
use Rattle.sve_tree.specs.declared.item.IfGenerate.{IfGenerate, IfGenerate', Held-IfGenerate-otherwise, None', Some'}
use Rattle.sve_tree.specs.declared.item.CaseGenerate.{Row_of-CaseGenerateItem, end_of-CaseGenerateItem, more_of-CaseGenerateItem}
use Rattle.sve_tree.specs.declared.item.CaseGenerateItem.{CaseGenerateItem}
use Rattle.sve_tree.specs.declared.item.CaseGenerateItem.TheVariants as is_case_generate_item
use Rattle.sve_outline.specs.Outline.{IsWhole}
use Rattle.sve_enough.specs.Enough.{BlockHasNoLoop, CaseHasNoLoop, CasesHaveNoLoop, ElseHasNoLoop, HasNoLoop, HaveNoLoop, IfHasNoLoop}
use Rattle.sve_enough.proofs.Counts.{Reaches, all_reach, count, counted, repeated_reach, row_reach}
use Rattle.sve_tree.specs.Expressions.{tree_at}
use Rattle.sve_env.specs.Nodes.{nodes}
use Rattle.sve_item_names.specs.Declarations.{parameters_of, ports_of}
use Rattle.sve_body.specs.Steps.{Steps}
use Rattle.sve_body.specs.Items.{plain_item}
use Rattle.sve_body.specs.Budget.{AreModest, AreModestCases, AreModestLabels, IsModest, IsModestBlock, IsModestBody, IsModestCase, IsModestElse, IsModestExpression, IsModestHeader, IsModestIf, item_tokens}
use Rattle.sve_enough.proofs.Expressions.{IsWithoutSteps, nodes_reach}

-- ---- the trees of a list are whole where it is

abbrev AllWhole : List Tree → Type 0
AllWhole [] = Unit {0}
AllWhole (t ∷ ts) = IsWhole t × AllWhole ts

turns_whole : (ts : List Tree) → IsWhole (repeated_tree (λ (t : Tree). t) ts) → AllWhole ts
unfolding repeated_tree
turns_whole [] w = tt
turns_whole (t ∷ ts) w = (w.0, turns_whole ts w.1)

list_whole : (ts : List Tree) → IsWhole (first_of ts) → IsWhole (others_of ts) → AllWhole ts
unfolding first_tree others_tree
list_whole [] v w = absurd v.2
list_whole (t ∷ ts) v w = (v, turns_whole ts w)

-- what single steps cost, wherever they stand
pub record AreWithin {S : Type 0} (steps : Steps S) : Type 0 where
  pub calls : (s : S) → IsWithoutSteps (steps.told s)
  pub header : (h : Header) (s t : S) → Reaches (length (parameters_of h.parameters) + (steps.header_parameters h s).0 + length (ports_of h.ports) + (steps.header_ports h t).0) (header_tree h)
  pub plain : (i : Item) (s : S) → Reaches (plain_item steps i s).0 (item_tree i)
  pub overrides : (o : Option Overrides) (row : Row Instance ℕ) (semicolon : ℕ) (s : S) → Reaches (steps.overrides o s).0 (instances_tree o row semicolon)

module _ {S : Type 0} (steps : Steps S) (within : AreWithin steps) where
  plain_modest : (i : Item) (s : S) → IsWhole (item_tree i) → (plain_item steps i s).0 ≤ 3 * item_tokens i
  plain_modest i s w = let a = within.plain i s w in let b = counted (item_tree i) in omega arith

  expression_modest : (e : Expr) → IsWhole (tree_at 13 e) → IsModestExpression steps e
  expression_modest e w = λ s. let a = nodes_reach (steps.told s) (within.calls s) 13 e w in let b = counted (tree_at 13 e) in omega arith

  labels_modest : (labels : Row Expr ℕ) → IsWhole (row_tree (tree_at 13) leaf labels) → AreModestLabels steps labels
  labels_modest labels w = λ s.
      let a = row_reach (tree_at 13) (sum_by (nodes (steps.told s)) labels.items.items) labels.items.items labels.separators.items (all_reach (tree_at 13) (nodes (steps.told s)) (nodes_reach (steps.told s) (within.calls s) 13) labels.items.items) w.0 w.1 in
      let b = counted (row_tree (tree_at 13) leaf labels) in omega arith

  mutual
    unfolding item_tree IsModest HasNoLoop

    item_modest : (i : Item) → IsWhole (item_tree i) → HasNoLoop i → IsModest steps i
    item_modest (is_item.Region' _ keyword _ items end) w l = items_modest items w.1.0 l
    item_modest (is_item.LoopGenerate' _ keyword opening genvar name equals start first_semicolon condition second_semicolon step closing block) w l = absurd l
    item_modest (is_item.IfGenerate' _ construct) w l = if_modest construct w l
    item_modest (is_item.CaseGenerate' _ keyword selector _ items end) w l = (expression_modest selector.value.value w.1.0.1.0, cases_modest items (list_whole (case_generate_item_trees items) w.1.1.0 w.1.1.1.0) l)
    item_modest (is_item.Instances instantiation) w l = λ s.
        let a = within.overrides instantiation.value.overrides instantiation.value.instances instantiation.value.semicolon s w.1 in let c = counted (item_tree (is_item.Instances instantiation)) in omega arith
    item_modest i w l = λ s. plain_modest i s w

    items_modest : {n : _} (row : Row_of-Item n) → IsWhole (item_row row) → HaveNoLoop row → AreModest steps row
    items_modest end_of-Item w l = tt
    items_modest (more_of-Item i rest) w l = (item_modest i w.0 l.0, items_modest rest w.1 l.1)

    block_modest : (b : GenerateBlock) → IsWhole (generate_block_tree b) → BlockHasNoLoop b → IsModestBlock steps b
    block_modest (is_generate_block.Block' _ begin label _ items end last) w l = items_modest items w.1.1.0 l
    block_modest (is_generate_block.Item' _ i) w l = item_modest i w l

    if_modest : (c : IfGenerate) → IsWhole (if_generate_tree c) → IfHasNoLoop c → IsModestIf steps c
    if_modest (IfGenerate' keyword condition chosen otherwise) w l = (expression_modest condition.value.value w.1.0.1.0, block_modest chosen w.1.1.0 l.0, else_modest otherwise w.1.1.1 l.1)

    else_modest : (x : Held-IfGenerate-otherwise) → IsWhole (optional_else_generate x) → ElseHasNoLoop x → IsModestElse steps x
    else_modest None' w l = tt
    else_modest (Some' keyword block) w l = block_modest block w.1 l

    case_modest : (i : CaseGenerateItem) → IsWhole (case_generate_item_tree i) → CaseHasNoLoop i → IsModestCase steps i
    case_modest (is_case_generate_item.Default keyword colon block) w l = block_modest block w.1.1 l
    case_modest (is_case_generate_item.Labels labels colon block) w l = (labels_modest labels (w.0, w.1.0), block_modest block w.1.1.1 l)

    cases_modest : {n : _} (row : Row_of-CaseGenerateItem n) → AllWhole (case_generate_item_trees row) → CasesHaveNoLoop row → AreModestCases steps row
    cases_modest end_of-CaseGenerateItem w l = tt
    cases_modest (more_of-CaseGenerateItem i rest) w l = (case_modest i w.0 l.0, cases_modest rest w.1 l.1)

  -- ---- a body

  list_modest : (items : List Item) → IsWhole (repeated_tree item_tree items) → All HasNoLoop items → All (IsModest steps) items
  unfolding repeated_tree
  list_modest [] w l = λ k d h. absurd (omega arith)
  list_modest (i ∷ items) w l = All-cons (IsModest steps) i items (item_modest i w.0 (All-head HasNoLoop i items l)) (list_modest items w.1 (All-tail HasNoLoop i items l))

  header_modest : (h : Header) → IsWhole (header_tree h) → IsModestHeader steps h
  header_modest h w = λ s t. let a = within.header h s t w in let b = counted (header_tree h) in omega arith

  pub body_modest : (h : Header) (items : List Item) → IsWhole (header_tree h) → IsWhole (repeated_tree item_tree items) → All HasNoLoop items → IsModestBody steps h items
  body_modest h items v w l = (header_modest h v, list_modest items w l)

-- the tokens of items one after another
pub items_tokens : (items : List Item) → IsWhole (repeated_tree item_tree items) → sum_by item_tokens items ≤ count (repeated_tree item_tree items)
items_tokens items w = repeated_reach item_tree (sum_by item_tokens items) items (all_reach item_tree item_tokens (λ i v. (let a = counted (item_tree i) in omega arith)) items) w
