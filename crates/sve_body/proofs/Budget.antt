-- What the plan of a body without a generate loop costs at most.
use Rattle.std.proofs.Common.{ℕ, zero, suc, ◌+◌, ◌*◌, ◌≤◌, ◌≡◌, Bool, true, cond, ℤ, List, length, Option, Some, None, arith}
use Rattle.std.specs.Prelude.{sum_by}
use Rattle.std.proofs.lemmas.List.Sums.{sum_by-cons}
use Rattle.sve_fault.specs.declared.fault.Fault.{Fault}
use Rattle.sve_grammar.specs.Reading.{leaf, pair, turn}
use Rattle.sve_tree.specs.Shape.{first_of, optional_tree, others_of, row_first, row_rest}
use Rattle.sve_tree.specs.Words.{label_tree}
use Rattle.sve_tree.specs.declared.expression.Parenthesized.{Parenthesized}
use Rattle.sve_tree.specs.Expressions.{parenthesized_tree, tree_at}
use Rattle.sve_tree.specs.Declarations.{header_tree}
use Rattle.sve_tree.specs.Items.{case_generate_item_tree, case_generate_item_trees, generate_block_tree, if_generate_tree, item_row, item_tree, optional_else_generate}
use Rattle.sve_tree.specs.declared.header.Header.{Header}
use Rattle.sve_tree.specs.declared.item.Instance.{Instance}
use Rattle.sve_tree.specs.declared.item.Instantiation.{Instantiation}
use Rattle.sve_tree.specs.declared.item.NetAssignment.{NetAssignment}
use Rattle.sve_tree.specs.declared.item.Item.{Item}
use Rattle.sve_tree.specs.declared.item.GenerateRegion.{Row_of-Item, end_of-Item, more_of-Item}
use Rattle.sve_tree.specs.declared.item.GenerateBlock.{GenerateBlock}
use Rattle.sve_tree.specs.declared.item.IfGenerate.{IfGenerate, IfGenerate', Held-IfGenerate-otherwise, None', Some'}
use Rattle.sve_tree.specs.declared.item.CaseGenerate.{Row_of-CaseGenerateItem, end_of-CaseGenerateItem, items-the_row-CaseGenerateItem, more_of-CaseGenerateItem}
use Rattle.sve_tree.specs.declared.item.CaseGenerateItem.{CaseGenerateItem}
use Rattle.sve_tree.specs.declared.item.Item.TheVariants as is_item
use Rattle.sve_tree.specs.declared.item.GenerateBlock.TheVariants as is_generate_block
use Rattle.sve_tree.specs.declared.item.CaseGenerateItem.TheVariants as is_case_generate_item
use Rattle.sve_spec.specs.declared.spec.Spec.{Spec}
use Rattle.sve_env.specs.Nodes.{nodes}
use Rattle.sve_measure.specs.Constants.{measured}
use Rattle.sve_generate.specs.Constructs.{block_token, nesting_fault}
use Rattle.sve_choice.specs.Conditions.{faults_in, holds}
use Rattle.sve_choice.specs.Labels.{case_nodes, chosen, item_nodes}
use Rattle.sve_item_names.specs.Declarations.{parameters_of, ports_of}
use Rattle.sve_item_names.specs.Items.{case_items_names, if_names}
use Rattle.sve_plan.specs.Plan.{Counted, Give, Plan, Spend, and_then, each, paid, run, Over}
use Rattle.sve_told.specs.Told.{Told}
use Rattle.sve_look.specs.Questions.{ElementOf, IndexOf, NetAt, PortsOf, Reply}
use Rattle.sve_body.specs.declared.place.Place.{Place}
use Rattle.sve_body.specs.Steps.{Steps}
use Rattle.sve_body.specs.Items.{assignment, assignment_uses, done, header, implied, instance, instances, instances_of, known_instance, plain_item, say_all, sought_instances, unknown_instance, use_all}
use Rattle.sve_body.specs.Body.{begun, block_in, block_label, block_of, block_within, body, by_number, case_in, case_item_at, case_item_in, counted_item, else_in, if_in, is_part, item, items_in, label_is_wrong, number_in}
use Rattle.sve_body.specs.Budget.{AreModest, AreModestCases, IsModest, IsModestBlock, IsModestBody, IsModestCase, IsModestElse, IsModestExpression, IsModestHeader, IsModestIf, body_tokens, item_tokens, tokens}
use Rattle.sve_body.proofs.AtMost.{CostsAtMost, at_most_asked, at_most_each, at_most_either, at_most_last, at_most_more, at_most_none, at_most_spent, at_most_then, not_over}
use Rattle.sve_body.proofs.Tokens.{has_token, tokens_of_list, tokens_of_pair, tokens_of_turn}

module _ {S : Type 0} (steps : Steps S) where
  given_costs : (n : ℕ) (s : S) → CostsAtMost {A = Reply} n (Give s)
  unfolding CostsAtMost
  given_costs n s = tt

  -- ---- what asks and costs nothing

  implied_costs : (token : ℕ) (s : S) → CostsAtMost 0 (implied steps token s)
  implied_costs token s = at_most_either 0 (steps.is_declared token s) (Give s) _ (given_costs 0 s) (at_most_asked 0 (NetAt (steps.told s).file (steps.told s).chunk token) (λ type. Give (steps.implicit_net token type s)) (λ type. given_costs 0 (steps.implicit_net token type s)))

  all_implied : (names : List ℕ) (s : S) (next : S → S) → CostsAtMost 0 (and_then (each (implied steps) names s) (λ t. Give (next t)))
  all_implied names s next = at_most_last 0 (each (implied steps) names s) (λ t. Give (next t)) (at_most_none (implied steps) names s implied_costs) (λ t. given_costs 0 (next t))

  assignment_costs : (a : NetAssignment) (s : S) → CostsAtMost 0 (assignment steps a s)
  assignment_costs a s = all_implied _ s (use_all steps (assignment_uses a))

  unknown_costs : (i : Instance) (s : S) → CostsAtMost 0 (unknown_instance steps i s)
  unknown_costs i s = all_implied (steps.unknown_tokens i s) s (steps.unknown i)

  known_costs : (i : Instance) (spec : Option Spec) (s : S) → CostsAtMost 0 (known_instance steps i spec s)
  known_costs i None s = unknown_costs i s
  known_costs i (Some spec) s = at_most_asked 0 (PortsOf spec) _ (λ ports. all_implied (steps.connection_tokens ports i s) s (steps.child spec ports i))

  found_costs : (i : Instantiation) (place : Option Place) (s : S) → CostsAtMost 0 (instances_of steps i place s)
  found_costs i None s = at_most_none (unknown_instance steps) i.instances.items.items (steps.no_definition i.definition s) unknown_costs
  found_costs i (Some place) s =
      at_most_asked 0 (ElementOf place.file place.chunk) (λ element. each (instance steps i.definition element) i.instances.items.items s)
      (λ element. at_most_none (instance steps i.definition element) i.instances.items.items s (λ one t. known_costs one (steps.specialized i.definition element one t).0 (steps.specialized i.definition element one t).1))

  sought_costs : (i : Instantiation) (s : S) → CostsAtMost 0 (sought_instances steps i s)
  sought_costs i s = at_most_asked 0 IndexOf (λ index. instances_of steps i (steps.definition_at index i.definition s) s) (λ index. found_costs i (steps.definition_at index i.definition s) s)

  -- ---- blocks

  within_costs : (n : ℕ) (fault : Option Fault) (contents : S → Plan Reply S) (s : S) → ((t : S) → CostsAtMost n (contents t)) → CostsAtMost n (block_within steps fault contents s)
  within_costs n (Some fault) contents s inside = given_costs n (steps.leave (steps.say fault s))
  within_costs n None contents s inside = at_most_last n (contents s) (λ t. Give (steps.leave t)) (inside s) (λ t. given_costs 0 (steps.leave t))

  block_costs : (n number : ℕ) (place : Option (ℕ × ℤ)) (b : GenerateBlock) (contents : S → Plan Reply S) (s : S) → ((t : S) → CostsAtMost n (contents t)) → CostsAtMost n (block_of steps number place b contents s)
  block_costs n number place b contents s inside =
      at_most_either n (label_is_wrong steps number (block_label b) s) (Give s) _ (given_costs n s) (within_costs n (nesting_fault (steps.depth s) (block_token b)) contents (steps.enter number place b s) inside)

  -- ---- what costs so much and no more

  done_costs : (t : ℕ) (counted : Counted S) → 1 ≤ t → counted.0 ≤ 3 * t → CostsAtMost (4 * t) (Spend 1 (done counted))
  done_costs t counted one modest = at_most_spent 1 (3 * t) (4 * t) (done counted) (omega arith) (at_most_spent counted.0 0 (3 * t) (Give counted.1) (omega arith) (given_costs 0 counted.1))

  paid_costs : {X : Type 0} (n m : ℕ) (counted : Counted X) (next : X → Plan Reply S) → counted.0 + m ≤ n → CostsAtMost m (next counted.1) → CostsAtMost n (paid counted next)
  paid_costs n m counted next fits costs = at_most_spent counted.0 m n (next counted.1) fits costs

  either_costs : (b : ℕ) (selected : Option ℕ) (none first : Plan Reply S) (further : ℕ → Plan Reply S) → CostsAtMost b none → CostsAtMost b first → ((k : ℕ) → CostsAtMost b (further k)) → CostsAtMost b (by_number selected none first further)
  either_costs b None none first further none_costs first_costs further_costs = none_costs
  either_costs b (Some zero) none first further none_costs first_costs further_costs = first_costs
  either_costs b (Some (suc k)) none first further none_costs first_costs further_costs = further_costs k

  -- what the labels of an item of a `case` cost, and then its block
  abbrev CostsCase : ℕ → CaseGenerateItem → S → Type 0
  CostsCase number i told = (b : ℕ) × (item_nodes (steps.told told) i + b ≤ 4 * tokens (case_generate_item_tree i)) × ((s : S) → CostsAtMost b (case_item_in steps number i s))

  abbrev CostsCases : {n : _} → ℕ → Row_of-CaseGenerateItem n → S → Type 0
  CostsCases number row told =
      (b : ℕ) × (sum_by (item_nodes (steps.told told)) (items-the_row-CaseGenerateItem _ row) + b ≤ 4 * sum_by tokens (case_generate_item_trees row)) × ((selected : Option ℕ) (s : S) → CostsAtMost b (case_item_at steps number selected row s))

  costs_case_of : {n : _} (keyword end number : ℕ) (selector : Parenthesized) (items : Row_of-CaseGenerateItem n) (s : S) → IsModestExpression steps selector.value.value → CostsCases number items s
      → CostsAtMost (4 * tokens (pair (leaf keyword) (pair (parenthesized_tree selector) (pair (first_of (case_generate_item_trees items)) (pair (others_of (case_generate_item_trees items)) (leaf end)))))) (Spend 1 (case_in steps number selector.value.value items s))
  unfolding item
  costs_case_of keyword end number selector items s modest cases =
      let trees = case_generate_item_trees items in let list = items-the_row-CaseGenerateItem _ items in
      let m = modest s in let f = cases.1 in
      let e = tokens_of_pair (parenthesized_tree selector) (pair (first_of trees) (pair (others_of trees) (leaf end))) in
      let e2 = tokens_of_pair (tree_at 13 selector.value.value) (leaf selector.closing) in
      let e3 = tokens_of_pair (first_of trees) (pair (others_of trees) (leaf end)) in
      let e4 = tokens_of_pair (others_of trees) (leaf end) in
      let e5 = tokens_of_list trees in
      at_most_spent 1 (case_nodes (steps.told s) selector.value.value list + cases.0) _ (case_in steps number selector.value.value items s) (omega arith)
      (paid_costs (case_nodes (steps.told s) selector.value.value list + cases.0) cases.0 (case_nodes (steps.told s) selector.value.value list, chosen (steps.told s) selector.value.value list) (λ r. case_item_at steps number r.0 items (say_all steps r.1 s)) (omega arith)
      (cases.2 (chosen (steps.told s) selector.value.value list).0 (say_all steps (chosen (steps.told s) selector.value.value list).1 s)))

  costs_branches : (number keyword : ℕ) (condition : Parenthesized) (block : GenerateBlock) (otherwise : Held-IfGenerate-otherwise) (s : S) → IsModestExpression steps condition.value.value
      → ((t : S) → CostsAtMost (4 * tokens (generate_block_tree block)) (block_in steps true number None block t)) → ((t : S) → CostsAtMost (4 * tokens (optional_else_generate otherwise)) (else_in steps number otherwise t))
      → (m : ℕ) × (1 + m ≤ 4 * tokens (if_generate_tree (IfGenerate' keyword condition block otherwise))) × CostsAtMost m (if_in steps number (IfGenerate' keyword condition block otherwise) s)
  unfolding item item_tree
  costs_branches number keyword condition block otherwise s modest block_costs else_costs =
      let m = modest s in let c = nodes (steps.told s) condition.value.value in let r = measured (steps.told s) condition.value.value in
      let b = 4 * tokens (generate_block_tree block) in let o = 4 * tokens (optional_else_generate otherwise) in
      let e = tokens_of_pair (parenthesized_tree condition) (pair (generate_block_tree block) (optional_else_generate otherwise)) in
      let e2 = tokens_of_pair (tree_at 13 condition.value.value) (leaf condition.closing) in
      let e3 = tokens_of_pair (generate_block_tree block) (optional_else_generate otherwise) in (
        c + (b + o),
        (omega arith),
        paid_costs (c + (b + o)) (b + o) (c, r) (λ j. cond (holds j) (block_in steps true number None block (say_all steps (faults_in j) s)) (else_in steps number otherwise (say_all steps (faults_in j) s))) (omega arith)
            (at_most_either (b + o) (holds r) (block_in steps true number None block (say_all steps (faults_in r) s)) (else_in steps number otherwise (say_all steps (faults_in r) s))
            (at_most_more b (b + o) (block_in steps true number None block (say_all steps (faults_in r) s)) (omega arith) (block_costs (say_all steps (faults_in r) s))) (at_most_more o (b + o) (else_in steps number otherwise (say_all steps (faults_in r) s)) (omega arith) (else_costs (say_all steps (faults_in r) s)))),
      )

  mutual
    unfolding item item_tree IsModest

    costs_item : (outer : Option ℕ) (i : Item) (s : S) → IsModest steps i → CostsAtMost (4 * item_tokens i) (Spend 1 (item steps outer i s))
    costs_item outer (is_item.Assign assignments) s modest =
        let one = has_token (is_item.Assign assignments) in
        at_most_spent 1 0 (4 * item_tokens (is_item.Assign assignments)) (each (assignment steps) assignments.value.assignments.items.items s) (omega arith) (at_most_none (assignment steps) assignments.value.assignments.items.items s assignment_costs)
    costs_item outer (is_item.Instances instantiation) s modest =
        let one = has_token (is_item.Instances instantiation) in let m = modest s in
        at_most_spent 1 (3 * item_tokens (is_item.Instances instantiation)) (4 * item_tokens (is_item.Instances instantiation)) (instances steps instantiation.value s) (omega arith)
        (paid_costs (3 * item_tokens (is_item.Instances instantiation)) 0 (steps.overrides instantiation.value.overrides s) (sought_instances steps instantiation.value) (omega arith) (sought_costs instantiation.value (steps.overrides instantiation.value.overrides s).1))
    costs_item outer (is_item.Region' _ keyword _ items end) s modest =
        let e = tokens_of_pair (item_row items) (leaf end) in
        at_most_spent 1 (4 * tokens (item_row items)) (4 * tokens (pair (leaf keyword) (pair (item_row items) (leaf end)))) (items_in steps items s) (omega arith) (costs_items items s modest)
    costs_item outer (is_item.LoopGenerate' _ keyword opening genvar name equals start first_semicolon condition second_semicolon step closing block) s modest = absurd modest
    costs_item outer (is_item.IfGenerate' _ construct) s modest =
        let c = costs_if (number_in steps outer s) construct (begun steps outer (if_names construct) s) modest in
        at_most_spent 1 c.0 (4 * tokens (if_generate_tree construct)) (if_in steps (number_in steps outer s) construct (begun steps outer (if_names construct) s)) c.1 c.2
    costs_item outer (is_item.CaseGenerate' _ keyword selector _ items end) s modest =
        costs_case_of keyword end (number_in steps outer s) selector items (begun steps outer (case_items_names items) s) modest.0 (costs_cases (number_in steps outer s) items (begun steps outer (case_items_names items) s) modest.1)
    costs_item outer (is_item.Empty semicolon) s modest = done_costs (item_tokens (is_item.Empty semicolon)) (plain_item steps (is_item.Empty semicolon) s) (has_token (is_item.Empty semicolon)) (modest s)
    costs_item outer (is_item.Import declaration) s modest = done_costs (item_tokens (is_item.Import declaration)) (plain_item steps (is_item.Import declaration) s) (has_token (is_item.Import declaration)) (modest s)
    costs_item outer (is_item.Parameters declaration) s modest = done_costs (item_tokens (is_item.Parameters declaration)) (plain_item steps (is_item.Parameters declaration) s) (has_token (is_item.Parameters declaration)) (modest s)
    costs_item outer (is_item.Typedef declaration) s modest = done_costs (item_tokens (is_item.Typedef declaration)) (plain_item steps (is_item.Typedef declaration) s) (has_token (is_item.Typedef declaration)) (modest s)
    costs_item outer (is_item.Function function) s modest = done_costs (item_tokens (is_item.Function function)) (plain_item steps (is_item.Function function) s) (has_token (is_item.Function function)) (modest s)
    costs_item outer (is_item.Genvars declaration) s modest = done_costs (item_tokens (is_item.Genvars declaration)) (plain_item steps (is_item.Genvars declaration) s) (has_token (is_item.Genvars declaration)) (modest s)
    costs_item outer (is_item.Net declaration) s modest = done_costs (item_tokens (is_item.Net declaration)) (plain_item steps (is_item.Net declaration) s) (has_token (is_item.Net declaration)) (modest s)
    costs_item outer (is_item.Variable declaration) s modest = done_costs (item_tokens (is_item.Variable declaration)) (plain_item steps (is_item.Variable declaration) s) (has_token (is_item.Variable declaration)) (modest s)
    costs_item outer (is_item.Data declaration) s modest = done_costs (item_tokens (is_item.Data declaration)) (plain_item steps (is_item.Data declaration) s) (has_token (is_item.Data declaration)) (modest s)
    costs_item outer (is_item.Clocked procedure) s modest = done_costs (item_tokens (is_item.Clocked procedure)) (plain_item steps (is_item.Clocked procedure) s) (has_token (is_item.Clocked procedure)) (modest s)
    costs_item outer (is_item.Plain procedure) s modest = done_costs (item_tokens (is_item.Plain procedure)) (plain_item steps (is_item.Plain procedure) s) (has_token (is_item.Plain procedure)) (modest s)
    costs_item outer (is_item.Modports declaration) s modest = done_costs (item_tokens (is_item.Modports declaration)) (plain_item steps (is_item.Modports declaration) s) (has_token (is_item.Modports declaration)) (modest s)
    costs_item outer (is_item.SystemTask task) s modest = done_costs (item_tokens (is_item.SystemTask task)) (plain_item steps (is_item.SystemTask task) s) (has_token (is_item.SystemTask task)) (modest s)

    costs_items : {n : _} (items : Row_of-Item n) (s : S) → AreModest steps items → CostsAtMost (4 * tokens (item_row items)) (items_in steps items s)
    costs_items end_of-Item s modest = given_costs 0 s
    costs_items (more_of-Item i rest) s modest =
        let e = tokens_of_turn (item_tree i) (item_row rest) in
        at_most_more (4 * item_tokens i + 4 * tokens (item_row rest)) (4 * tokens (turn (item_tree i) (item_row rest))) (and_then (Spend 1 (item steps None i s)) (λ t. items_in steps rest t)) (omega arith)
        (at_most_then (4 * item_tokens i) (4 * tokens (item_row rest)) (Spend 1 (item steps None i s)) (λ t. items_in steps rest t) (costs_item None i s modest.0) (λ t. costs_items rest t modest.1))

    costs_block : (nests : Bool) (number : ℕ) (place : Option (ℕ × ℤ)) (b : GenerateBlock) (s : S) → IsModestBlock steps b → CostsAtMost (4 * tokens (generate_block_tree b)) (block_in steps nests number place b s)
    costs_block nests number place (is_generate_block.Block' at begin label n items end last) s modest =
        let e = tokens_of_pair (optional_tree label_tree label) (pair (item_row items) (pair (leaf end) (optional_tree label_tree last))) in let f = tokens_of_pair (item_row items) (pair (leaf end) (optional_tree label_tree last)) in
        block_costs (4 * tokens (pair (leaf begin) (pair (optional_tree label_tree label) (pair (item_row items) (pair (leaf end) (optional_tree label_tree last)))))) number place (is_generate_block.Block' at begin label n items end last) (λ t. items_in steps items t) s
        (λ t. at_most_more (4 * tokens (item_row items)) (4 * tokens (pair (leaf begin) (pair (optional_tree label_tree label) (pair (item_row items) (pair (leaf end) (optional_tree label_tree last)))))) (items_in steps items t) (omega arith) (costs_items items t modest))
    costs_block nests number place (is_generate_block.Item' at i) s modest =
        at_most_either (4 * item_tokens i) (is_part nests i) (Spend 1 (item steps (Some number) i s)) (block_of steps number place (is_generate_block.Item' at i) (λ t. Spend 1 (item steps None i t)) s)
        (costs_item (Some number) i s modest) (block_costs (4 * item_tokens i) number place (is_generate_block.Item' at i) (λ t. Spend 1 (item steps None i t)) s (λ t. costs_item None i t modest))

    costs_if : (number : ℕ) (c : IfGenerate) (s : S) → IsModestIf steps c → (m : ℕ) × (1 + m ≤ 4 * tokens (if_generate_tree c)) × CostsAtMost m (if_in steps number c s)
    costs_if number (IfGenerate' keyword condition first otherwise) s modest = costs_branches number keyword condition first otherwise s modest.0 (λ t. costs_block true number None first t modest.1) (λ t. costs_else number otherwise t modest.2)

    costs_else : (number : ℕ) (otherwise : Held-IfGenerate-otherwise) (s : S) → IsModestElse steps otherwise → CostsAtMost (4 * tokens (optional_else_generate otherwise)) (else_in steps number otherwise s)
    costs_else number None' s modest = given_costs 0 s
    costs_else number (Some' keyword block) s modest = at_most_more (4 * tokens (generate_block_tree block)) (4 * tokens (pair (leaf keyword) (generate_block_tree block))) (block_in steps true number None block s) (omega arith) (costs_block true number None block s modest)

    costs_case_item : (number : ℕ) (i : CaseGenerateItem) (told : S) → IsModestCase steps i → CostsCase number i told
    costs_case_item number (is_case_generate_item.Default keyword colon block) told modest =
        let e = tokens_of_pair (optional_tree leaf colon) (generate_block_tree block) in
        (4 * tokens (generate_block_tree block), (omega arith), λ s. costs_block true number None block s modest)
    costs_case_item number (is_case_generate_item.Labels labels colon block) told modest =
        let m = modest.0 told in let e = tokens_of_pair (row_first (tree_at 13) labels) (row_rest (tree_at 13) leaf labels) in
        let f = tokens_of_pair (row_first (tree_at 13) labels) (pair (row_rest (tree_at 13) leaf labels) (pair (leaf colon) (generate_block_tree block))) in
        let h = tokens_of_pair (row_rest (tree_at 13) leaf labels) (pair (leaf colon) (generate_block_tree block)) in
        (4 * tokens (generate_block_tree block), (omega arith), λ s. costs_block true number None block s modest.1)

    costs_cases : {n : _} (number : ℕ) (row : Row_of-CaseGenerateItem n) (told : S) → AreModestCases steps row → CostsCases number row told
    costs_cases number end_of-CaseGenerateItem told modest = (0, (omega arith), λ selected s. given_costs 0 s)
    costs_cases number (more_of-CaseGenerateItem i rest) told modest =
        let one = costs_case_item number i told modest.0 in let others = costs_cases number rest told modest.1 in let f = one.1 in let h = others.1 in
        let n = sum_by-cons (item_nodes (steps.told told)) i (items-the_row-CaseGenerateItem _ rest) in let w = sum_by-cons tokens (case_generate_item_tree i) (case_generate_item_trees rest) in (
          one.0 + others.0,
          (omega arith),
          λ selected s. either_costs (one.0 + others.0) selected (Give s) (case_item_in steps number i s) (λ further. case_item_at steps number (Some further) rest s)
              (given_costs (one.0 + others.0) s) (at_most_more one.0 (one.0 + others.0) (case_item_in steps number i s) (omega arith) (one.2 s)) (λ k. at_most_more others.0 (one.0 + others.0) (case_item_at steps number (Some k) rest s) (omega arith) (others.2 (Some k) s)),
        )

  -- ---- a body

  header_costs : (h : Header) (s : S) → IsModestHeader steps h → CostsAtMost (4 * tokens (header_tree h)) (header steps h s)
  header_costs h s modest =
      let found = steps.header_parameters h (steps.header_imports h s) in let m = modest (steps.header_imports h s) found.1 in
      at_most_spent (length (parameters_of h.parameters)) (found.0 + (length (ports_of h.ports) + (steps.header_ports h found.1).0)) (4 * tokens (header_tree h)) _ (omega arith)
      (paid_costs (found.0 + (length (ports_of h.ports) + (steps.header_ports h found.1).0)) (length (ports_of h.ports) + (steps.header_ports h found.1).0) found (λ t. Spend (length (ports_of h.ports)) (done (steps.header_ports h t))) (omega arith)
      (at_most_spent (length (ports_of h.ports)) (steps.header_ports h found.1).0 (length (ports_of h.ports) + (steps.header_ports h found.1).0) (done (steps.header_ports h found.1)) (omega arith)
      (at_most_spent (steps.header_ports h found.1).0 0 (steps.header_ports h found.1).0 (Give (steps.header_ports h found.1).1) (omega arith) (given_costs 0 (steps.header_ports h found.1).1))))

  pub body_costs : (h : Header) (items : List Item) (s : S) → IsModestBody steps h items → CostsAtMost (4 * body_tokens h items) (body steps h items s)
  body_costs h items s modest =
      at_most_more (4 * tokens (header_tree h) + 4 * sum_by item_tokens items) (4 * body_tokens h items) (body steps h items s) (omega arith)
      (at_most_then (4 * tokens (header_tree h)) (4 * sum_by item_tokens items) (header steps h s) (each (counted_item steps) items) (header_costs h s modest.0) (λ t. at_most_each (counted_item steps) item_tokens (IsModest steps) items t (costs_item None) modest.1))

  pub is_within_budget : (h : Header) (items : List Item) (s : S) → IsModestBody steps h items → (told : Told Reply) (fuel : ℕ) → 4 * body_tokens h items ≤ fuel → run told fuel 0 (body steps h items s) ≡ Over → ⊥
  is_within_budget h items s modest told fuel enough = not_over told fuel (4 * body_tokens h items) (body steps h items s) (body_costs h items s modest) enough
