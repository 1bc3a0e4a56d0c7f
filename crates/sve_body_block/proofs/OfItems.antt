-- What each kind of item and of block comes to, as its fields are seen from outside.
use Rattle.std.specs.Global.{Box, Vec}
use Rattle.std.proofs.Common.{ℕ, zero, suc, Bool, true, false, cond, ℤ, List, Option, Some, None, ◌≡◌, refl, ap, sym, ◌∙◌}
use Rattle.std.proofs.Math.Path.{fun_ext}
use Rattle.sve_tree.specs.declared.row.Row.{Row}
use Rattle.sve_tree.specs.declared.expression.Expr.{Expr}
use Rattle.sve_tree.specs.declared.item.ContinuousAssign.{ContinuousAssign}
use Rattle.sve_tree.specs.declared.item.Instantiation.{Instantiation}
use Rattle.sve_tree.specs.declared.item.NetAssignment.{NetAssignment}
use Rattle.sve_tree.specs.declared.item.Item.{Item}
use Rattle.sve_tree.specs.declared.item.GenerateRegion.{GenerateRegion, Row_of-Item, end_of-Item, items-the_row-Item, more_of-Item}
use Rattle.sve_tree.specs.declared.item.GenerateBlock.{GenerateBlock}
use Rattle.sve_tree.specs.declared.item.GenerateBody.{GenerateBody}
use Rattle.sve_tree.specs.declared.item.ElseGenerate.{ElseGenerate}
use Rattle.sve_tree.specs.declared.item.LoopGenerate.{LoopGenerate}
use Rattle.sve_tree.specs.declared.item.IfGenerate.{IfGenerate, IfGenerate', None', Some', out-IfGenerate}
use Rattle.sve_tree.specs.declared.item.CaseGenerate.{CaseGenerate, Row_of-CaseGenerateItem, end_of-CaseGenerateItem, items-the_row-CaseGenerateItem, more_of-CaseGenerateItem}
use Rattle.sve_tree.specs.declared.item.CaseGenerateItem.{CaseGenerateItem}
use Rattle.sve_tree.specs.declared.item.CaseGenerateItem.TheBlock.{hidden-the_row-CaseGenerateItem-1, hidden-the_row-Item-0, items_hidden-the_row-CaseGenerateItem-1, items_hidden-the_row-Item-0}
use Rattle.sve_tree.specs.declared.item.Item.TheVariants as is_item
use Rattle.sve_tree.specs.declared.item.GenerateBlock.TheVariants as is_generate_block
use Rattle.sve_tree.specs.declared.item.CaseGenerateItem.TheVariants as is_case_generate_item
use denote.Hole.Carrier.{out}
use Rattle.sve_plan.specs.Plan.{Give, Plan, Spend, and_then, each, paid}
use Rattle.sve_look.specs.Questions.{Reply}
use Rattle.sve_item_names.specs.Items.{item_names}
use Rattle.sve_body.specs.Steps.{Steps}
use Rattle.sve_body.specs.Items.{assignment, instances}
use Rattle.sve_body.specs.Body.{begun, block_in, case_item_at, case_item_in, counted_item, if_in, is_part, item, items_in, number_in}
use Rattle.sve_body_construct.specs.Parts.{found_condition, found_item}
use Rattle.sve_body_block.specs.Parts.{case_of_construct, contents_of, item_at, loop_of_construct, scoped_block}

module _ {S : Type 0} (steps : Steps S) where
  -- ---- rows

  items_are : {n : _} (row : Row_of-Item n) (s : S) → items_in steps row s ≡ each (counted_item steps) (items-the_row-Item n row) s
  unfolding item each
  items_are end_of-Item s = refl
  items_are (more_of-Item i rest) s = ap (and_then (Spend 1 (item steps None i s))) (fun_ext (λ t. items_are rest t))

  items_of : (items : Vec Item) (s : S) → items_in steps (hidden-the_row-Item-0 items) s ≡ each (counted_item steps) items.items s
  items_of items s = items_are (hidden-the_row-Item-0 items) s ∙ ap (λ (l : List Item). each (counted_item steps) l s) (items_hidden-the_row-Item-0 items)

  case_items_are : {n : _} (number : ℕ) (selected : Option ℕ) (row : Row_of-CaseGenerateItem n) (s : S) → case_item_at steps number selected row s ≡ item_at steps number selected (items-the_row-CaseGenerateItem n row) s
  unfolding item item_at
  case_items_are number selected end_of-CaseGenerateItem s = refl
  case_items_are number None (more_of-CaseGenerateItem i rest) s = refl
  case_items_are number (Some zero) (more_of-CaseGenerateItem i rest) s = refl
  case_items_are number (Some (suc further)) (more_of-CaseGenerateItem i rest) s = case_items_are number (Some further) rest s

  -- ---- items

  pub of_assign : (outer : Option ℕ) (a : Box ContinuousAssign) (s : S) → item steps outer (is_item.Assign a) s ≡ each (assignment steps) a.value.assignments.items.items s
  unfolding item
  of_assign outer a s = refl

  pub of_instances : (outer : Option ℕ) (i : Box Instantiation) (s : S) → item steps outer (is_item.Instances i) s ≡ instances steps i.value s
  unfolding item
  of_instances outer i s = refl

  pub of_region : (outer : Option ℕ) (region : Box GenerateRegion) (s : S) → item steps outer (is_item.Region region) s ≡ each (counted_item steps) region.value.items.items s
  unfolding item
  of_region outer region s = items_of region.value.items s

  pub of_loop : (outer : Option ℕ) (c : Box LoopGenerate) (s : S) → item steps outer (is_item.LoopGenerate c) s ≡ loop_of_construct steps (number_in steps None s) c.value (begun steps None (item_names (is_item.LoopGenerate c)) s)
  unfolding item item_names
  of_loop outer c s = refl

  pub of_if : (outer : Option ℕ) (c : Box IfGenerate) (s : S) → item steps outer (is_item.IfGenerate c) s ≡ if_in steps (number_in steps outer s) c.value (begun steps outer (item_names (is_item.IfGenerate c)) s)
  unfolding item item_names
  of_if outer c s = refl

  -- the plan of a `case` over its list of items
  case_is : (number : ℕ) (selector : Expr) (items : Vec CaseGenerateItem) (s : S)
      → paid (found_item steps selector (items-the_row-CaseGenerateItem _ (hidden-the_row-CaseGenerateItem-1 items)) s) (λ r. case_item_at steps number r.0 (hidden-the_row-CaseGenerateItem-1 items) r.1)
      ≡ paid (found_item steps selector items.items s) (λ r. item_at steps number r.0 items.items r.1)
  case_is number selector items s =
      ap (λ (f : Option ℕ × S → Plan Reply S). paid (found_item steps selector (items-the_row-CaseGenerateItem _ (hidden-the_row-CaseGenerateItem-1 items)) s) f) (fun_ext (λ r. case_items_are number r.0 (hidden-the_row-CaseGenerateItem-1 items) r.1))
      ∙ ap (λ (l : List CaseGenerateItem). paid (found_item steps selector l s) (λ r. item_at steps number r.0 l r.1)) (items_hidden-the_row-CaseGenerateItem-1 items)

  pub of_case : (outer : Option ℕ) (c : Box CaseGenerate) (s : S) → item steps outer (is_item.CaseGenerate c) s ≡ case_of_construct steps (number_in steps outer s) c.value (begun steps outer (item_names (is_item.CaseGenerate c)) s)
  unfolding item item_names
  of_case outer c s = case_is (number_in steps outer s) c.value.selector.value.value c.value.items (begun steps outer (item_names (is_item.CaseGenerate c)) s)

  -- ---- conditionals

  -- the block behind `else`, where there is one
  abbrev pub otherwise_in : ℕ → Option ElseGenerate → S → Plan Reply S
  otherwise_in number None s = Give s
  otherwise_in number (Some branch) s = block_in steps true number None branch.block s

  abbrev pub branches_in : ℕ → IfGenerate → Bool → S → Plan Reply S
  branches_in number c on s = cond on (block_in steps true number None (out-IfGenerate c).chosen s) (otherwise_in number (out-IfGenerate c).otherwise s)

  pub of_branches : (number : ℕ) (c : IfGenerate) (s : S) → if_in steps number c s ≡ paid (found_condition steps (out-IfGenerate c).condition.value.value s) (λ r. branches_in number c r.0 r.1)
  unfolding item out-IfGenerate out
  of_branches number (IfGenerate' keyword condition chosen None') s = refl
  of_branches number (IfGenerate' keyword condition chosen (Some' keyword_2 block)) s = refl

  pub of_default : (number : ℕ) (keyword : ℕ) (colon : Option ℕ) (block : GenerateBlock) (s : S) → case_item_in steps number (is_case_generate_item.Default keyword colon block) s ≡ block_in steps true number None block s
  unfolding item
  of_default number keyword colon block s = refl

  pub of_labels : (number : ℕ) (labels : Row Expr ℕ) (colon : ℕ) (block : GenerateBlock) (s : S) → case_item_in steps number (is_case_generate_item.Labels labels colon block) s ≡ block_in steps true number None block s
  unfolding item
  of_labels number labels colon block s = refl

  -- ---- blocks

  pub of_body : (nests : Bool) (number : ℕ) (turn : Option (ℕ × ℤ)) (body : Box GenerateBody) (s : S) → block_in steps nests number turn (is_generate_block.Block body) s ≡ scoped_block steps number turn (is_generate_block.Block body) s
  unfolding item
  of_body nests number turn body s = refl

  -- a block of one item, by whether that is a part of the construct around it
  abbrev by_part : Bool → ℕ → Option (ℕ × ℤ) → Box Item → S → Plan Reply S
  by_part part number turn i s = cond part (Spend 1 (item steps (Some number) i.value s)) (scoped_block steps number turn (is_generate_block.Item i) s)

  pub of_part : (nests : Bool) (number : ℕ) (turn : Option (ℕ × ℤ)) (i : Box Item) (s : S) (part : Bool) → part ≡ is_part nests i.value → part ≡ true → block_in steps nests number turn (is_generate_block.Item i) s ≡ Spend 1 (item steps (Some number) i.value s)
  unfolding item
  of_part nests number turn i s part is so = ap (λ b. by_part b number turn i s) (sym is ∙ so)

  pub of_bare : (nests : Bool) (number : ℕ) (turn : Option (ℕ × ℤ)) (i : Box Item) (s : S) (part : Bool) → part ≡ is_part nests i.value → part ≡ false → block_in steps nests number turn (is_generate_block.Item i) s ≡ scoped_block steps number turn (is_generate_block.Item i) s
  unfolding item
  of_bare nests number turn i s part is so = ap (λ b. by_part b number turn i s) (sym is ∙ so)

  -- ---- an item by its variant, with what was found on the way

  pub assign_is : (outer : Option ℕ) (i : Item) (a : Box ContinuousAssign) (held : ContinuousAssign) (s : S) (lent : List NetAssignment) → i ≡ is_item.Assign a → held ≡ a.value → lent ≡ held.assignments.items.items → item steps outer i s ≡ each (assignment steps) lent s
  assign_is outer i a held s lent is inside same =
      ap (λ (x : Item). item steps outer x s) is ∙ of_assign outer a s ∙ ap (λ (x : ContinuousAssign). each (assignment steps) x.assignments.items.items s) (sym inside) ∙ ap (λ (l : List NetAssignment). each (assignment steps) l s) (sym same)

  pub instances_is : (outer : Option ℕ) (i : Item) (a : Box Instantiation) (held : Instantiation) (s : S) → i ≡ is_item.Instances a → held ≡ a.value → item steps outer i s ≡ instances steps held s
  instances_is outer i a held s is inside = ap (λ (x : Item). item steps outer x s) is ∙ of_instances outer a s ∙ ap (λ (x : Instantiation). instances steps x s) (sym inside)

  pub region_is : (outer : Option ℕ) (i : Item) (region : Box GenerateRegion) (held : GenerateRegion) (s : S) (lent : List Item) → i ≡ is_item.Region region → held ≡ region.value → lent ≡ held.items.items → item steps outer i s ≡ each (counted_item steps) lent s
  region_is outer i region held s lent is inside same =
      ap (λ (x : Item). item steps outer x s) is ∙ of_region outer region s ∙ ap (λ (x : GenerateRegion). each (counted_item steps) x.items.items s) (sym inside) ∙ ap (λ (l : List Item). each (counted_item steps) l s) (sym same)

  -- a construct that began, with its number
  begins_so : {C : Type 0} (plan : ℕ → C → S → Plan Reply S) (outer : Option ℕ) (i : Item) (c : C) (s t : S) (variant : Item) (number : ℕ) → i ≡ variant → number ≡ number_in steps outer s → t ≡ begun steps outer (item_names i) s
      → plan (number_in steps outer s) c (begun steps outer (item_names variant) s) ≡ plan number c t
  begins_so plan outer i c s t variant number is n b =
      ap (λ (k : ℕ). plan k c (begun steps outer (item_names variant) s)) (sym n) ∙ ap (plan number c) (sym (b ∙ ap (λ (x : Item). begun steps outer (item_names x) s) is))

  pub loop_is : (outer : Option ℕ) (i : Item) (c : Box LoopGenerate) (held : LoopGenerate) (s t : S) (number : ℕ) → i ≡ is_item.LoopGenerate c → held ≡ c.value → number ≡ number_in steps None s → t ≡ begun steps None (item_names i) s → item steps outer i s ≡ loop_of_construct steps number held t
  loop_is outer i c held s t number is inside n b = ap (λ (x : Item). item steps outer x s) is ∙ of_loop outer c s ∙ begins_so (λ k (x : LoopGenerate) u. loop_of_construct steps k x u) None i c.value s t (is_item.LoopGenerate c) number is n b ∙ ap (λ (x : LoopGenerate). loop_of_construct steps number x t) (sym inside)

  pub if_is : (outer : Option ℕ) (i : Item) (c : Box IfGenerate) (held : IfGenerate) (s t : S) (number : ℕ) → i ≡ is_item.IfGenerate c → held ≡ c.value → number ≡ number_in steps outer s → t ≡ begun steps outer (item_names i) s → item steps outer i s ≡ if_in steps number held t
  if_is outer i c held s t number is inside n b = ap (λ (x : Item). item steps outer x s) is ∙ of_if outer c s ∙ begins_so (λ k (x : IfGenerate) u. if_in steps k x u) outer i c.value s t (is_item.IfGenerate c) number is n b ∙ ap (λ (x : IfGenerate). if_in steps number x t) (sym inside)

  pub cased_is : (outer : Option ℕ) (i : Item) (c : Box CaseGenerate) (held : CaseGenerate) (s t : S) (number : ℕ) → i ≡ is_item.CaseGenerate c → held ≡ c.value → number ≡ number_in steps outer s → t ≡ begun steps outer (item_names i) s → item steps outer i s ≡ case_of_construct steps number held t
  cased_is outer i c held s t number is inside n b = ap (λ (x : Item). item steps outer x s) is ∙ of_case outer c s ∙ begins_so (λ k (x : CaseGenerate) u. case_of_construct steps k x u) outer i c.value s t (is_item.CaseGenerate c) number is n b ∙ ap (λ (x : CaseGenerate). case_of_construct steps number x t) (sym inside)

  -- ---- what follows a condition

  pub branch_chosen : (number : ℕ) (c : IfGenerate) (found : Bool × S) (s : S) (on : Bool) → (on, s) ≡ found → on ≡ true → branches_in number c found.0 found.1 ≡ block_in steps true number None (out-IfGenerate c).chosen s
  branch_chosen number c found s on so is = rw (← so, is) refl

  pub branch_otherwise : (number : ℕ) (c : IfGenerate) (found : Bool × S) (s : S) (on : Bool) (branch : ElseGenerate) → (on, s) ≡ found → on ≡ false → (out-IfGenerate c).otherwise ≡ Some branch → branches_in number c found.0 found.1 ≡ block_in steps true number None branch.block s
  branch_otherwise number c found s on branch so is there = rw (← so, is) (ap (λ (o : Option ElseGenerate). otherwise_in number o s) there)

  pub branch_none : (number : ℕ) (c : IfGenerate) (found : Bool × S) (s : S) (on : Bool) → (on, s) ≡ found → on ≡ false → (out-IfGenerate c).otherwise ≡ None → branches_in number c found.0 found.1 ≡ Give s
  branch_none number c found s on so is there = rw (← so, is) (ap (λ (o : Option ElseGenerate). otherwise_in number o s) there)

  -- ---- a block by its variant

  pub body_is : (nests : Bool) (number : ℕ) (turn : Option (ℕ × ℤ)) (b : GenerateBlock) (body : Box GenerateBody) (s : S) → b ≡ is_generate_block.Block body → block_in steps nests number turn b s ≡ scoped_block steps number turn b s
  body_is nests number turn b body s is = ap (λ (x : GenerateBlock). block_in steps nests number turn x s) is ∙ of_body nests number turn body s ∙ ap (λ (x : GenerateBlock). scoped_block steps number turn x s) (sym is)

  pub part_is : (nests : Bool) (number : ℕ) (turn : Option (ℕ × ℤ)) (b : GenerateBlock) (i : Box Item) (held : Item) (s : S) (part : Bool) → b ≡ is_generate_block.Item i → held ≡ i.value → part ≡ is_part nests held → part ≡ true → block_in steps nests number turn b s ≡ Spend 1 (item steps (Some number) held s)
  part_is nests number turn b i held s part is inside judged so =
      ap (λ (x : GenerateBlock). block_in steps nests number turn x s) is ∙ of_part nests number turn i s part (judged ∙ ap (is_part nests) inside) so ∙ ap (λ (x : Item). Spend 1 (item steps (Some number) x s)) (sym inside)

  pub bare_is : (nests : Bool) (number : ℕ) (turn : Option (ℕ × ℤ)) (b : GenerateBlock) (i : Box Item) (held : Item) (s : S) (part : Bool) → b ≡ is_generate_block.Item i → held ≡ i.value → part ≡ is_part nests held → part ≡ false → block_in steps nests number turn b s ≡ scoped_block steps number turn b s
  bare_is nests number turn b i held s part is inside judged so =
      ap (λ (x : GenerateBlock). block_in steps nests number turn x s) is ∙ of_bare nests number turn i s part (judged ∙ ap (is_part nests) inside) so ∙ ap (λ (x : GenerateBlock). scoped_block steps number turn x s) (sym is)

  -- ---- what stands in a block, by its variant

  pub items_within : (b : GenerateBlock) (body : Box GenerateBody) (held : GenerateBody) (s : S) (lent : List Item) → b ≡ is_generate_block.Block body → held ≡ body.value → lent ≡ held.items.items → contents_of steps b s ≡ each (counted_item steps) lent s
  items_within b body held s lent is inside same =
      ap (λ (x : GenerateBlock). contents_of steps x s) is ∙ items_of body.value.items s ∙ ap (λ (x : GenerateBody). each (counted_item steps) x.items.items s) (sym inside) ∙ ap (λ (l : List Item). each (counted_item steps) l s) (sym same)

  pub item_within : (b : GenerateBlock) (i : Box Item) (held : Item) (s : S) → b ≡ is_generate_block.Item i → held ≡ i.value → contents_of steps b s ≡ Spend 1 (item steps None held s)
  item_within b i held s is inside = ap (λ (x : GenerateBlock). contents_of steps x s) is ∙ ap (λ (x : Item). Spend 1 (item steps None x s)) (sym inside)

  -- ---- constructs by what is lent of them

  pub condition_is : (number : ℕ) (c : IfGenerate) (e : Expr) (s : S) → e ≡ (out-IfGenerate c).condition.value.value → if_in steps number c s ≡ paid (found_condition steps e s) (λ r. branches_in number c r.0 r.1)
  condition_is number c e s is = of_branches number c s ∙ ap (λ (x : Expr). paid (found_condition steps x s) (λ r. branches_in number c r.0 r.1)) (sym is)

  pub selection_is : (number : ℕ) (c : CaseGenerate) (e : Expr) (lent : List CaseGenerateItem) (s : S) → e ≡ c.selector.value.value → lent ≡ c.items.items → case_of_construct steps number c s ≡ paid (found_item steps e lent s) (λ r. item_at steps number r.0 c.items.items r.1)
  selection_is number c e lent s is same =
      ap (λ (x : Expr). paid (found_item steps x c.items.items s) (λ r. item_at steps number r.0 c.items.items r.1)) (sym is) ∙ ap (λ (l : List CaseGenerateItem). paid (found_item steps e l s) (λ r. item_at steps number r.0 c.items.items r.1)) (sym same)
