-- What parts of constructs come to, by what was found on the way.
use Rattle.std.proofs.Common.{◌≡◌, ◌<◌, ◌≤◌, ℕ, zero, suc, ◌+◌, ℤ, Bool, true, false, cond, List, [], ◌∷◌, length, drop, get_or, Option, Some, None, is_some, Result, Ok, Err, refl, ap, sym, ◌∙◌, arith}
use Rattle.std.proofs.lemmas.List.{drop_more}
use Rattle.std.proofs.Math.ListN.{drop_of_length-le}
use Rattle.sve_fault.specs.declared.fault.Fault.{Fault}
use Rattle.sve_tree.specs.declared.item.CaseGenerateItem.{CaseGenerateItem}
use Rattle.sve_tree.specs.declared.item.Item.{Item}
use Rattle.sve_tree.specs.declared.item.GenerateBlock.{GenerateBlock}
use Rattle.sve_tree.specs.declared.item.LoopGenerate.{LoopGenerate}
use Rattle.sve_generate.specs.Constructs.{block_token, nesting_fault}
use Rattle.sve_plan.specs.Plan.{Give, Plan, Spend, and_then, each}
use Rattle.sve_look.specs.Questions.{Reply}
use Rattle.sve_body.specs.Steps.{Steps}
use Rattle.sve_body.specs.Items.{say_all}
use Rattle.sve_body.specs.Body.{block_label, block_of, block_within, case_item_in, counted_item, fault_list, item, label_is_wrong, loop_of, turns_of}
use Rattle.sve_body_construct.specs.Parts.{found_values, genvar_fault_of, opened, or_said, values_of, within_block}
use Rattle.sve_body_block.specs.Parts.{item_at, loop_of_construct, turn_of, turns_found}

-- ---- one after another

module _ {S : Type 0} (steps : Steps S) where
  pub next_item : (items : List Item) (i : ℕ) (x : Item) (s : S) → i < length items → x ≡ get_or items i x → each (counted_item steps) (drop i items) s ≡ Spend 1 (and_then (item steps None x s) (each (counted_item steps) (drop (i + 1) items)))
  unfolding each and_then
  next_item items i x s lt is = rw (drop_more items i x lt, ← is) refl

  pub no_item : (items : List Item) (i : ℕ) (s : S) → length items ≤ i → each (counted_item steps) (drop i items) s ≡ Give s
  unfolding each
  no_item items i s le = rw (drop_of_length-le items le) refl

  pub next_turn : (number : ℕ) (c : LoopGenerate) (values : List ℤ) (i : ℕ) (value : ℤ) (s : S) → i < length values → each (turn_of steps number c) (drop i values) s ≡ and_then (turn_of steps number c (get_or values i value) s) (each (turn_of steps number c) (drop (i + 1) values))
  unfolding each
  next_turn number c values i value s lt = rw (drop_more values i value lt) refl

  pub no_turn : (number : ℕ) (c : LoopGenerate) (values : List ℤ) (i : ℕ) (s : S) → length values ≤ i → each (turn_of steps number c) (drop i values) s ≡ Give s
  unfolding each
  no_turn number c values i s le = rw (drop_of_length-le values le) refl

  -- ---- loops

  -- the genvar is wrong
  loop_stops : (fault : Option Fault) (values : ℕ × Result (List ℤ) Fault) (turn : ℤ → S → Plan Reply S) (wrong : Bool) (s t : S) → wrong ≡ is_some fault → wrong ≡ true → t ≡ say_all steps (fault_list fault) s → loop_of steps fault values turn s ≡ Give t
  loop_stops None values turn wrong s t is so said = absurd (let no : false ≡ true = sym is ∙ so in cc)
  loop_stops (Some fault) values turn wrong s t is so said = ap Give (sym said)

  pub loop_is_wrong : (number : ℕ) (c : LoopGenerate) (s t : S) (wrong : Bool) → wrong ≡ is_some (genvar_fault_of steps c s) → wrong ≡ true → t ≡ say_all steps (fault_list (genvar_fault_of steps c s)) s → loop_of_construct steps number c s ≡ Give t
  unfolding item
  loop_is_wrong number c s t wrong is so said = loop_stops (genvar_fault_of steps c s) (values_of steps c s) (turn_of steps number c) wrong s t is so said

  -- it is right
  turns_are : (number : ℕ) (c : LoopGenerate) (values : Result (List ℤ) Fault) (s : S) → turns_of steps (turn_of steps number c) values s ≡ turns_found steps number c (or_said steps values s).0 (or_said steps values s).1
  turns_are number c (Ok values) s = refl
  turns_are number c (Err fault) s = refl

  loop_goes : (number : ℕ) (c : LoopGenerate) (fault : Option Fault) (values : ℕ × Result (List ℤ) Fault) (wrong : Bool) (s t : S) → wrong ≡ is_some fault → wrong ≡ false → t ≡ say_all steps (fault_list fault) s
      → (loop_of steps fault values (turn_of steps number c) s ≡ Spend values.0 (turns_found steps number c (or_said steps values.1 s).0 (or_said steps values.1 s).1)) × (t ≡ s)
  loop_goes number c None values wrong s t is so said = (ap (Spend values.0) (turns_are number c values.1 s), said)
  loop_goes number c (Some fault) values wrong s t is so said = absurd (let no : true ≡ false = sym is ∙ so in cc)

  pub loop_is_right : (number : ℕ) (c : LoopGenerate) (s t : S) (wrong : Bool) → wrong ≡ is_some (genvar_fault_of steps c s) → wrong ≡ false → t ≡ say_all steps (fault_list (genvar_fault_of steps c s)) s
      → loop_of_construct steps number c s ≡ Spend (found_values steps c t).0 (turns_found steps number c (found_values steps c t).1.0 (found_values steps c t).1.1)
  unfolding item
  loop_is_right number c s t wrong is so said =
      let goes = loop_goes number c (genvar_fault_of steps c s) (values_of steps c s) wrong s t is so said in
      goes.0 ∙ ap (λ (u : S). Spend (found_values steps c u).0 (turns_found steps number c (found_values steps c u).1.0 (found_values steps c u).1.1)) (sym goes.1)

  -- what follows the values
  pub turns_are_none : (number : ℕ) (c : LoopGenerate) (found : Option (List ℤ) × S) (s : S) (nothing : Option (List ℤ)) → nothing ≡ None → (nothing, s) ≡ found → turns_found steps number c found.0 found.1 ≡ Give s
  turns_are_none number c found s nothing is so = rw (← so, is) refl

  pub turns_are_some : (number : ℕ) (c : LoopGenerate) (found : Option (List ℤ) × S) (s : S) (some : Option (List ℤ)) (values lent : List ℤ) → some ≡ Some values → lent ≡ values → (some, s) ≡ found → turns_found steps number c found.0 found.1 ≡ each (turn_of steps number c) lent s
  turns_are_some number c found s some values lent is same so = rw (← so, is, same) refl

  -- ---- `case`

  pub item_there : (number : ℕ) (items : List CaseGenerateItem) (k : ℕ) (x : CaseGenerateItem) (s : S) → k < length items → x ≡ get_or items k x → item_at steps number (Some k) items s ≡ case_item_in steps number x s
  unfolding item_at
  item_there number [] k x s lt is = absurd (omega arith)
  item_there number (i ∷ items) zero x s lt is = ap (λ (y : CaseGenerateItem). case_item_in steps number y s) (sym is)
  item_there number (i ∷ items) (suc k) x s lt is = item_there number items k x s (omega arith) is

  pub item_beyond : (number : ℕ) (items : List CaseGenerateItem) (k : ℕ) (s : S) → length items ≤ k → item_at steps number (Some k) items s ≡ Give s
  unfolding item_at
  item_beyond number [] k s le = refl
  item_beyond number (i ∷ items) zero s le = absurd (omega arith)
  item_beyond number (i ∷ items) (suc k) s le = item_beyond number items k s (omega arith)

  pub no_item_at : (number : ℕ) (items : List CaseGenerateItem) (s : S) → item_at steps number None items s ≡ Give s
  unfolding item_at
  no_item_at number [] s = refl
  no_item_at number (i ∷ items) s = refl

  -- ---- blocks

  -- what a block comes to, by whether it is opened
  abbrev pub by_opening : Bool × S → (S → Plan Reply S) → Plan Reply S
  by_opening found contents = cond found.0 (and_then (contents found.1) (λ t. Give (steps.leave t))) (Give found.1)

  within_is : (fault : Option Fault) (contents : S → Plan Reply S) (s : S) → block_within steps fault contents s ≡ by_opening (within_block steps fault s) contents
  within_is None contents s = refl
  within_is (Some fault) contents s = refl

  opened_is : (wrong : Bool) (fault : Option Fault) (contents : S → Plan Reply S) (s entered : S) → cond wrong (Give s) (block_within steps fault contents entered) ≡ by_opening (cond wrong (false, s) (within_block steps fault entered)) contents
  opened_is true fault contents s entered = refl
  opened_is false fault contents s entered = within_is fault contents entered

  block_opens : (number : ℕ) (turn : Option (ℕ × ℤ)) (block : GenerateBlock) (contents : S → Plan Reply S) (s : S) → block_of steps number turn block contents s ≡ by_opening (opened steps number turn block s) contents
  block_opens number turn block contents s = opened_is (label_is_wrong steps number (block_label block) s) (nesting_fault (steps.depth s) (block_token block)) contents s (steps.enter number turn block s)

  pub block_stays : (number : ℕ) (turn : Option (ℕ × ℤ)) (block : GenerateBlock) (contents : S → Plan Reply S) (s t : S) (opens : Bool) → opens ≡ (opened steps number turn block s).0 → opens ≡ false → t ≡ (opened steps number turn block s).1 → block_of steps number turn block contents s ≡ Give t
  block_stays number turn block contents s t opens is so left =
      block_opens number turn block contents s ∙ ap (λ b. cond b (and_then (contents (opened steps number turn block s).1) (λ u. Give (steps.leave u))) (Give (opened steps number turn block s).1)) (sym is ∙ so) ∙ ap Give (sym left)

  pub block_goes : (number : ℕ) (turn : Option (ℕ × ℤ)) (block : GenerateBlock) (contents : S → Plan Reply S) (s t : S) (opens : Bool) → opens ≡ (opened steps number turn block s).0 → opens ≡ true → t ≡ (opened steps number turn block s).1
      → block_of steps number turn block contents s ≡ and_then (contents t) (λ u. Give (steps.leave u))
  block_goes number turn block contents s t opens is so left =
      block_opens number turn block contents s ∙ ap (λ b. cond b (and_then (contents (opened steps number turn block s).1) (λ u. Give (steps.leave u))) (Give (opened steps number turn block s).1)) (sym is ∙ so)
      ∙ ap (λ (u : S). and_then (contents u) (λ v. Give (steps.leave v))) (sym left)

  -- ---- what follows a selection

  pub selects_none : (number : ℕ) (items : List CaseGenerateItem) (found : Option ℕ × S) (s : S) (selected : Option ℕ) → (selected, s) ≡ found → selected ≡ None → item_at steps number found.0 items found.1 ≡ Give s
  selects_none number items found s selected so is = rw (← so, is) (no_item_at number items s)

  pub selects_beyond : (number : ℕ) (items : List CaseGenerateItem) (found : Option ℕ × S) (s : S) (selected : Option ℕ) (k : ℕ) → (selected, s) ≡ found → selected ≡ Some k → length items ≤ k → item_at steps number found.0 items found.1 ≡ Give s
  selects_beyond number items found s selected k so is le = rw (← so, is) (item_beyond number items k s le)

  pub selects_there : (number : ℕ) (items : List CaseGenerateItem) (found : Option ℕ × S) (s : S) (selected : Option ℕ) (k : ℕ) (x : CaseGenerateItem) → (selected, s) ≡ found → selected ≡ Some k → k < length items → x ≡ get_or items k x
      → item_at steps number found.0 items found.1 ≡ case_item_in steps number x s
  selects_there number items found s selected k x so is lt at = rw (← so, is) (item_there number items k x s lt at)
