-- Labels from a place on.
use Rattle.std.proofs.Common.{◌≡◌, ◌<◌, ◌≤◌, ℕ, ◌+◌, List, [], ◌∷◌, ◌++◌, length, drop, get_or, sum_by, refl, ap, sym, subst, ◌∙◌, append_assoc}
use Rattle.std.specs.List.{flat_map}
use Rattle.std.proofs.lemmas.List.{drop_more}
use Rattle.std.proofs.lemmas.List.Sums.{sum_by-drop_more}
use Rattle.std.proofs.Math.ListN.{drop_of_length-le}
use Rattle.sve_tree.specs.declared.expression.Expr.{Expr}
use Rattle.sve_tree.specs.declared.item.CaseGenerateItem.{CaseGenerateItem}
use Rattle.sve_env.specs.Told.{Told}
use Rattle.sve_env.specs.Nodes.{nodes}
use Rattle.sve_measure.specs.Constants.{measured}
use Rattle.sve_choice.specs.Labels.{item_nodes, label_faults, labels_of, numbered, numbered_labels, valued}

-- what two lists of labels give
flat_append : {A B : Type 0} (f : A → List B) (xs ys : List A) → flat_map f (xs ++ ys) ≡ flat_map f xs ++ flat_map f ys
flat_append f [] ys = refl
flat_append f (x ∷ xs) ys = ap (λ zs. f x ++ zs) (flat_append f xs ys) ∙ sym (append_assoc (f x) (flat_map f xs) (flat_map f ys))

-- ---- the labels of an item

pub label_step : (m : Told) (number : ℕ) (xs : List Expr) (i : ℕ) (x : Expr) → i < length xs → x ≡ get_or xs i x → flat_map valued (numbered_labels m number (drop i xs)) ≡ valued (number, measured m x) ++ flat_map valued (numbered_labels m number (drop (i + 1) xs))
label_step m number xs i x h e = rw (drop_more xs i x h, ← e) refl

pub label_end : (m : Told) (number : ℕ) (xs : List Expr) (i : ℕ) → length xs ≤ i → flat_map valued (numbered_labels m number (drop i xs)) ≡ []
label_end m number xs i h = rw (drop_of_length-le xs h) refl

pub fault_step : (m : Told) (number : ℕ) (xs : List Expr) (i : ℕ) (x : Expr) → i < length xs → x ≡ get_or xs i x → flat_map label_faults (numbered_labels m number (drop i xs)) ≡ label_faults (number, measured m x) ++ flat_map label_faults (numbered_labels m number (drop (i + 1) xs))
fault_step m number xs i x h e = rw (drop_more xs i x h, ← e) refl

pub fault_end : (m : Told) (number : ℕ) (xs : List Expr) (i : ℕ) → length xs ≤ i → flat_map label_faults (numbered_labels m number (drop i xs)) ≡ []
fault_end m number xs i h = rw (drop_of_length-le xs h) refl

pub node_step : (m : Told) (xs : List Expr) (i : ℕ) (x : Expr) → i < length xs → x ≡ get_or xs i x → sum_by (nodes m) (drop i xs) ≡ nodes m x + sum_by (nodes m) (drop (i + 1) xs)
node_step m xs i x h e = subst (λ (y : Expr). sum_by (nodes m) (drop i xs) ≡ nodes m y + sum_by (nodes m) (drop (i + 1) xs)) (sym e) (sum_by-drop_more (nodes m) xs i x h)

pub node_end : (m : Told) (xs : List Expr) (i : ℕ) → length xs ≤ i → sum_by (nodes m) (drop i xs) ≡ 0
node_end m xs i h = rw (drop_of_length-le xs h) refl

-- ---- items

pub item_step : (m : Told) (xs : List CaseGenerateItem) (i : ℕ) (x : CaseGenerateItem) → i < length xs → x ≡ get_or xs i x → flat_map valued (numbered m i (drop i xs)) ≡ flat_map valued (numbered_labels m i (labels_of x)) ++ flat_map valued (numbered m (i + 1) (drop (i + 1) xs))
unfolding numbered
item_step m xs i x h e = rw (drop_more xs i x h, ← e) (flat_append valued (numbered_labels m i (labels_of x)) (numbered m (i + 1) (drop (i + 1) xs)))

pub item_end : (m : Told) (xs : List CaseGenerateItem) (i : ℕ) → length xs ≤ i → flat_map valued (numbered m i (drop i xs)) ≡ []
unfolding numbered
item_end m xs i h = rw (drop_of_length-le xs h) refl

pub item_fault_step : (m : Told) (xs : List CaseGenerateItem) (i : ℕ) (x : CaseGenerateItem) → i < length xs → x ≡ get_or xs i x → flat_map label_faults (numbered m i (drop i xs)) ≡ flat_map label_faults (numbered_labels m i (labels_of x)) ++ flat_map label_faults (numbered m (i + 1) (drop (i + 1) xs))
unfolding numbered
item_fault_step m xs i x h e = rw (drop_more xs i x h, ← e) (flat_append label_faults (numbered_labels m i (labels_of x)) (numbered m (i + 1) (drop (i + 1) xs)))

pub item_fault_end : (m : Told) (xs : List CaseGenerateItem) (i : ℕ) → length xs ≤ i → flat_map label_faults (numbered m i (drop i xs)) ≡ []
unfolding numbered
item_fault_end m xs i h = rw (drop_of_length-le xs h) refl

pub item_node_step : (m : Told) (xs : List CaseGenerateItem) (i : ℕ) (x : CaseGenerateItem) → i < length xs → x ≡ get_or xs i x → sum_by (item_nodes m) (drop i xs) ≡ item_nodes m x + sum_by (item_nodes m) (drop (i + 1) xs)
item_node_step m xs i x h e = subst (λ (y : CaseGenerateItem). sum_by (item_nodes m) (drop i xs) ≡ item_nodes m y + sum_by (item_nodes m) (drop (i + 1) xs)) (sym e) (sum_by-drop_more (item_nodes m) xs i x h)

pub item_node_end : (m : Told) (xs : List CaseGenerateItem) (i : ℕ) → length xs ≤ i → sum_by (item_nodes m) (drop i xs) ≡ 0
item_node_end m xs i h = rw (drop_of_length-le xs h) refl
