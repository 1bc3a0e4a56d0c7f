-- The loop over selects that are dimensions.
use Rattle.std.proofs.Common.{◌≡◌, ◌<◌, ◌≤◌, ℕ, ◌+◌, List, length, drop, get_or, refl}
use Rattle.std.proofs.lemmas.List.{drop_more}
use Rattle.std.proofs.Math.ListN.{drop_of_length-le}
use Rattle.sve_tree.specs.declared.word.ScopedName.{ScopedName}
use Rattle.sve_tree.specs.declared.expression.Select.{Select}
use Rattle.sve_env.specs.Told.{Told}
use Rattle.sve_type_rule.specs.Ranges.{Dimensioned, ranged}
use Rattle.sve_type_of.specs.Selected.{bound_count, bound_nodes, ranges_selected, select_opening, select_range}

pub ranges_step : (m : Told) (name : ScopedName) (xs : List Select) (i : ℕ) (x : Select) (before : Dimensioned) → i < length xs → x ≡ get_or xs i x → ranges_selected m name (ranged (select_opening x) before (select_range m name x)) (drop (i + 1) xs) ≡ ranges_selected m name before (drop i xs)
unfolding ranges_selected
ranges_step m name xs i x before h e = rw (drop_more xs i x h, ← e) refl

pub ranges_end : (m : Told) (name : ScopedName) (xs : List Select) (i : ℕ) (before : Dimensioned) → length xs ≤ i → ranges_selected m name before (drop i xs) ≡ before
unfolding ranges_selected
ranges_end m name xs i before h = rw (drop_of_length-le xs h) refl

pub count_step : (m : Told) (xs : List Select) (i : ℕ) (x : Select) → i < length xs → x ≡ get_or xs i x → bound_count m (drop i xs) ≡ bound_nodes m x + bound_count m (drop (i + 1) xs)
unfolding bound_count
count_step m xs i x h e = rw (drop_more xs i x h, ← e) refl

pub count_end : (m : Told) (xs : List Select) (i : ℕ) → length xs ≤ i → bound_count m (drop i xs) ≡ 0
unfolding bound_count
count_end m xs i h = rw (drop_of_length-le xs h) refl
