-- The loop over dimensions.
use Rattle.std.proofs.Common.{◌≡◌, ◌<◌, ◌≤◌, ℕ, ◌+◌, List, length, drop, get_or, refl}
use Rattle.std.proofs.lemmas.List.{drop_more}
use Rattle.std.proofs.Math.ListN.{drop_of_length-le}
use Rattle.sve_tree.specs.declared.expression.Dimension.{Dimension}
use Rattle.sve_type_rule.specs.Ranges.{Dimensioned, ranged}
use Rattle.sve_env.specs.Told.{Told}
use Rattle.sve_form.specs.Tokens.{opening_of}
use Rattle.sve_measure.specs.Constants.{range_of}
use Rattle.sve_simple_type.specs.Simple.{ranges_behind}

pub ranges_step : (m : Told) (xs : List Dimension) (i : ℕ) (x : Dimension) (before : Dimensioned) → i < length xs → x ≡ get_or xs i x → ranges_behind m (ranged (opening_of x) before (range_of m x)) (drop (i + 1) xs) ≡ ranges_behind m before (drop i xs)
unfolding ranges_behind
ranges_step m xs i x before h e = rw (drop_more xs i x h, ← e) refl

pub ranges_end : (m : Told) (xs : List Dimension) (i : ℕ) (before : Dimensioned) → length xs ≤ i → ranges_behind m before (drop i xs) ≡ before
unfolding ranges_behind
ranges_end m xs i before h = rw (drop_of_length-le xs h) refl
