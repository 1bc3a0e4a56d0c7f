-- What is applied to a name, from a place on.
use Rattle.std.specs.Global.{Vec}
use Rattle.std.proofs.Common.{◌≡◌, ◌==◌, ◌<◌, ◌≤◌, ℕ, ◌+◌, Bool, true, false, List, [], ◌∷◌, length, vec_len, drop, get_or, refl, ap, sym, ◌∙◌}
use Rattle.std.specs.List.{list_any}
use Rattle.std.proofs.Math.Dec.{eqb-suc-zero}
use Rattle.std.proofs.lemmas.List.{drop_more}
use Rattle.std.proofs.Math.ListN.{drop_of_length-le}
use Rattle.sve_tree.specs.declared.expression.Expr.{Row_of-Postfix, end_of-Postfix, items-the_row-Postfix, more_of-Postfix}
use Rattle.sve_tree.specs.declared.expression.Postfix.{Postfix}
use Rattle.sve_tree.specs.declared.expression.Select.{Select}
use Rattle.sve_tree.specs.declared.expression.Arg.TheBlock.{hidden-the_row-Postfix-6, items_hidden-the_row-Postfix-6}
use Rattle.sve_use.specs.Use.{has_member, is_member, is_member_select, is_select_postfix}
use Rattle.sve_use.specs.Uses.{is_alone, is_name_alone}

pub member_here : (xs : List Postfix) (i : ℕ) (x : Postfix) → i < length xs → x ≡ get_or xs i x → is_member x ≡ true → has_member (drop i xs) ≡ true
unfolding has_member
member_here xs i x h e m = rw (drop_more xs i x h, ← e, m) refl

pub ended_here : (xs : List Postfix) (i : ℕ) (x : Postfix) → i < length xs → x ≡ get_or xs i x → is_member x ≡ false → is_select_postfix x ≡ false → has_member (drop i xs) ≡ false
unfolding has_member
ended_here xs i x h e m s = rw (drop_more xs i x h, ← e, m, s) refl

pub passed : (xs : List Postfix) (i : ℕ) (x : Postfix) → i < length xs → x ≡ get_or xs i x → is_member x ≡ false → is_select_postfix x ≡ true → has_member (drop i xs) ≡ has_member (drop (i + 1) xs)
unfolding has_member
passed xs i x h e m s = rw (drop_more xs i x h, ← e, m, s) refl

pub nowhere : (xs : List Postfix) (i : ℕ) → length xs ≤ i → has_member (drop i xs) ≡ false
unfolding has_member
nowhere xs i h = rw (drop_of_length-le xs h) refl

pub select_here : (xs : List Select) (i : ℕ) (x : Select) → i < length xs → x ≡ get_or xs i x → is_member_select x ≡ true → list_any is_member_select (drop i xs) ≡ true
select_here xs i x h e m = rw (drop_more xs i x h, ← e, m) refl

pub select_passed : (xs : List Select) (i : ℕ) (x : Select) → i < length xs → x ≡ get_or xs i x → is_member_select x ≡ false → list_any is_member_select (drop i xs) ≡ list_any is_member_select (drop (i + 1) xs)
select_passed xs i x h e m = rw (drop_more xs i x h, ← e, m) refl

pub no_select : (xs : List Select) (i : ℕ) → length xs ≤ i → list_any is_member_select (drop i xs) ≡ false
no_select xs i h = rw (drop_of_length-le xs h) refl

-- ---- nothing is applied

abbrev is_empty : List Postfix → Bool
is_empty [] = true
is_empty (x ∷ xs) = false

row_is : {n : _} (row : Row_of-Postfix n) → is_alone row ≡ is_empty (items-the_row-Postfix n row)
row_is end_of-Postfix = refl
row_is (more_of-Postfix postfix rest) = refl

by_length : (n : ℕ) (xs : List Postfix) → n ≡ length xs → is_empty xs ≡ (n == 0)
by_length n [] e = rw e refl
by_length n (x ∷ xs) e = sym (rw e (eqb-suc-zero (length xs)))

pub alone_is : (xs : Vec Postfix) → is_name_alone xs ≡ (vec_len xs == 0)
alone_is xs = row_is (hidden-the_row-Postfix-6 xs) ∙ (ap is_empty (items_hidden-the_row-Postfix-6 xs) ∙ by_length (vec_len xs) xs.items xs.ok.0)
