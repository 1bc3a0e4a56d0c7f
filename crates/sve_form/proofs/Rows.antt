-- Rows with and without items.
use Rattle.std.specs.Global.{Vec}
use Rattle.std.proofs.Common.{◌≡◌, ◌==◌, ℕ, Bool, true, false, if◌then◌else◌, List, [], ◌∷◌, length, get_or, vec_len, refl, ap, sym, ◌∙◌}
use Rattle.std.proofs.Math.Dec.{eqb-suc-zero}
use Rattle.std.proofs.lemmas.Bool.{true≢false}
use Rattle.sve_tree.specs.declared.expression.Expr.{Expr, Row_of-Dimension, Row_of-Expr, end_of-Dimension, end_of-Expr, items-the_row-Dimension, items-the_row-Expr, more_of-Dimension, more_of-Expr}
use Rattle.sve_tree.specs.declared.expression.Dimension.{Dimension}
use Rattle.sve_tree.specs.declared.expression.Arg.TheBlock.{hidden-the_row-Dimension-3, hidden-the_row-Expr-1, items_hidden-the_row-Dimension-3, items_hidden-the_row-Expr-1}
use Rattle.sve_form.specs.Tokens.{count_token, row_empty_at, is_plain}

abbrev unless_some : {X Y : Type 0} → List X → Y → Y → Y
unless_some [] a b = a
unless_some (x ∷ xs) a b = b

list_empty_at : ℕ → List Expr → ℕ
list_empty_at opening [] = opening
list_empty_at opening (e ∷ es) = count_token e

empty_is : {n : _} (opening : ℕ) (row : Row_of-Expr n) → row_empty_at opening row ≡ list_empty_at opening (items-the_row-Expr n row)
unfolding row_empty_at list_empty_at
empty_is opening end_of-Expr = refl
empty_is opening (more_of-Expr e rest) = refl

empty_of_vec : (opening : ℕ) (xs : Vec Expr) → row_empty_at opening (hidden-the_row-Expr-1 xs) ≡ list_empty_at opening xs.items
empty_of_vec opening xs = empty_is opening (hidden-the_row-Expr-1 xs) ∙ ap (list_empty_at opening) (items_hidden-the_row-Expr-1 xs)

-- by whether there is an item
not_empty : {X : Type 0} (x : X) (xs : List X) (n : ℕ) → n ≡ length (x ∷ xs) → (n == 0) ≡ false
not_empty x xs n e = rw e (eqb-suc-zero (length xs))

plain_is : {n : _} (row : Row_of-Dimension n) → is_plain row ≡ unless_some (items-the_row-Dimension n row) true false
plain_is end_of-Dimension = refl
plain_is (more_of-Dimension dimension rest) = refl

plain_by : (n : ℕ) (xs : List Dimension) → n ≡ length xs → unless_some xs true false ≡ (n == 0)
plain_by n [] e = rw e refl
plain_by n (x ∷ xs) e = sym (not_empty x xs n e)

pub plain_are : (xs : Vec Dimension) → is_plain (hidden-the_row-Dimension-3 xs) ≡ (vec_len xs == 0)
plain_are xs = plain_is (hidden-the_row-Dimension-3 xs) ∙ (ap (λ (ys : List Dimension). unless_some ys true false) (items_hidden-the_row-Dimension-3 xs) ∙ plain_by (vec_len xs) xs.items xs.ok.0)

first_by : (opening : ℕ) (xs : List Expr) (n : ℕ) (x : Expr) → n ≡ length xs → x ≡ get_or xs 0 x → list_empty_at opening xs ≡ (if n == 0 then opening else count_token x)
unfolding list_empty_at
first_by opening [] n x e h = rw e refl
first_by opening (y ∷ ys) n x e h = ap count_token (sym h) ∙ sym (ap (λ (t : Bool). if t then opening else count_token x) (not_empty y ys n e))

pub first_operand : (opening : ℕ) (xs : Vec Expr) (x : Expr) → x ≡ get_or xs.items 0 x → (vec_len xs == 0) ≡ false → row_empty_at opening (hidden-the_row-Expr-1 xs) ≡ count_token x
first_operand opening xs x h e = empty_of_vec opening xs ∙ (first_by opening xs.items (vec_len xs) x xs.ok.0 h ∙ ap (λ (t : Bool). if t then opening else count_token x) e)

none_by : (opening : ℕ) (xs : List Expr) (n : ℕ) → n ≡ length xs → (n == 0) ≡ true → list_empty_at opening xs ≡ opening
unfolding list_empty_at
none_by opening [] n e h = refl
none_by opening (y ∷ ys) n e h = absurd (true≢false (sym h ∙ not_empty y ys n e))

pub no_operands : (opening : ℕ) (xs : Vec Expr) → (vec_len xs == 0) ≡ true → row_empty_at opening (hidden-the_row-Expr-1 xs) ≡ opening
no_operands opening xs h = empty_of_vec opening xs ∙ none_by opening xs.items (vec_len xs) xs.ok.0 h
