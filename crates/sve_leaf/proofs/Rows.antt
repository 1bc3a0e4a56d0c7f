-- Selects that are there, and none.
use Rattle.std.specs.Global.{Vec}
use Rattle.std.proofs.Common.{◌≡◌, ◌==◌, ℕ, Bool, false, if◌then◌else◌, List, [], ◌∷◌, length, vec_len, refl, ap, sym, ◌∙◌}
use Rattle.std.proofs.Math.Dec.{eqb-suc-zero}
use Rattle.sve_tree.specs.declared.expression.Expr.{Row_of-Select, end_of-Select, items-the_row-Select, more_of-Select}
use Rattle.sve_tree.specs.declared.expression.Select.{Select}
use Rattle.sve_tree.specs.declared.expression.Arg.TheBlock.{hidden-the_row-Select-4, items_hidden-the_row-Select-4}
use Rattle.sve_rule.specs.Judged.{Judged}
use Rattle.sve_rule.specs.Rules.{outside_judged}
use Rattle.sve_leaf.specs.LeftOut.{unless_part}

abbrev unless_some : {X Y : Type 0} → List X → Y → Y → Y
unless_some [] a b = a
unless_some (x ∷ xs) a b = b

part_is : {n : _} (row : Row_of-Select n) (token : ℕ) (a : Judged) → unless_part row token a ≡ unless_some (items-the_row-Select n row) a (outside_judged token)
part_is end_of-Select token a = refl
part_is (more_of-Select select rest) token a = refl

not_empty : {X : Type 0} (x : X) (xs : List X) (n : ℕ) → n ≡ length (x ∷ xs) → (n == 0) ≡ false
not_empty x xs n e = rw e (eqb-suc-zero (length xs))

by_length : {X Y : Type 0} (xs : List X) (n : ℕ) (a b : Y) → n ≡ length xs → unless_some xs a b ≡ (if n == 0 then a else b)
by_length [] n a b e = rw e refl
by_length (x ∷ xs) n a b e = sym (ap (λ (t : Bool). if t then a else b) (not_empty x xs n e))

pub parts_are : (xs : Vec Select) (token : ℕ) (a : Judged) → unless_part (hidden-the_row-Select-4 xs) token a ≡ (if vec_len xs == 0 then a else outside_judged token)
parts_are xs token a =
    part_is (hidden-the_row-Select-4 xs) token a
    ∙ (ap (λ (ys : List Select). unless_some ys a (outside_judged token)) (items_hidden-the_row-Select-4 xs)
    ∙ by_length xs.items (vec_len xs) a (outside_judged token) xs.ok.0)
