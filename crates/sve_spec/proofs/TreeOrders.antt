-- Trees are compared part by part.
use Rattle.std.proofs.Common.{arith, ◌≡◌, ◌≤◌, ◌<◌, ◌+◌, ◌^◌, ◌∙◌, sym, subst, ℕ, zero, suc, ℤ, pos, negsuc, Bool, true, false, List, [], ◌∷◌, length, drop, slice_get, None, Some, refl, ap, cond}
use Rattle.std.proofs.Math.Numerals.{add-one}
use Rattle.std.proofs.lemmas.Bool.Decides.{nat_tests}
use Rattle.std.specs.Cmp.Lexicographic.{slice_cmp}
use Rattle.std.specs.Ordering.{ordering_then, nat_cmp, int_cmp, bool_cmp}
use Rattle.std.specs.Prelude.{int_lt}
use Rattle.std.specs.declared.cmp.Ordering.{Ordering}
use Rattle.std.specs.declared.cmp.Ordering.TheVariants.{Less, Equal, Greater}
use base.Stored.{Gv, gnil, gnum, gcons}
use Rattle.std.proofs.lemmas.Map.Lookups.{CmpEqualImpliesEq}
use Rattle.sve_bytes.specs.TreeOrder.{tree_cmp}
use Rattle.sve_bytes.proofs.TreesAreOrdered.{trees_exact}
use Rattle.sve_value.specs.Vector.{Vector}
use Rattle.sve_value.specs.Planes.{vector}
use Rattle.sve_value.specs.Back.{length-planes, ones_word-planes, unknowns_word-planes}
use Rattle.sve_types.specs.DataType.{DataType}
use Rattle.sve_types.specs.View.{members_of}
use Rattle.sve_spec.specs.Trees.{bits_tree, bool_tree, int_tree, list_tree, name_tree, member_tree, members_tree, spec_tree}
use Rattle.sve_spec.specs.OneValue.{one_spec}
use Rattle.sve_spec.specs.SpecOrder.{spec_cmp}

pub bool_is : (a b : Bool) → bool_cmp a b ≡ tree_cmp (bool_tree a) (bool_tree b)
bool_is false false = refl
bool_is false true = refl
bool_is true false = refl
bool_is true true = refl

-- numbers below zero are first
pub int_is : (a b : ℤ) → cond (int_lt a (pos 0)) (cond (int_lt b (pos 0)) (int_cmp b a) Less) (cond (int_lt b (pos 0)) Greater (int_cmp a b)) ≡ tree_cmp (int_tree a) (int_tree b)
int_is (pos m) (pos n) = grind (arith, nat_tests)
int_is (pos m) (negsuc n) = grind (arith, nat_tests)
int_is (negsuc m) (pos n) = grind (arith, nat_tests)
int_is (negsuc m) (negsuc n) = grind (arith, nat_tests)

pub name_is : (a b : List ℕ) → slice_cmp nat_cmp a b ≡ tree_cmp (name_tree a) (name_tree b)
name_is [] [] = refl
name_is [] (y ∷ ys) = refl
name_is (x ∷ xs) [] = refl
name_is (x ∷ xs) (y ∷ ys) = ap (ordering_then (nat_cmp x y)) (name_is xs ys)

-- members as a row
pub members_list : (ms : List (List ℕ × DataType)) → members_tree (members_of ms) ≡ list_tree member_tree ms
members_list [] = refl
members_list (m ∷ ms) = ap (gcons (member_tree m)) (members_list ms)

split_there : {X : Type 0} (xs : List X) (i : ℕ) (x : X) → slice_get xs i ≡ Some x → drop i xs ≡ x ∷ drop (i + 1) xs
split_there {X = X} xs i x h = rw (add-one i) (at xs i h)
  where
    at : (ys : List X) (k : ℕ) → slice_get ys k ≡ Some x → drop k ys ≡ x ∷ drop (suc k) ys
    at [] k e = cc
    at (y ∷ ys) zero e = cc
    at (y ∷ ys) (suc k) e = at ys k e

nothing_there : {X : Type 0} (xs : List X) (i : ℕ) → slice_get xs i ≡ None → drop i xs ≡ []
nothing_there [] zero h = refl
nothing_there [] (suc i) h = refl
nothing_there (x ∷ xs) zero h = cc
nothing_there (x ∷ xs) (suc i) h = nothing_there xs i h

all_behind : {X : Type 0} (xs : List X) (i : ℕ) → length xs ≤ i → drop i xs ≡ []
all_behind [] zero h = refl
all_behind [] (suc i) h = refl
all_behind (x ∷ xs) zero h = absurd (omega arith)
all_behind (x ∷ xs) (suc i) h = all_behind xs i (omega arith)

module _ {X : Type 0} (tree : X → Gv) where
  -- how rows stand to each other from a place on
  abbrev pub from_place : ℕ → List X → List X → Ordering
  from_place i xs ys = tree_cmp (list_tree tree (drop i xs)) (list_tree tree (drop i ys))

  both_go : (xs ys : List X) (i : ℕ) (x y : X) → slice_get xs i ≡ Some x → slice_get ys i ≡ Some y
      → from_place i xs ys ≡ ordering_then (tree_cmp (tree x) (tree y)) (from_place (i + 1) xs ys)
  both_go xs ys i x y h k = rw (split_there xs i x h, split_there ys i y k) refl

  -- the items at a place are alike
  pub alike : (xs ys : List X) (i : ℕ) (x y : X) → slice_get xs i ≡ Some x → slice_get ys i ≡ Some y → tree_cmp (tree x) (tree y) ≡ Equal → from_place i xs ys ≡ from_place (i + 1) xs ys
  alike xs ys i x y h k e = both_go xs ys i x y h k ∙ ap (λ o. ordering_then o (from_place (i + 1) xs ys)) e

  -- they differ
  pub differ : (xs ys : List X) (i : ℕ) (x y : X) (o : Ordering) → slice_get xs i ≡ Some x → slice_get ys i ≡ Some y → o ≡ tree_cmp (tree x) (tree y) → (o ≡ Equal → ⊥) → o ≡ from_place i xs ys
  differ xs ys i x y o h k e n = by o n e ∙ sym (both_go xs ys i x y h k)
    where
      by : (p : Ordering) → (p ≡ Equal → ⊥) → p ≡ tree_cmp (tree x) (tree y) → p ≡ ordering_then (tree_cmp (tree x) (tree y)) (from_place (i + 1) xs ys)
      by Less m q = ap (λ r. ordering_then r (from_place (i + 1) xs ys)) q
      by Equal m q = absurd (m refl)
      by Greater m q = ap (λ r. ordering_then r (from_place (i + 1) xs ys)) q

  -- the second ends here
  pub other_ends : (xs ys : List X) (i : ℕ) (x : X) → slice_get xs i ≡ Some x → slice_get ys i ≡ None → from_place i xs ys ≡ Greater
  other_ends xs ys i x h k = rw (split_there xs i x h, nothing_there ys i k) refl

  -- the first ends here
  pub longer : (xs ys : List X) (i : ℕ) → length xs ≤ i → i < length ys → from_place i xs ys ≡ Less
  longer xs ys i h k = rw (all_behind xs i h) (at ys i k)
    where
      at : (zs : List X) (j : ℕ) → j < length zs → tree_cmp gnil (list_tree tree (drop j zs)) ≡ Less
      at [] j e = absurd (omega arith)
      at (z ∷ zs) zero e = refl
      at (z ∷ zs) (suc j) e = at zs j (omega arith)

  pub both_end : (xs ys : List X) (i : ℕ) → length xs ≤ i → length ys ≤ i → from_place i xs ys ≡ Equal
  both_end xs ys i h k = rw (all_behind xs i h, all_behind ys i k) refl

-- specializations that the order does not tell apart are one
pub spec_exact : CmpEqualImpliesEq spec_cmp
spec_exact x y e = one_spec x y (trees_exact (spec_tree x) (spec_tree y) e)

-- the tree of bits, by the words in which they lie
pub bits_tree_is : (s : Bool) (w o u : ℕ) (v : Vector) → vector w s o u ≡ v → o < 2 ^ w → u < 2 ^ w
    → bits_tree v ≡ gcons (bool_tree s) (gcons (gnum w) (gcons (gnum o) (gnum u)))
bits_tree_is s w o u v e h k =
    subst (λ (x : Vector). bits_tree x ≡ gcons (bool_tree s) (gcons (gnum w) (gcons (gnum o) (gnum u)))) e
    (rw (length-planes w o u, ones_word-planes w o u h, unknowns_word-planes w o u k) refl)
