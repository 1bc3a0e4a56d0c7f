-- The order of paths answers `Equal` at one and the same path alone.
use Rattle.std.proofs.Common.{◌≡◌, ◌∙◌, ◌↔◌, Some, None, [], ◌∷◌, refl, sym, ap, subst, Ordering, Less, Equal, Greater}
use Rattle.std.proofs.lemmas.Cmp.{tied_itself}
use Rattle.std.specs.Cmp.{IsTotalOrder}
use Rattle.std.proofs.lemmas.Map.Lookups.{CmpEqualImpliesEq, exact_bytes, exact_signed}
use Rattle.std.specs.Cmp.Lexicographic.{slice_cmp}
use Rattle.std.specs.Option.{option_cmp}
use Rattle.std.specs.Ordering.{ordering_then, nat_cmp, int_cmp}
use Rattle.sve_bytes.specs.PathOrder.{step_cmp, path_cmp}

pub both_equal : (o p : Ordering) → ordering_then o p ≡ Equal → (o ≡ Equal) × (p ≡ Equal)
both_equal Less p e = cc
both_equal Equal p e = (refl, e)
both_equal Greater p e = cc

-- what an answer of `cmp` says, where the order is total and exact
pub equal_exactly : {K : Type 0} {R : K → K → Ordering} → IsTotalOrder R → CmpEqualImpliesEq R → (x y : K) (o : Ordering) → o ≡ R x y → (o ≡ Equal) ↔ (x ≡ y)
equal_exactly {K} {R} total exact x y o h =
    (λ e. exact x y (sym h ∙ e), λ same. h ∙ subst (λ (z : K). R x z ≡ Equal) same (tied_itself total x))

module _ {K : Type 0} {R : K → K → Ordering} (exact : CmpEqualImpliesEq R) where
  pub options_exact : CmpEqualImpliesEq (option_cmp R)
  options_exact None None e = refl
  options_exact None (Some y) e = cc
  options_exact (Some x) None e = cc
  options_exact (Some x) (Some y) e = ap Some (exact x y e)

  pub lists_exact : CmpEqualImpliesEq (slice_cmp R)
  lists_exact [] [] e = refl
  lists_exact [] (y ∷ ys) e = cc
  lists_exact (x ∷ xs) [] e = cc
  lists_exact (x ∷ xs) (y ∷ ys) e =
      let both = both_equal (R x y) (slice_cmp R xs ys) e in
      let head : x ≡ y = exact x y both.0 in
      let tail : xs ≡ ys = lists_exact xs ys both.1 in
      λ i. head i ∷ tail i

pub step_exact : CmpEqualImpliesEq step_cmp
step_exact s t e =
    let both = both_equal (slice_cmp nat_cmp s.name t.name) (option_cmp int_cmp s.index t.index) e in
    let names : s.name ≡ t.name = exact_bytes s.name t.name both.0 in
    let indices : s.index ≡ t.index = options_exact exact_signed s.index t.index both.1 in
    λ i. record { name = names i; index = indices i }

pub path_exact : CmpEqualImpliesEq path_cmp
path_exact p q e =
    let steps : p.steps ≡ q.steps = lists_exact step_exact p.steps q.steps e in
    λ i. record { steps = steps i }
