-- The same for each item, from an index on: what a loop over the items does.
use Rattle.std.proofs.Common.{ℕ, ◌+◌, ◌<◌, ◌≤◌, ◌≡◌, suc, List, ◌∷◌, length, drop, get_or, ap, ◌∙◌, arith}
use Rattle.std.proofs.Math.Seq.{drop-cons}
use Rattle.std.proofs.lemmas.List.{drop_all}
use Rattle.sve_plan.specs.Plan.{Plan, Give, and_then, each}

next_drop : {X : Type 0} (xs : List X) (i : ℕ) (x d : X) → i < length xs → get_or xs i d ≡ x → drop i xs ≡ x ∷ drop (i + 1) xs
next_drop xs i x d lt is = let p : suc i ≡ i + 1 = omega arith in drop-cons xs i d lt ∙ ap (λ y. y ∷ drop (suc i) xs) is ∙ ap (λ j. x ∷ drop j xs) p

module _ {Q : Type 0} {A : Q → Type 0} {I S : Type 0} (f : I → S → Plan A S) where
  -- a turn
  pub each_next : (items : List I) (i : ℕ) (item d : I) (s : S) → i < length items → get_or items i d ≡ item → each f (drop i items) s ≡ and_then (f item s) (each f (drop (i + 1) items))
  unfolding each
  each_next items i item d s lt is = ap (λ rest. each f rest s) (next_drop items i item d lt is)

  -- the end
  pub each_end : (items : List I) (i : ℕ) (s : S) → length items ≤ i → each f (drop i items) s ≡ Give s
  unfolding each
  each_end items i s le = ap (λ rest. each f rest s) (drop_all i items le)
