-- What is told on the way to the value of a key.
use Rattle.std.proofs.Common.{◌≡◌, ℕ, Bool, false, List, Option, Some, None, is_some, inl, inr, sym, ap, ◌∙◌, subst}
use Rattle.std.specs.Prelude.{option_map}
use Rattle.std.specs.Arc.{arc_value}
use Rattle.std.specs.declared.sync.Arc.{Arc}
use Rattle.std.specs.declared.cmp.Ordering.{Ordering}
use Rattle.std.specs.declared.cmp.Ordering.TheVariants.{Equal}
use Rattle.sve_store.specs.Made.{Made, value_in, values_of}
use Rattle.sve_store.specs.Values.{Gives, is_needed, IsValue, TellsValues, OnTheWay, at_first, one_more}
use Rattle.sve_store.proofs.Lookups.{value-parts}

module _ {K V : Type 0} (cmp : K → K → Ordering) (given : K → Option V) (make : K → ℕ → (K → Option V) → Made K V) where
  pub not_given : (k : K) (fuel : ℕ) (told : List (K × V)) → OnTheWay cmp given make k fuel told → given k ≡ None
  not_given k fuel told (at_first none) = none
  not_given k fuel told (one_more way needs value) = not_given k fuel _ way

  -- what is given over the values that are told on the way is given from nothing
  pub comes_to : (k : K) (fuel : ℕ) (told : List (K × V)) (v : V) → OnTheWay cmp given make k fuel told → (reads : List K) → Gives cmp given make k fuel told v reads → IsValue cmp given make k fuel v
  comes_to k fuel told v (at_first none) reads gives = (reads, gives)
  comes_to k fuel told v (one_more way needs value) reads gives = comes_to k fuel _ v way _ (is_needed (not_given k fuel _ way) needs value.1 gives)

  pub tells_on_the_way : ((a b : K) → cmp a b ≡ Equal → a ≡ b) → (k : K) (fuel : ℕ) (told : List (K × V)) → OnTheWay cmp given make k fuel told → TellsValues cmp given make (value_in cmp told)
  tells_on_the_way exact k fuel told (at_first none) q w is = absurd (cc)
  tells_on_the_way exact k fuel told (one_more {told = before} {j = j} {w = x} way needs value) q w is =
      elim (value-parts cmp (j, x) q before w is) [
        | inl earlier ↦ tells_on_the_way exact k fuel before way q w earlier
        | inr last ↦ subst (λ p. IsValue cmp given make p 0 w) (sym (exact q j last.0)) (subst (λ p. IsValue cmp given make j 0 p) last.1 value)
      ]

-- what `input` answers, in the words of the definitions
module _ {K V A : Type 0} (given : K → Option (V × ℕ)) (k : K) (found : Option (Arc V A × ℕ)) (is : option_map (λ (pair : Arc V A × ℕ). (arc_value pair.0, pair.1)) found ≡ given k) where
  pub given_as : (value : Arc V A) (stamp : ℕ) → found ≡ Some (value, stamp) → values_of given k ≡ Some (arc_value value)
  given_as value stamp some =
      ap (option_map (λ (stamped : V × ℕ). stamped.0)) (sym is) ∙ ap (λ o. option_map (λ (stamped : V × ℕ). stamped.0) (option_map (λ (pair : Arc V A × ℕ). (arc_value pair.0, pair.1)) o)) some

  pub given_not : found ≡ None → values_of given k ≡ None
  given_not none = ap (option_map (λ (stamped : V × ℕ). stamped.0)) (sym is) ∙ ap (λ o. option_map (λ (stamped : V × ℕ). stamped.0) (option_map (λ (pair : Arc V A × ℕ). (arc_value pair.0, pair.1)) o)) none

pub no_input : {V : Type 0} (given : Option (V × ℕ)) (is_input : Bool) → is_some given ≡ is_input → option_map (λ (stamped : V × ℕ). stamped.0) given ≡ None → is_input ≡ false
no_input None is_input same none = sym same
no_input (Some stamped) is_input same none = absurd (cc)
