-- The value of a key at other files, or at another fuel.
use Rattle.std.proofs.Common.{◌≡◌, ℕ, ◌<◌, List, [], ◌∷◌, ◌++◌, Option, None, inl, inr, refl, sym, ap, ◌∙◌, subst}
use Rattle.std.specs.declared.cmp.Ordering.{Ordering}
use Rattle.std.specs.declared.cmp.Ordering.TheVariants.{Equal}
use Rattle.sve_store.specs.Made.{Made, Needs, value_in, IsOneOf}
use Rattle.sve_store.specs.Values.{Gives, is_given, is_made, is_needed, IsValue, TellsLowerValues, OnTheWay, at_first, one_more}
use Rattle.sve_store.proofs.Lookups.{value-parts}
use Rattle.sve_store.proofs.Ways.{not_given}

module _ {K V : Type 0} (cmp : K → K → Ordering) (given other : K → Option V) (make : K → ℕ → (K → Option V) → Made K V) where
  -- where the keys that were read have the same values, the same is given and the same keys are read
  pub alike : {k : K} {fuel : ℕ} {told : List (K × V)} {v : V} {reads : List K} → Gives cmp given make k fuel told v reads → given k ≡ None → other k ≡ None
      → ((j : K) → IsOneOf reads j → (w : V) → IsValue cmp given make j 0 w → IsValue cmp other make j 0 w) → Gives cmp other make k fuel told v reads
  alike (is_given some) none also agree = absurd (cc)
  alike (is_made none made) first also agree = is_made also made
  alike (is_needed {j = j} {w = w} {others = others} none needs value rest) first also agree =
      is_needed also needs (agree j (inl refl) w (others, value)).1 (alike rest first also (λ q i. agree q (inr i)))

  module _ (ranked : K → ℕ) (exact : (a b : K) → cmp a b ≡ Equal → a ≡ b) where
    tells_more : (rank : ℕ) (told : List (K × V)) (j : K) (w : V) → TellsLowerValues cmp other make ranked rank (value_in cmp told) → (ranked j < rank → IsValue cmp other make j 0 w)
        → TellsLowerValues cmp other make ranked rank (value_in cmp (told ++ ((j, w) ∷ [])))
    tells_more rank told j w tells here q x is low =
        elim (value-parts cmp (j, w) q told x is) [
          | inl earlier ↦ tells q x earlier low
          | inr last ↦ (let same = exact q j last.0 in subst (λ y. IsValue cmp other make q 0 y) last.1 (subst (λ y. IsValue cmp other make y 0 w) (sym same) (here (subst (λ y. ranked y < rank) same low))))
        ]

    -- where the keys of lower rank that were read have the same values, each key that was read has a lower height
    pub read_lower : (height : K → ℕ) {k : K} {fuel : ℕ} {told : List (K × V)} {v : V} {reads : List K}
        → ((all : K → Option V) (j : K) → TellsLowerValues cmp other make ranked (ranked k) all → make k fuel all ≡ Needs j → height j < height k)
        → Gives cmp given make k fuel told v reads → TellsLowerValues cmp other make ranked (ranked k) (value_in cmp told)
        → ((j : K) → IsOneOf reads j → ranked j < ranked k → (w : V) → IsValue cmp given make j 0 w → IsValue cmp other make j 0 w)
        → (j : K) → IsOneOf reads j → height j < height k
    read_lower height low (is_given some) tells agree j i = absurd i
    read_lower height low (is_made none made) tells agree j i = absurd i
    read_lower height {k = k} low (is_needed {j = q} none needs value rest) tells agree j (inl i) = subst (λ x. height x < height k) (sym i) (low _ q tells needs)
    read_lower height {k = k} {told = told} low (is_needed {j = q} {w = w} {others = others} none needs value rest) tells agree j (inr i) =
        read_lower height low rest (tells_more (ranked k) told q w tells (λ l. agree q (inl refl) l w (others, value))) (λ x a. agree x (inr a)) j i

module _ {K V : Type 0} (cmp : K → K → Ordering) (given : K → Option V) (make : K → ℕ → (K → Option V) → Made K V) where
  -- a key whose definition does not look at the fuel has the same value at each
  pub at_any_fuel : (g : ℕ) {k : K} {fuel : ℕ} {told : List (K × V)} {v : V} {reads : List K} → ((f : ℕ) (told : K → Option V) → make k f told ≡ make k 0 told)
      → Gives cmp given make k fuel told v reads → Gives cmp given make k g told v reads
  at_any_fuel g free (is_given some) = is_given some
  at_any_fuel g free (is_made none made) = is_made none (free _ _ ∙ sym (free _ _) ∙ made)
  at_any_fuel g free (is_needed none needs value rest) = is_needed none (free _ _ ∙ sym (free _ _) ∙ needs) value (at_any_fuel g free rest)

-- the keys that are told
abbrev pub keys_of : {K V : Type 0} → List (K × V) → List K
keys_of [] = []
keys_of (told ∷ others) = told.0 ∷ keys_of others

pub keys_of-push : {K V : Type 0} (told : List (K × V)) (one : K × V) → keys_of (told ++ one ∷ []) ≡ keys_of told ++ (one.0 ∷ [])
keys_of-push [] one = refl
keys_of-push (x ∷ told) one = ap (λ l. x.0 ∷ l) (keys_of-push told one)

keys_of-then : {K V : Type 0} (told : List (K × V)) (j : K) (w : V) (reads : List K) → keys_of (told ++ ((j, w) ∷ [])) ++ reads ≡ keys_of told ++ (j ∷ reads)
keys_of-then [] j w reads = refl
keys_of-then (x ∷ told) j w reads = ap (λ l. x.0 ∷ l) (keys_of-then told j w reads)

module _ {K V : Type 0} (cmp : K → K → Ordering) (given : K → Option V) (make : K → ℕ → (K → Option V) → Made K V) where
  -- what is given over the values that are told on the way is given from nothing, and reads the told keys first
  pub from_nothing : (k : K) (fuel : ℕ) (told : List (K × V)) (v : V) → OnTheWay cmp given make k fuel told → (reads : List K) → Gives cmp given make k fuel told v reads
      → Gives cmp given make k fuel [] v (keys_of told ++ reads)
  from_nothing k fuel told v (at_first none) reads gives = gives
  from_nothing k fuel told v (one_more {told = before} {j = j} {w = w} way needs value) reads gives =
      subst (λ l. Gives cmp given make k fuel [] v l) (sym (keys_of-then before j w reads)) (from_nothing k fuel before v way (j ∷ reads) (is_needed (not_given cmp given make k fuel before way) needs value.1 gives))
