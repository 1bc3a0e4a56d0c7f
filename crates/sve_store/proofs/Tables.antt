-- Each key has one value.
use Rattle.std.proofs.Common.{◌≡◌, ℕ, zero, suc, ◌+◌, ◌<◌, List, [], ◌∷◌, ◌++◌, Option, Some, None, refl, subst, arith}
use Rattle.std.specs.declared.cmp.Ordering.{Ordering}
use Rattle.std.specs.declared.cmp.Ordering.TheVariants.{Equal}
use Rattle.sve_store.specs.Made.{Made, Needs, Done, value_in, untold}
use Rattle.sve_store.specs.Values.{Gives, is_given, is_made, is_needed, IsValue, IsTable, OnTheWay, at_first, one_more, Ends}
use Rattle.sve_store.proofs.Lookups.{untold-falls}
use Rattle.sve_store.proofs.Ways.{not_given, comes_to, tells_on_the_way}

module _ {K V : Type 0} (cmp : K → K → Ordering) (given : K → Option V) (make : K → ℕ → (K → Option V) → Made K V) where
  -- what is given over the same told values is one value, and reads the same
  pub gives_one : {k : K} {fuel : ℕ} {told : List (K × V)} {v u : V} {vs us : List K} → Gives cmp given make k fuel told v vs → Gives cmp given make k fuel told u us → (v ≡ u) × (vs ≡ us)
  gives_one (is_given some) (is_given other) = (cc, refl)
  gives_one (is_given some) (is_made none made) = absurd (cc)
  gives_one (is_given some) (is_needed none needs value rest) = absurd (cc)
  gives_one (is_made none made) (is_given some) = absurd (cc)
  gives_one (is_made none made) (is_made other too) = (cc, refl)
  gives_one (is_made none made) (is_needed other needs value rest) = absurd (cc)
  gives_one (is_needed none needs value rest) (is_given some) = absurd (cc)
  gives_one (is_needed none needs value rest) (is_made other made) = absurd (cc)
  gives_one {k} {fuel} {told} {v} {u} (is_needed {reads = vs} {j = j} {w = w} none needs value rest) (is_needed {reads = us} {j = i} {w = x} {others = is} other wants worth later) =
      let same : i ≡ j = cc in
      let one = gives_one value (subst (λ (q : K). Gives cmp given make q 0 [] x is) same worth) in
      let also : told ++ ((i, x) ∷ []) ≡ told ++ ((j, w) ∷ []) = let equal = one.0 in cc in
      let on = gives_one rest (subst (λ (l : List (K × V)). Gives cmp given make k fuel l u us) also later) in
      (on.0, (let reads = on.1 in cc))

  module _ (one_key : (a b : K) → cmp a b ≡ Equal → a ≡ b) (itself : (k : K) → cmp k k ≡ Equal) (ends : Ends cmp given make) where
    abbrev HasValue : K → ℕ → Type 0
    HasValue k fuel = (v : V) × IsValue cmp given make k fuel v

    try_on : (k : K) (fuel : ℕ) (told : List (K × V)) → OnTheWay cmp given make k fuel told → ((j : K) → ends.height j < ends.height k → HasValue j 0)
        → ((more : List (K × V)) → OnTheWay cmp given make k fuel more → untold (value_in cmp more) (ends.reads k fuel) < untold (value_in cmp told) (ends.reads k fuel) → HasValue k fuel)
        → (made : Made K V) → make k fuel (value_in cmp told) ≡ made → HasValue k fuel
    try_on k fuel told way below go (Done v) is = (v, comes_to cmp given make k fuel told v way [] (is_made (not_given cmp given make k fuel told way) is))
    try_on k fuel told way below go (Needs j) is =
        let tells = tells_on_the_way cmp given make one_key k fuel told way in
        let none = not_given cmp given make k fuel told way in
        let needed = below j (ends.lower k fuel (value_in cmp told) j none tells is) in
        let read = ends.reading k fuel (value_in cmp told) j none tells is in
        go (told ++ ((j, needed.0) ∷ [])) (one_more way is needed.1) (untold-falls cmp itself told j needed.0 (ends.reads k fuel) read.0 read.1)

    tries : (n : ℕ) (k : K) (fuel : ℕ) (told : List (K × V)) → untold (value_in cmp told) (ends.reads k fuel) < n → OnTheWay cmp given make k fuel told
        → ((j : K) → ends.height j < ends.height k → HasValue j 0) → HasValue k fuel
    tries zero k fuel told few way below = absurd (omega arith)
    tries (suc n) k fuel told few way below = try_on k fuel told way below (λ more way_on less. tries n k fuel more (omega arith) way_on below) (make k fuel (value_in cmp told)) refl

    from_given : (k : K) (fuel : ℕ) → ((j : K) → ends.height j < ends.height k → HasValue j 0) → (found : Option V) → given k ≡ found → HasValue k fuel
    from_given k fuel below (Some v) is = (v, ([], is_given is))
    from_given k fuel below None is = tries (suc (untold (value_in {K = K} {V = V} cmp []) (ends.reads k fuel))) k fuel [] (omega arith) (at_first is) below

    has_value : (n : ℕ) (k : K) (fuel : ℕ) → ends.height k < n → HasValue k fuel
    has_value zero k fuel low = absurd (omega arith)
    has_value (suc n) k fuel low = from_given k fuel (λ j less. has_value n j 0 (omega arith)) (given k) refl

    pub table_of_all : (table : K → ℕ → V) × IsTable cmp given make table
    table_of_all = (λ k fuel. (has_value (suc (ends.height k)) k fuel (omega arith)).0, λ k fuel. (has_value (suc (ends.height k)) k fuel (omega arith)).1)
