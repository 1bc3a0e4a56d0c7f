-- How what is left of a loop goes on.
use Rattle.std.proofs.Common.{◌≡◌, ℕ, suc, ◌+◌, ◌-◌, ◌<◌, List, [], length, drop, get_or, Option, sym, ap, ◌∙◌, arith, add-one}
use Rattle.std.proofs.Math.Seq.{drop-cons}
use Rattle.sve_store.specs.Made.{Done}
use Rattle.sve_key.specs.declared.key.Key.{Key}
use Rattle.sve_key.specs.declared.value.Value.{Value}
use Rattle.sve_make.specs.Make.{joined, element_told, elements_told, unit_told, units_told}

module _ (told : Key → Option Value) where
  -- of so many chunks, from the first
  pub all_left : (file : List ℕ) (count : ℕ) → elements_told told file 0 count ≡ elements_told told file 0 (count - 0)
  all_left file count = ap (elements_told told file 0) (omega arith)

  -- of those that are left, one, and the others
  pub one_left : (file : List ℕ) (n count : ℕ) → n < count → elements_told told file n (count - n) ≡ joined (element_told told file n) (elements_told told file (n + 1) (count - (n + 1)))
  unfolding elements_told
  one_left file n count low =
      let more : count - n ≡ suc (count - (n + 1)) = omega arith in
      ap (elements_told told file n) more

  -- none is left
  pub none_left : (file : List ℕ) (n count : ℕ) → n ≡ count → elements_told told file n (count - n) ≡ Done []
  unfolding elements_told
  none_left file n count e =
      let none : count - n ≡ 0 = omega (arith, e) in
      ap (elements_told told file n) none

  -- the same of units
  pub unit_left : (units : List (List ℕ)) (i : ℕ) (unit : List ℕ) → i < length units → unit ≡ get_or units i unit → units_told told (drop i units) ≡ joined (unit_told told unit) (units_told told (drop (i + 1) units))
  unfolding units_told
  unit_left units i unit low is =
      ap (units_told told) (drop-cons units i unit low)
      ∙ ap (λ (u : List ℕ). joined (unit_told told u) (units_told told (drop (suc i) units))) (sym is)
      ∙ ap (λ (k : ℕ). joined (unit_told told unit) (units_told told (drop k units))) (sym (add-one i))

  pub no_unit_left : (units : List (List ℕ)) → units ≡ [] → units_told told units ≡ Done []
  unfolding units_told
  no_unit_left units e = ap (units_told told) e
