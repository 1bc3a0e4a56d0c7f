-- What the search finds are the rounds.
use Rattle.std.proofs.Common.{arith, ◌≡◌, ◌<◌, ◌≤◌, ◌+◌, ◌∙◌, sym, ℕ, zero, suc, Bool, true, false, ◌&&◌, List, [], ◌∷◌, length, map, slice_get, get_or, nat_lt, Option, None, Some, refl, ap, option_map, cond}
use Rattle.std.specs.List.{filter_map, list_all}
use Rattle.std.proofs.lemmas.Bool.Decides.{nat_tests}
use Rattle.std.proofs.lemmas.List.{length-map}
use Rattle.std.proofs.lemmas.Option.{slice_get-map, slice_get_within, slice_get-get_or, slice_get_past}
use Rattle.sve_table.specs.Tables.{item_of}
use Rattle.sve_package_order.specs.declared.package_imports.PackageImports.{PackageImports}
use Rattle.sve_package_order.specs.declared.progress.Progress.{Progress}
use Rattle.sve_package_order.specs.declared.progress.Progress.TheVariants.{Waits}
use Rattle.sve_package_order.specs.Rounds.{package_name, is_early, is_before, first_round, round_of, rounds_of, HaveTheirRounds}
use Rattle.sve_package_order.specs.Graph.{places_of, place_of, graph_of}
use Rattle.sve_package_order.specs.Search.{found, found_there, settled, above, next_round, Fits, Solves}
use Rattle.sve_package_order.proofs.Places.{same_places}
use Rattle.sve_package_order.proofs.Steps.{all_low}
use Rattle.sve_package_order.proofs.Numbered.{none_named, one_named}

above_before : (k : ℕ) (a b : Option ℕ) → is_before (suc k) (above a b) ≡ (is_before k a && is_before (suc k) b)
above_before k None b = refl
above_before k (Some r) None = by (nat_lt r k)
  where
    by : (b : Bool) → false ≡ (b && false)
    by true = refl
    by false = refl
above_before k (Some r) (Some m) = grind (arith, nat_tests)

next_before : (k : ℕ) (round : ℕ → Option ℕ) (qs : List ℕ) → is_before (suc k) (next_round round qs) ≡ list_all (λ q. is_before k (round q)) qs
unfolding next_round
next_before k round [] = grind (arith, nat_tests)
next_before k round (q ∷ qs) = above_before k (round q) (next_round round qs) ∙ ap (λ b. is_before k (round q) && b) (next_before k round qs)

-- a map of rounds in which each package has the next round of those that it imports
abbrev IsSolved : List PackageImports → (ℕ → Option ℕ) → Type 0
IsSolved ps round = (i : ℕ) (p : PackageImports) → slice_get ps i ≡ Some p → round i ≡ next_round round (places_of ps p)

-- packages by their names, and by their places
same_all : (ps : List PackageImports) (round : ℕ → Option ℕ) (k : ℕ) → ((i : ℕ) (p : PackageImports) → slice_get ps i ≡ Some p → is_early ps k p ≡ is_before k (round i)) → (names : List (List ℕ))
    → list_all (is_early ps k) (filter_map (λ name. item_of package_name name ps) names) ≡ list_all (λ q. is_before k (round q)) (filter_map (place_of ps) names)
same_all ps round k h [] = refl
same_all ps round k h (name ∷ names) = by (place_of ps name) refl (same_all ps round k h names)
  where
    by : (o : Option ℕ) → place_of ps name ≡ o
        → list_all (is_early ps k) (filter_map (λ n. item_of package_name n ps) names) ≡ list_all (λ q. is_before k (round q)) (filter_map (place_of ps) names)
        → list_all (is_early ps k) (filter_map (λ n. item_of package_name n ps) (name ∷ names)) ≡ list_all (λ q. is_before k (round q)) (filter_map (place_of ps) (name ∷ names))
    by None e rest = rw (e, none_named name 0 ps e) rest
    by (Some j) e rest =
        let f = one_named name 0 ps j e in
        let same : j ≡ f.0 = omega (arith, f.2) in
        let there : slice_get ps j ≡ Some f.1 = ap (slice_get ps) same ∙ f.3 in
        rw (e, f.4, h j f.1 there) (ap (λ b. is_before k (round j) && b) rest)

early : (ps : List PackageImports) (round : ℕ → Option ℕ) → IsSolved ps round → (k i : ℕ) (p : PackageImports) → slice_get ps i ≡ Some p → is_early ps k p ≡ is_before k (round i)
unfolding is_early
early ps round s zero i p h = never (round i)
  where
    never : (r : Option ℕ) → false ≡ is_before 0 r
    never None = refl
    never (Some r) = grind (arith, nat_tests)
early ps round s (suc k) i p h =
    same_all ps round k (early ps round s k) p.imports ∙ sym (next_before k round (places_of ps p)) ∙ ap (is_before (suc k)) (sym (s i p h))

-- the first round by its turns
first_none : (ps : List PackageImports) (p : PackageImports) → ((k : ℕ) → is_early ps k p ≡ false) → (k more : ℕ) → first_round ps p k more ≡ None
first_none ps p h k zero = refl
first_none ps p h k (suc more) = rw (h (suc k)) (first_none ps p h (suc k) more)

first_is : (ps : List PackageImports) (p : PackageImports) (r : ℕ) → ((k : ℕ) → is_early ps k p ≡ nat_lt r k) → (k more : ℕ) → k ≤ r → r < k + more → first_round ps p k more ≡ Some r
first_is ps p r h k zero low high = absurd (omega arith)
first_is ps p r h k (suc more) low high = by (nat_lt r (suc k)) refl (first_is ps p r h (suc k) more)
  where
    by : (b : Bool) → nat_lt r (suc k) ≡ b → (suc k ≤ r → r < suc k + more → first_round ps p (suc k) more ≡ Some r)
        → cond (is_early ps (suc k) p) (Some k) (first_round ps p (suc k) more) ≡ Some r
    by true e rest = rw (h (suc k), e) (ap Some (same e))
      where
        same : nat_lt r (suc k) ≡ true → k ≡ r
        same t = grind (arith, nat_tests)
    by false e rest = rw (h (suc k), e) (rest (far e) (omega arith))
      where
        far : nat_lt r (suc k) ≡ false → suc k ≤ r
        far t = grind (arith, nat_tests)

past_end : {X : Type 0} (xs : List X) (k : ℕ) → slice_get xs k ≡ None → length xs ≤ k
past_end [] k e = omega arith
past_end (x ∷ xs) zero e = cc
past_end (x ∷ xs) (suc k) e = let l = past_end xs k e in omega arith

module _ (ps : List PackageImports) (progress : List Progress) (left : ℕ) (fits : Fits (graph_of ps) progress left) (solves : Solves (graph_of ps) progress) where
  sized : length progress ≡ length ps
  sized = fits.sized ∙ length-map ps (places_of ps)

  is_solved : IsSolved ps (settled progress)
  is_solved i p h = solves i (places_of ps p) (slice_get-map (places_of ps) ps i ∙ ap (option_map (places_of ps)) h)

  round_is : (i : ℕ) (p : PackageImports) → slice_get ps i ≡ Some p → round_of ps p ≡ settled progress i
  round_is i p h = by (settled progress i) refl
    where
      by : (o : Option ℕ) → settled progress i ≡ o → round_of ps p ≡ settled progress i
      by None e = first_none ps p (λ k. early ps (settled progress) is_solved k i p h ∙ ap (is_before k) e) 0 (length ps) ∙ sym e
      by (Some r) e =
          let low : r + left < length progress = all_low (graph_of ps) progress left fits i r e in
          first_is ps p r (λ k. early ps (settled progress) is_solved k i p h ∙ ap (is_before k) e) 0 (length ps) (omega arith) (omega (arith, sized, low)) ∙ sym e

  pub rounds_first : HaveTheirRounds ps
  rounds_first i p h k = early ps (settled progress) is_solved k i p h ∙ ap (is_before k) (sym (round_is i p h))

  there : (k : ℕ) (o : Option PackageImports) → slice_get ps k ≡ o → option_map found (slice_get progress k) ≡ option_map (round_of ps) (slice_get ps k)
  there k None e =
      let past : length ps ≤ k = past_end ps k e in
      rw (e, slice_get_past progress k (omega (arith, sized))) refl
  there k (Some p) e =
      let within : k < length ps = slice_get_within ps k p e in
      let one : slice_get progress k ≡ Some (get_or progress k (Waits 0 0)) = slice_get-get_or progress k (Waits 0 0) (omega (arith, sized)) in
      rw (e, one) (ap Some (sym (ap found_there one) ∙ sym (round_is k p e)))

  pub rounds_found : map found progress ≡ rounds_of ps
  rounds_found = same_places (map found progress) (rounds_of ps) (λ k. slice_get-map found progress k ∙ there k (slice_get ps k) refl ∙ sym (slice_get-map (round_of ps) ps k))
