-- Words one by one.
use Rattle.std.proofs.Common.{arith, ◌≡◌, ◌≤◌, ◌<◌, ◌+◌, ◌∙◌, ℕ, zero, suc, Bool, true, false, List, [], ◌∷◌, ◌++◌, length, drop, slice_get, take, Option, None, Some, refl, ap, if◌then◌else◌}
use Rattle.std.proofs.Math.Numerals.{add-one}
use Rattle.sve_table.specs.Tables.{with_item, with_items}
use Rattle.sve_tree.specs.declared.token_word.Word.{Word}
use Rattle.sve_tree.specs.TokenWords.{name_in}
use Rattle.sve_imports.specs.Naming.{as_list, is_colons_there, itself, name_there, package_at, package_names}

first_name : (w : Word) (ws : List Word) → package_names (w ∷ ws) ≡ as_list (if is_colons_there (slice_get ws 0) then name_in w else None) ++ package_names ws
unfolding package_names
first_name w [] = refl
first_name w (v ∷ vs) = by (is_colons_there (Some v))
  where
    by : (b : Bool) → (if b then as_list (name_in w) else []) ++ package_names (v ∷ vs) ≡ as_list (if b then name_in w else None) ++ package_names (v ∷ vs)
    by true = refl
    by false = refl

-- the names from a place on: the one there, if it is one, and those behind it
names_more : (ws : List Word) (i : ℕ) → i < length ws → package_names (drop i ws) ≡ as_list (package_at ws i) ++ package_names (drop (i + 1) ws)
names_more ws i h = rw (add-one i) (at ws i h)
  where
    at : (ws : List Word) (i : ℕ) → i < length ws → package_names (drop i ws) ≡ as_list (if is_colons_there (slice_get ws (suc i)) then name_there (slice_get ws i) else None) ++ package_names (drop (suc i) ws)
    at [] i h = absurd (omega arith)
    at (w ∷ ws) zero h = first_name w ws
    at (w ∷ ws) (suc i) h = at ws i (omega arith)

pub goes_on : (names : List (List ℕ)) (ws : List Word) (i : ℕ) (n : List ℕ) → i < length ws → package_at ws i ≡ Some n
    → with_items itself names (package_names (drop i ws)) ≡ with_items itself (with_item itself names n) (package_names (drop (i + 1) ws))
goes_on names ws i n h e = ap (with_items itself names) (names_more ws i h ∙ ap (λ (o : Option (List ℕ)). as_list o ++ package_names (drop (i + 1) ws)) e)

pub passes : (ws : List Word) (i : ℕ) → i < length ws → package_at ws i ≡ None → package_names (drop i ws) ≡ package_names (drop (i + 1) ws)
passes ws i h e = names_more ws i h ∙ ap (λ (o : Option (List ℕ)). as_list o ++ package_names (drop (i + 1) ws)) e

pub none_left : (ws : List Word) (i : ℕ) → length ws ≤ i → package_names (drop i ws) ≡ []
unfolding package_names
none_left [] zero h = refl
none_left [] (suc i) h = refl
none_left (w ∷ ws) zero h = absurd (omega arith)
none_left (w ∷ ws) (suc i) h = none_left ws i (omega arith)

-- the names in front of a place, and the one there
pub take_next : (names : List (List ℕ)) (i : ℕ) (n : List ℕ) → slice_get names i ≡ Some n → take (i + 1) names ≡ take i names ++ n ∷ []
take_next names i n h = rw (add-one i) (at names i h)
  where
    at : (xs : List (List ℕ)) (k : ℕ) → slice_get xs k ≡ Some n → take (suc k) xs ≡ take k xs ++ n ∷ []
    at [] k e = cc
    at (x ∷ xs) zero e = cc
    at (x ∷ xs) (suc k) e = ap (λ (ys : List (List ℕ)). x ∷ ys) (at xs k e)
