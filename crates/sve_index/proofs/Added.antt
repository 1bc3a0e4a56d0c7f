-- Items that are added to a table, and a fold one item further.
use Rattle.std.proofs.Common.{◌≡◌, ◌∙◌, sym, ap, refl, ℕ, ◌+◌, ◌<◌, List, [], ◌∷◌, ◌++◌, length, drop, get_or}
use Rattle.std.specs.List.{fold}
use Rattle.std.proofs.lemmas.List.{drop_more}
use Rattle.sve_table.specs.Tables.{with_item, with_items}

module _ {X : Type 0} (called : X → List ℕ) where
  pub with_items_append : (more others items : List X) → with_items called items (more ++ others) ≡ with_items called (with_items called items more) others
  with_items_append [] others items = refl
  with_items_append (x ∷ more) others items = with_items_append more others (with_item called items x)

module _ {X Y : Type 0} (f : Y → X → Y) where
  pub folded_more : (start so_far next : Y) (xs : List X) (i : ℕ) (x : X) → i < length xs → x ≡ get_or xs i x → next ≡ f so_far x → fold f so_far (drop i xs) ≡ fold f start xs → fold f next (drop (i + 1) xs) ≡ fold f start xs
  folded_more start so_far next xs i x within is made before =
      ap (λ (y : Y). fold f y (drop (i + 1) xs)) (made ∙ ap (λ (z : X). f so_far z) is) ∙ sym (ap (λ (l : List X). fold f so_far l) (drop_more xs i x within)) ∙ before
