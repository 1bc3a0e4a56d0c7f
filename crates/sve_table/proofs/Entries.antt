-- The entries of a map whose keys are the names of what stands under them: what is found, and one entry more.
use Rattle.std.proofs.Common.{◌≡◌, ℕ, true, false, cond, List, [], ◌∷◌, ◌++◌, Option, None, Some, refl, ap, nat_eq, is_some}
use Rattle.std.specs.Cmp.Lexicographic.{pointwise}
use Rattle.std.specs.Map.{lookup, values_of}
use Rattle.sve_table.specs.Tables.{StandUnderTheirNames, item_of, with_item}

module _ {X : Type 0} (called : X → List ℕ) where
  -- a key finds the first item of that name
  pub lookup-item_of : (name : List ℕ) (entries : List (List ℕ × X)) → StandUnderTheirNames called entries → lookup (pointwise nat_eq name) entries ≡ item_of called name (values_of entries)
  lookup-item_of name [] h = refl
  lookup-item_of name (entry ∷ entries) h = rw (h.0) (ap (λ o. cond (pointwise nat_eq name (called entry.1)) (Some entry.1) o) (lookup-item_of name entries h.1))

  pub values_of-push : (entries : List (List ℕ × X)) (key : List ℕ) (item : X) → values_of (entries ++ (key, item) ∷ []) ≡ values_of entries ++ item ∷ []
  values_of-push [] key item = refl
  values_of-push (entry ∷ entries) key item = ap (λ items. entry.1 ∷ items) (values_of-push entries key item)

  pub under_names-push : (entries : List (List ℕ × X)) (key : List ℕ) (item : X) → key ≡ called item → StandUnderTheirNames called entries → StandUnderTheirNames called (entries ++ (key, item) ∷ [])
  under_names-push [] key item same h = (same, tt)
  under_names-push (entry ∷ entries) key item same h = (h.0, under_names-push entries key item same h.1)

  -- where an item of that name is there, nothing is added
  pub with_item-present : (items : List X) (item : X) → is_some (item_of called (called item) items) ≡ true → with_item called items item ≡ items
  with_item-present items item h = rw h refl

  -- where none is, it stands last
  pub with_item-absent : (items : List X) (item : X) → is_some (item_of called (called item) items) ≡ false → with_item called items item ≡ items ++ item ∷ []
  with_item-absent items item h = rw h refl

pub none_there : {X : Type 0} (o : Option X) → is_some o ≡ false → o ≡ None
none_there None h = refl
none_there (Some x) h = cc
