-- Named things in order, of which no two have one name (own).
use Rattle.std.specs.Prelude.{◌≡◌, ℕ, List, [], ◌∷◌, ◌++◌, Option, is_some, if◌then◌else◌, nat_eq}
use Rattle.std.specs.Cmp.Lexicographic.{pointwise}
use Rattle.std.specs.List.{find, AllByRecursion}

module _ {X : Type 0} (called : X → List ℕ) where
  -- the first item of a name, where there is one
  abbrev pub item_of : List ℕ → List X → Option X
  item_of name items = find (λ item. pointwise nat_eq name (called item)) items

  -- one item more, where none has its name
  abbrev pub with_item : List X → X → List X
  with_item items item = if is_some (item_of (called item) items) then items else items ++ item ∷ []

  -- and so many of them, one after another
  abbrev pub with_items : List X → List X → List X
  with_items items [] = items
  with_items items (item ∷ more) = with_items (with_item items item) more

  -- the items of a list without those whose name an earlier one has
  abbrev pub table_of : List X → List X
  table_of items = with_items [] items

  -- of each name the first item of a list stands in its table
  abbrev pub FirstOfItsName : Type 0
  FirstOfItsName = (items : List X) (name : List ℕ) → item_of name (table_of items) ≡ item_of name items

  -- the key of each entry is the name of what stands there
  abbrev pub StandUnderTheirNames : List (List ℕ × X) → Type 0
  StandUnderTheirNames entries = AllByRecursion (λ entry. entry.0 ≡ called entry.1) entries
