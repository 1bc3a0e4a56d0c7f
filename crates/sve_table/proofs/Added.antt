-- What is found in a table to which items were added one after another.
use Rattle.std.proofs.Common.{◌≡◌, ◌∙◌, sym, ℕ, true, false, ◌&&◌, cond, List, [], ◌∷◌, Option, None, Some, refl, ap, nat_eq, is_some}
use Rattle.std.specs.Cmp.Lexicographic.{pointwise}
use Rattle.std.specs.Option.{option_or}
use Rattle.std.proofs.lemmas.Bool.{eqb-true}
use Rattle.std.proofs.lemmas.List.Folds.{find-append}
use Rattle.sve_table.specs.Tables.{FirstOfItsName, item_of, with_item, with_items}
use Rattle.sve_table.proofs.Entries.{with_item-present, with_item-absent}

-- names that compare equal are one name
pub same_name : (m n : List ℕ) → pointwise nat_eq m n ≡ true → m ≡ n
same_name [] [] h = refl
same_name [] (b ∷ n) h = cc
same_name (a ∷ m) [] h = cc
same_name (a ∷ m) (b ∷ n) h =
    elim (nat_eq a b) as (λ v. nat_eq a b ≡ v → (v && pointwise nat_eq m n) ≡ true → a ∷ m ≡ b ∷ n) [
      | true ↦ λ e k. let p : a ≡ b = eqb-true a b e in let q = same_name m n k in cc
      | false ↦ λ e k. cc
    ] refl h

both : {X : Type 0} (o : Option X) (p q : Option X) → option_or (option_or o p) q ≡ option_or o (option_or p q)
both None p q = refl
both (Some x) p q = refl

taken : {X : Type 0} (o p : Option X) → is_some o ≡ true → option_or o p ≡ o
taken None p h = cc
taken (Some x) p h = refl

module _ {X : Type 0} (called : X → List ℕ) where
  -- what an item adds to what is found where one of its name is there: nothing
  hidden : (items : List X) (item : X) (name : List ℕ) (o : Option X) → is_some (item_of called (called item) items) ≡ true → option_or (item_of called name items) o ≡ option_or (item_of called name items) (cond (pointwise nat_eq name (called item)) (Some item) o)
  hidden items item name o h =
      elim (pointwise nat_eq name (called item)) as (λ v. pointwise nat_eq name (called item) ≡ v → option_or (item_of called name items) o ≡ option_or (item_of called name items) (cond v (Some item) o)) [
        | true ↦ λ e. let same = same_name name (called item) e in let there : is_some (item_of called name items) ≡ true = rw same h in taken (item_of called name items) o there ∙ sym (taken (item_of called name items) (Some item) there)
        | false ↦ λ e. refl
      ] refl

  last_one : (item : X) (name : List ℕ) (o : Option X) → option_or (item_of called name (item ∷ [])) o ≡ cond (pointwise nat_eq name (called item)) (Some item) o
  last_one item name o =
      elim (pointwise nat_eq name (called item)) as (λ v. option_or (cond v (Some item) None) o ≡ cond v (Some item) o) [ true ↦ refl | false ↦ refl ]

  one_more : (items : List X) (item : X) (name : List ℕ) (o : Option X) → option_or (item_of called name (with_item called items item)) o ≡ option_or (item_of called name items) (cond (pointwise nat_eq name (called item)) (Some item) o)
  one_more items item name o =
      elim (is_some (item_of called (called item) items)) as (λ v. is_some (item_of called (called item) items) ≡ v → option_or (item_of called name (with_item called items item)) o ≡ option_or (item_of called name items) (cond (pointwise nat_eq name (called item)) (Some item) o)) [
        | true ↦ λ e. ap (λ l. option_or (item_of called name l) o) (with_item-present called items item e) ∙ hidden items item name o e
        | false ↦ λ e. ap (λ l. option_or (item_of called name l) o) (with_item-absent called items item e) ∙ ap (λ p. option_or p o) (find-append (λ x. pointwise nat_eq name (called x)) items (item ∷ [])) ∙ both (item_of called name items) (item_of called name (item ∷ [])) o ∙ ap (option_or (item_of called name items)) (last_one item name o)
      ] refl

  pub item_of-with_items : (more items : List X) (name : List ℕ) → item_of called name (with_items called items more) ≡ option_or (item_of called name items) (item_of called name more)
  item_of-with_items [] items name = elim (item_of called name items) as (λ o. o ≡ option_or o None) [ None ↦ refl | Some x ↦ refl ]
  item_of-with_items (item ∷ more) items name = item_of-with_items more (with_item called items item) name ∙ one_more items item name (item_of called name more)

  pub first_of_its_name : FirstOfItsName called
  first_of_its_name items name = item_of-with_items items [] name
