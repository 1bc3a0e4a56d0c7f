-- A table of units: all are units of the same files, and their names are those of the files.
use Rattle.std.proofs.Common.{◌≡◌, true, false, List, [], ◌∷◌, ◌++◌, Some, None, is_some, nat_eq, ℕ, ◌+◌, drop, map, cond, refl, sym, ap, subst, ◌∙◌}
use Rattle.std.specs.List.{AllByRecursion}
use Rattle.std.specs.Cmp.Lexicographic.{pointwise}
use Rattle.std.proofs.lemmas.List.{map-append}
use Rattle.sve_table.specs.Tables.{item_of, with_item, with_items}
use Rattle.sve_table.proofs.Entries.{with_item-present, with_item-absent}
use Rattle.sve_table.proofs.Added.{same_name}
use Rattle.sve_text.specs.Rows.{Row}
use Rattle.sve_front.specs.declared.unit.Unit.{Unit}
use Rattle.sve_front.specs.Readings.{IsUnitOf, AreUnitsOf, AreCut, file_of, itself}

pub all_append : {X : Type 0} (P : X → Type 0) (xs ys : List X) → AllByRecursion P xs → AllByRecursion P ys → AllByRecursion P (xs ++ ys)
all_append P [] ys hx hy = hy
all_append P (x ∷ xs) ys hx hy = (hx.0, all_append P xs ys hx.1 hy)

pub units_after : (rows : List Row) (units : List Unit) (u : Unit) → AreUnitsOf rows units → IsUnitOf rows u → AreUnitsOf rows (with_item file_of units u)
units_after rows units u hs h =
    elim (is_some (item_of file_of (file_of u) units)) as (λ v. is_some (item_of file_of (file_of u) units) ≡ v → AreUnitsOf rows (with_item file_of units u)) [
      | true ↦ λ e. subst (AreUnitsOf rows) (sym (with_item-present file_of units u e)) hs
      | false ↦ λ e. subst (AreUnitsOf rows) (sym (with_item-absent file_of units u e)) (all_append (IsUnitOf rows) units (u ∷ []) hs (h, tt))
    ] refl

-- what is found has that name, and what all have
pub unit_found : (P : Unit → Type 0) (units : List Unit) (name : List ℕ) (u : Unit) → AllByRecursion P units → item_of file_of name units ≡ Some u → P u × (u.file ≡ name)
unit_found P [] name u hs is = cc
unit_found P (v ∷ units) name u hs is =
    elim (pointwise nat_eq name (file_of v)) as (λ t. pointwise nat_eq name (file_of v) ≡ t → P u × (u.file ≡ name)) [
      | true ↦ λ e. let here : v ≡ u = (let s : item_of file_of name (v ∷ units) ≡ Some v = rw e refl in cc (s, is)) in (subst P here hs.0, ap (λ (w : Unit). w.file) (sym here) ∙ sym (same_name name (file_of v) e))
      | false ↦ λ e. let later : item_of file_of name units ≡ Some u = (let s : item_of file_of name (v ∷ units) ≡ item_of file_of name units = rw e refl in sym s ∙ is) in unit_found P units name u hs.1 later
    ] refl

-- units of files are cut
pub are_cut : (rows : List Row) (units : List Unit) → AreUnitsOf rows units → AreCut units
are_cut rows [] hs = tt
are_cut rows (u ∷ units) hs = (record { chunks = hs.0.chunks; few = hs.0.few }, are_cut rows units hs.1)

-- the names of units, found as the units are
named : (units : List Unit) (name : List ℕ) → is_some (item_of itself name (map file_of units)) ≡ is_some (item_of file_of name units)
named [] name = refl
named (u ∷ units) name =
    elim (pointwise nat_eq name (file_of u)) as (λ t. is_some (cond t (Some (file_of u)) (item_of itself name (map file_of units))) ≡ is_some (cond t (Some u) (item_of file_of name units))) [
      | true ↦ refl
      | false ↦ named units name
    ]

names_after : (units : List Unit) (u : Unit) → map file_of (with_item file_of units u) ≡ with_item itself (map file_of units) (file_of u)
names_after units u =
    elim (is_some (item_of file_of (file_of u) units)) as (λ v. is_some (item_of file_of (file_of u) units) ≡ v → map file_of (with_item file_of units u) ≡ with_item itself (map file_of units) (file_of u)) [
      | true ↦ λ e. ap (map file_of) (with_item-present file_of units u e) ∙ sym (with_item-present itself (map file_of units) (file_of u) (named units (file_of u) ∙ e))
      | false ↦ λ e. ap (map file_of) (with_item-absent file_of units u e) ∙ map-append file_of units (u ∷ []) ∙ sym (with_item-absent itself (map file_of units) (file_of u) (named units (file_of u) ∙ e))
    ] refl

-- the names so far, then the others, are all names
pub names_go_on : (names : List (List ℕ)) (i : ℕ) (name : List ℕ) (units : List Unit) (u : Unit) (whole : List (List ℕ)) → drop i names ≡ name ∷ drop (i + 1) names → u.file ≡ name
    → with_items itself (map file_of units) (drop i names) ≡ whole → with_items itself (map file_of (with_item file_of units u)) (drop (i + 1) names) ≡ whole
names_go_on names i name units u whole e file so_far =
    ap (λ (ns : List (List ℕ)). with_items itself ns (drop (i + 1) names)) (names_after units u ∙ ap (λ (n : List ℕ). with_item itself (map file_of units) n) file)
    ∙ sym (ap (λ (ns : List (List ℕ)). with_items itself (map file_of units) ns) e)
    ∙ so_far
