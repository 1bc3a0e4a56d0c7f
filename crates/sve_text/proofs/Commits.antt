-- What a commit's edits leave: which names have the new stamp, which keep what they had, and what the rows keep.
use Rattle.std.proofs.Common.{◌≡◌, ◌≢◌, ◌⊎◌, ℕ, Bool, true, false, cond, List, [], ◌∷◌, Option, Some, refl, ap, sym, ◌∙◌, subst, inl, inr}
use Rattle.std.specs.Prelude.{IfSome, option_and_then, is_some, fold, filter}
use Rattle.std.specs.Ordering.{is_eq}
use Rattle.std.specs.Cmp.{booleans_Decides, first_so, second_so}
use Rattle.std.specs.Option.{option_map_or}
use Rattle.std.specs.declared.cmp.Ordering.{Ordering}
use Rattle.std.specs.declared.cmp.Ordering.TheVariants.{Less, Equal, Greater}
use Rattle.std.proofs.lemmas.Map.Lookups.{exact_bytes}
use Rattle.sve_text.specs.declared.edit.Edit.{Edit}
use Rattle.sve_text.specs.declared.edit.Edit.TheVariants.{Drop}
use Rattle.sve_text.specs.Rows.{Row, name_cmp, row_of, text_of, stamp_of, is_there, IsInLimit, IsInOrder, RowsFit}
use Rattle.sve_text.specs.Files.{name_of, text_after, edited, rows_after, keep_names}
use Rattle.sve_text.specs.Laws.{Touches, HaveSameNames, DropTakesAway, EditChangesOneName, CommitStampsItsNames, EachFileIsItsEdits, CommitKeepsOrder, KeptNamesAreAllNames, NamesStampTellsTheSet}
use Rattle.sve_text.proofs.Puts.{name_cmp_itself, row_of-put_row, row_of-put_row_other, IsInOrder-put_row, RowsFit-put_row}

pub IsInOrder-edited : (r : ℕ) (rows : List Row) (e : Edit) → IsInOrder rows → IsInOrder (edited r rows e)
IsInOrder-edited r rows e s = IsInOrder-put_row _ rows s

pub RowsFit-edited : (r : ℕ) (rows : List Row) (e : Edit) → IfSome (text_after (text_of rows (name_of e)) e) IsInLimit → RowsFit rows → RowsFit (edited r rows e)
RowsFit-edited r rows e p fit = RowsFit-put_row _ rows p fit

pub commit_keeps_order : CommitKeepsOrder
commit_keeps_order r rows [] s = s
commit_keeps_order r rows (e ∷ es) s = commit_keeps_order r (edited r rows e) es (IsInOrder-edited r rows e s)

row_of-edited : (r : ℕ) (rows : List Row) (e : Edit) → row_of (edited r rows e) (name_of e) ≡ Some (record { name = name_of e; text = text_after (text_of rows (name_of e)) e; stamp = r })
row_of-edited r rows e = row_of-put_row _ rows

row_of-edited_other : (r : ℕ) (rows : List Row) (e : Edit) (name : List ℕ) → name ≢ name_of e → row_of (edited r rows e) name ≡ row_of rows name
row_of-edited_other r rows e name n = row_of-put_row_other _ rows name n

abbrev text_in : Option Row → Option (List ℕ)
text_in row = option_and_then (λ (row : Row). row.text) row

abbrev stamp_in : Option Row → ℕ
stamp_in row = option_map_or (λ (row : Row). row.stamp) row 0

pub edit_changes_one_name : EditChangesOneName
edit_changes_one_name r rows e = (
  ap text_in (row_of-edited r rows e),
  ap stamp_in (row_of-edited r rows e),
  λ name n. ap text_in (row_of-edited_other r rows e name n),
  λ name n. ap stamp_in (row_of-edited_other r rows e name n),
)

pub drop_takes_away : DropTakesAway
drop_takes_away r rows name = ((edit_changes_one_name r rows (Drop name)).0, (edit_changes_one_name r rows (Drop name)).1, row_of-edited_other r rows (Drop name))

-- the edits of one name
edits_of_by : (o : Ordering) (r : ℕ) (rows : List Row) (e : Edit) (es : List Edit) (name : List ℕ) → name_cmp name (name_of e) ≡ o → fold text_after (text_of (edited r rows e) name) es ≡ fold text_after (text_of rows name) (cond (is_eq o) (e ∷ es) es)
edits_of_by Less r rows e es name is =
    let other : name ≢ name_of e = λ same. let two : Less ≡ Equal = sym is ∙ ap (λ n. name_cmp n (name_of e)) same ∙ name_cmp_itself (name_of e) in cc in
    ap (λ before. fold text_after before es) ((edit_changes_one_name r rows e).2 name other)
edits_of_by Equal r rows e es name is =
    let same : name ≡ name_of e = exact_bytes name (name_of e) is in
    subst (λ n. fold text_after (text_of (edited r rows e) n) es ≡ fold text_after (text_after (text_of rows n) e) es) (sym same) (ap (λ before. fold text_after before es) (edit_changes_one_name r rows e).0)
edits_of_by Greater r rows e es name is =
    let other : name ≢ name_of e = λ same. let two : Greater ≡ Equal = sym is ∙ ap (λ n. name_cmp n (name_of e)) same ∙ name_cmp_itself (name_of e) in cc in
    ap (λ before. fold text_after before es) ((edit_changes_one_name r rows e).2 name other)

pub each_file_is_its_edits : EachFileIsItsEdits
each_file_is_its_edits r rows [] name = refl
each_file_is_its_edits r rows (e ∷ es) name = each_file_is_its_edits r (edited r rows e) es name ∙ edits_of_by (name_cmp name (name_of e)) r rows e (filter (λ e. is_eq (name_cmp name (name_of e))) es) name refl

same_or_other_by : (o : Ordering) (a b : List ℕ) → name_cmp a b ≡ o → (a ≡ b) ⊎ (a ≢ b)
same_or_other_by Less a b e = inr (λ same. let two : Less ≡ Equal = sym e ∙ ap (λ x. name_cmp x b) same ∙ name_cmp_itself b in cc)
same_or_other_by Equal a b e = inl (exact_bytes a b e)
same_or_other_by Greater a b e = inr (λ same. let two : Greater ≡ Equal = sym e ∙ ap (λ x. name_cmp x b) same ∙ name_cmp_itself b in cc)

-- two names are one, or they are not
pub same_or_other : (a b : List ℕ) → (a ≡ b) ⊎ (a ≢ b)
same_or_other a b = same_or_other_by (name_cmp a b) a b refl

-- the edits touch the name, or they do not
touched_or_not : (edits : List Edit) (name : List ℕ) → Touches edits name ⊎ (¬ Touches edits name)
touched_or_not [] name = inr (λ t. t)
touched_or_not (e ∷ es) name =
    elim (same_or_other name (name_of e)) [
      | inl same ↦ inl (inl same)
      | inr other ↦ elim (touched_or_not es name) [
        | inl later ↦ inl (inr later)
        | inr never ↦ inr (λ t. elim t [ inl same ↦ other same | inr later ↦ never later ])
      ]
    ]

pub row_of-untouched : (r : ℕ) (rows : List Row) (edits : List Edit) (name : List ℕ) → (¬ Touches edits name) → row_of (rows_after r rows edits) name ≡ row_of rows name
row_of-untouched r rows [] name never = refl
row_of-untouched r rows (e ∷ es) name never =
    row_of-untouched r (edited r rows e) es name (λ later. never (inr later)) ∙ row_of-edited_other r rows e name (λ same. never (inl same))

pub stamp_of-touched : (r : ℕ) (rows : List Row) (edits : List Edit) (name : List ℕ) → Touches edits name → stamp_of (rows_after r rows edits) name ≡ r
stamp_of-touched r rows [] name t = absurd t
stamp_of-touched r rows (e ∷ es) name (inr later) = stamp_of-touched r (edited r rows e) es name later
stamp_of-touched r rows (e ∷ es) name (inl same) =
    elim (touched_or_not es name) [
      | inl later ↦ stamp_of-touched r (edited r rows e) es name later
      | inr never ↦ ap stamp_in (row_of-untouched r (edited r rows e) es name never ∙ ap (row_of (edited r rows e)) same ∙ row_of-edited r rows e)
    ]

pub commit_stamps_its_names : CommitStampsItsNames
commit_stamps_its_names r rows edits name = (stamp_of-touched r rows edits name, row_of-untouched r rows edits name)

-- the test of all touched names, at one of them
kept_at : (before after : List Row) (edits : List Edit) (name : List ℕ) → keep_names before after edits ≡ true → Touches edits name → is_there before name ≡ is_there after name
kept_at before after [] name kept t = absurd t
kept_at before after (e ∷ es) name kept (inl same) =
    let here : is_there before (name_of e) ≡ is_there after (name_of e) = (booleans_Decides _ _).0 (first_so _ (keep_names before after es) kept) in
    ap (is_there before) same ∙ here ∙ ap (is_there after) (sym same)
kept_at before after (e ∷ es) name kept (inr later) = kept_at before after es name (second_so _ (keep_names before after es) kept) later

kept_everywhere : (before after : List Row) (edits : List Edit) → HaveSameNames before after → keep_names before after edits ≡ true
kept_everywhere before after [] same = refl
kept_everywhere before after (e ∷ es) same =
    rw ((booleans_Decides (is_there before (name_of e)) (is_there after (name_of e))).1 (same (name_of e))) (kept_everywhere before after es same)

same_names : (r : ℕ) (rows : List Row) (edits : List Edit) → keep_names rows (rows_after r rows edits) edits ≡ true → HaveSameNames rows (rows_after r rows edits)
same_names r rows edits kept name =
    elim (touched_or_not edits name) [
      | inl t ↦ kept_at rows (rows_after r rows edits) edits name kept t
      | inr never ↦ ap (λ row. is_some (text_in row)) (sym (row_of-untouched r rows edits name never))
    ]

pub kept_names_are_all_names : KeptNamesAreAllNames
kept_names_are_all_names r rows edits = (same_names r rows edits, kept_everywhere rows (rows_after r rows edits) edits)

names_stamp_by : (r s : ℕ) (kept : Bool) (Same : Type 0) → (kept ≡ true → Same) → (Same → kept ≡ true) → (Same → cond kept s r ≡ s) × ((¬ Same) → cond kept s r ≡ r)
names_stamp_by r s true Same f g = (λ _. refl, λ other. absurd (other (f refl)))
names_stamp_by r s false Same f g = (λ same. let two : false ≡ true = g same in cc, λ _. refl)

pub names_stamp_tells_the_set : NamesStampTellsTheSet
names_stamp_tells_the_set r files edits =
    names_stamp_by r files.names_stamp _ _ (same_names r files.rows edits) (kept_everywhere files.rows (rows_after r files.rows edits) edits)
