-- What a put row changes, and what rows keep when one is put.
use Rattle.std.proofs.Common.{◌≡◌, ◌≢◌, ℕ, List, [], ◌∷◌, Option, Some, refl, ap, sym, ◌∙◌, subst}
use Rattle.std.specs.Prelude.{IfSome}
use Rattle.std.specs.declared.cmp.Ordering.{Ordering}
use Rattle.std.specs.declared.cmp.Ordering.TheVariants.{Less, Equal, Greater}
use Rattle.std.specs.Ordering.{ordering_reverse, match_ordering}
use Rattle.std.proofs.lemmas.Cmp.{nat_list_cmp_total}
use Rattle.std.proofs.lemmas.Map.Lookups.{exact_bytes}
use Rattle.sve_text.specs.Rows.{Row, name_cmp, row_of, text_of, put_row, AllAfter, IsInOrder, IsInLimit, RowsFit}
use Rattle.sve_text.specs.Laws.{PutChangesOneName, PutKeepsOrder}
use Rattle.sve_text.proofs.Order.{name_cmp_less, AllAfter-trans}

-- an order that is its own reverse is `Equal`
Equal-from_reverse : (o : Ordering) → o ≡ ordering_reverse o → o ≡ Equal
Equal-from_reverse Less e = cc
Equal-from_reverse Equal e = refl
Equal-from_reverse Greater e = cc

pub name_cmp_itself : (name : List ℕ) → name_cmp name name ≡ Equal
name_cmp_itself name = Equal-from_reverse (name_cmp name name) (nat_list_cmp_total.antisymm name name)

found_other : (o : Ordering) (row : Row) (rest : Option Row) → o ≢ Equal → match_ordering o rest (Some row) rest ≡ rest
found_other Less row rest n = refl
found_other Equal row rest n = absurd (n refl)
found_other Greater row rest n = refl

pub row_of-other : (name : List ℕ) (row : Row) (rows : List Row) → name ≢ row.name → row_of (row ∷ rows) name ≡ row_of rows name
row_of-other name row rows n = found_other (name_cmp name row.name) row (row_of rows name) (λ e. n (exact_bytes name row.name e))

pub row_of-itself : (row : Row) (rows : List Row) → row_of (row ∷ rows) row.name ≡ Some row
row_of-itself row rows = rw (name_cmp_itself row.name)

row_of-put_row_by : (o : Ordering) (new row : Row) (rows : List Row) → name_cmp new.name row.name ≡ o → row_of (put_row new rows) new.name ≡ Some new → row_of (match_ordering o (new ∷ row ∷ rows) (new ∷ rows) (row ∷ put_row new rows)) new.name ≡ Some new
row_of-put_row_by Less new row rows e h = row_of-itself new (row ∷ rows)
row_of-put_row_by Equal new row rows e h = row_of-itself new rows
row_of-put_row_by Greater new row rows e h = rw e h

pub row_of-put_row : (new : Row) (rows : List Row) → row_of (put_row new rows) new.name ≡ Some new
row_of-put_row new [] = row_of-itself new []
row_of-put_row new (row ∷ rows) = row_of-put_row_by (name_cmp new.name row.name) new row rows refl (row_of-put_row new rows)

row_of-put_row_other_by : (o : Ordering) (new row : Row) (rows : List Row) (name : List ℕ) → name_cmp new.name row.name ≡ o → name ≢ new.name → row_of (put_row new rows) name ≡ row_of rows name → row_of (match_ordering o (new ∷ row ∷ rows) (new ∷ rows) (row ∷ put_row new rows)) name ≡ row_of (row ∷ rows) name
row_of-put_row_other_by Less new row rows name e n h = row_of-other name new (row ∷ rows) n
row_of-put_row_other_by Equal new row rows name e n h =
    let same : new.name ≡ row.name = exact_bytes new.name row.name e in
    row_of-other name new rows n ∙ sym (row_of-other name row rows (λ m. n (m ∙ sym same)))
row_of-put_row_other_by Greater new row rows name e n h = ap (λ rest. match_ordering (name_cmp name row.name) rest (Some row) rest) h

pub row_of-put_row_other : (new : Row) (rows : List Row) (name : List ℕ) → name ≢ new.name → row_of (put_row new rows) name ≡ row_of rows name
row_of-put_row_other new [] name n = row_of-other name new [] n
row_of-put_row_other new (row ∷ rows) name n = row_of-put_row_other_by (name_cmp new.name row.name) new row rows name refl n (row_of-put_row_other new rows name n)

pub put_changes_one_name : PutChangesOneName
put_changes_one_name new rows = (row_of-put_row new rows, row_of-put_row_other new rows)

AllAfter-put_row_by : (o : Ordering) (name : List ℕ) (new row : Row) (rows : List Row) → name_cmp name new.name ≡ Less → AllAfter name (row ∷ rows) → AllAfter name (put_row new rows) → AllAfter name (match_ordering o (new ∷ row ∷ rows) (new ∷ rows) (row ∷ put_row new rows))
AllAfter-put_row_by Less name new row rows p after h = (p, after)
AllAfter-put_row_by Equal name new row rows p after h = (p, after.1)
AllAfter-put_row_by Greater name new row rows p after h = (after.0, h)

AllAfter-put_row : (name : List ℕ) (new : Row) (rows : List Row) → name_cmp name new.name ≡ Less → AllAfter name rows → AllAfter name (put_row new rows)
AllAfter-put_row name new [] p after = (p, tt)
AllAfter-put_row name new (row ∷ rows) p after = AllAfter-put_row_by (name_cmp new.name row.name) name new row rows p after (AllAfter-put_row name new rows p after.1)

IsInOrder-put_row_by : (o : Ordering) (new row : Row) (rows : List Row) → name_cmp new.name row.name ≡ o → IsInOrder (row ∷ rows) → IsInOrder (put_row new rows) → IsInOrder (match_ordering o (new ∷ row ∷ rows) (new ∷ rows) (row ∷ put_row new rows))
IsInOrder-put_row_by Less new row rows e s h = ((e, AllAfter-trans new.name row.name rows e s.0), s)
IsInOrder-put_row_by Equal new row rows e s h = (subst (λ name. AllAfter name rows) (sym (exact_bytes new.name row.name e)) s.0, s.1)
IsInOrder-put_row_by Greater new row rows e s h = (AllAfter-put_row row.name new rows (name_cmp_less new.name row.name e) s.0, h)

pub IsInOrder-put_row : (new : Row) (rows : List Row) → IsInOrder rows → IsInOrder (put_row new rows)
IsInOrder-put_row new [] s = (tt, tt)
IsInOrder-put_row new (row ∷ rows) s = IsInOrder-put_row_by (name_cmp new.name row.name) new row rows refl s (IsInOrder-put_row new rows s.1)

pub put_keeps_order : PutKeepsOrder
put_keeps_order = IsInOrder-put_row

RowsFit-put_row_by : (o : Ordering) (new row : Row) (rows : List Row) → IfSome new.text IsInLimit → RowsFit (row ∷ rows) → RowsFit (put_row new rows) → RowsFit (match_ordering o (new ∷ row ∷ rows) (new ∷ rows) (row ∷ put_row new rows))
RowsFit-put_row_by Less new row rows p fit h = (p, fit)
RowsFit-put_row_by Equal new row rows p fit h = (p, fit.1)
RowsFit-put_row_by Greater new row rows p fit h = (fit.0, h)

pub RowsFit-put_row : (new : Row) (rows : List Row) → IfSome new.text IsInLimit → RowsFit rows → RowsFit (put_row new rows)
RowsFit-put_row new [] p fit = (p, tt)
RowsFit-put_row new (row ∷ rows) p fit = RowsFit-put_row_by (name_cmp new.name row.name) new row rows p fit (RowsFit-put_row new rows p fit.1)

text_of_in_limit_by : (o : Ordering) (row : Row) (rest : Option Row) → IfSome row.text IsInLimit → IfSome (Rattle.std.specs.Prelude.option_and_then (λ row. row.text) rest) IsInLimit → IfSome (Rattle.std.specs.Prelude.option_and_then (λ row. row.text) (match_ordering o rest (Some row) rest)) IsInLimit
text_of_in_limit_by Less row rest p h = h
text_of_in_limit_by Equal row rest p h = p
text_of_in_limit_by Greater row rest p h = h

pub text_of_in_limit : (rows : List Row) (name : List ℕ) → RowsFit rows → IfSome (text_of rows name) IsInLimit
text_of_in_limit [] name fit = tt
text_of_in_limit (row ∷ rows) name fit = text_of_in_limit_by (name_cmp name row.name) row (row_of rows name) fit.0 (text_of_in_limit rows name fit.1)

-- the text of a row that is found is in the limit
pub found_in_limit : (rows : List Row) (name text : List ℕ) → RowsFit rows → text_of rows name ≡ Some text → IsInLimit text
found_in_limit rows name text fit e = rw e at (text_of_in_limit rows name fit)
