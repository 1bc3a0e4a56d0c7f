-- How many files are there, before and after a row is put.
use Rattle.std.proofs.Common.{◌≡◌, ℕ, ◌+◌, Bool, true, false, cond, List, [], ◌∷◌, ◌++◌, length, Option, Some, None, refl, ap, ◌∙◌, arith}
use Rattle.std.specs.Prelude.{is_some, option_and_then}
use Rattle.std.specs.declared.cmp.Ordering.{Ordering}
use Rattle.std.specs.declared.cmp.Ordering.TheVariants.{Less, Equal, Greater}
use Rattle.std.specs.Ordering.{match_ordering}
use Rattle.sve_text.specs.Rows.{Row, name_cmp, row_of, is_there, names_in, count, put_row, IsInOrder}
use Rattle.sve_text.proofs.Order.{row_of_before, AllAfter-trans}

-- 1 where it holds, else 0
abbrev pub one_if : Bool → ℕ
one_if holds = cond holds 1 0

count_by : (there : Bool) (name : List ℕ) (names : List (List ℕ)) → length (cond there (name ∷ names) names) ≡ one_if there + length names
count_by true name names = omega arith
count_by false name names = omega arith

pub count-row : (row : Row) (rows : List Row) → count (row ∷ rows) ≡ one_if (is_some row.text) + count rows
count-row row rows = count_by (is_some row.text) row.name (names_in rows)

names_in_by : (there : Bool) (name : List ℕ) (names more : List (List ℕ)) → cond there (name ∷ (names ++ more)) (names ++ more) ≡ cond there (name ∷ names) names ++ more
names_in_by true name names more = refl
names_in_by false name names more = refl

pub names_in-append : (rows more : List Row) → names_in (rows ++ more) ≡ names_in rows ++ names_in more
names_in-append [] more = refl
names_in-append (row ∷ rows) more =
    ap (λ names. cond (is_some row.text) (row.name ∷ names) names) (names_in-append rows more)
    ∙ names_in_by (is_some row.text) row.name (names_in rows) (names_in more)

abbrev text_in : Option Row → Option (List ℕ)
text_in row = option_and_then (λ (row : Row). row.text) row

count-put_row_by : (o : Ordering) (new row : Row) (rows : List Row) → name_cmp new.name row.name ≡ o → IsInOrder (row ∷ rows)
    → count (put_row new rows) + one_if (is_there rows new.name) ≡ count rows + one_if (is_some new.text)
    → count (match_ordering o (new ∷ row ∷ rows) (new ∷ rows) (row ∷ put_row new rows)) + one_if (is_some (text_in (match_ordering o (row_of rows new.name) (Some row) (row_of rows new.name)))) ≡ count (row ∷ rows) + one_if (is_some new.text)
count-put_row_by Less new row rows e s h =
    let absent : row_of rows new.name ≡ None = row_of_before new.name rows (AllAfter-trans new.name row.name rows e s.0) in
    rw absent (omega (arith, count-row new (row ∷ rows)))
count-put_row_by Equal new row rows e s h = omega (arith, count-row new rows, count-row row rows)
count-put_row_by Greater new row rows e s h = omega (arith, h, count-row row (put_row new rows), count-row row rows)

-- a row that is put adds its file, and takes away the one that was there
pub count-put_row : (new : Row) (rows : List Row) → IsInOrder rows → count (put_row new rows) + one_if (is_there rows new.name) ≡ count rows + one_if (is_some new.text)
count-put_row new [] s = omega (arith, count-row new [])
count-put_row new (row ∷ rows) s = count-put_row_by (name_cmp new.name row.name) new row rows refl s (count-put_row new rows s.1)
