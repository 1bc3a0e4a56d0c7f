-- Rows in order, around one of them: where a name is found, and where a row is put.
use Rattle.std.proofs.Common.{◌≡◌, ℕ, ◌<◌, length, arith, length-append, List, [], ◌∷◌, ◌++◌, None, Some, refl, ap, ◌∙◌}
use Rattle.std.specs.declared.cmp.Ordering.{Ordering}
use Rattle.std.specs.declared.cmp.Ordering.TheVariants.{Less, Equal, Greater}
use Rattle.std.specs.Ordering.{ordering_reverse, match_ordering}
use Rattle.std.proofs.lemmas.Cmp.{nat_list_cmp_total}
use Rattle.sve_text.specs.Rows.{Row, name_cmp, row_of, put_row, AllAfter, IsInOrder}

pub name_cmp_greater : (a b : List ℕ) → name_cmp a b ≡ Less → name_cmp b a ≡ Greater
name_cmp_greater a b p = nat_list_cmp_total.antisymm b a ∙ ap ordering_reverse p

pub name_cmp_less : (a b : List ℕ) → name_cmp a b ≡ Greater → name_cmp b a ≡ Less
name_cmp_less a b p = nat_list_cmp_total.antisymm b a ∙ ap ordering_reverse p

pub AllAfter-trans : (a b : List ℕ) (rows : List Row) → name_cmp a b ≡ Less → AllAfter b rows → AllAfter a rows
AllAfter-trans a b [] p after = tt
AllAfter-trans a b (row ∷ rows) p after = (nat_list_cmp_total.trans a b row.name p after.0, AllAfter-trans a b rows p after.1)

AllAfter-front : (name : List ℕ) (l m : List Row) → AllAfter name (l ++ m) → AllAfter name l
AllAfter-front name [] m after = tt
AllAfter-front name (x ∷ l) m after = (after.0, AllAfter-front name l m after.1)

AllAfter-middle : (name : List ℕ) (l : List Row) (row : Row) (r : List Row) → AllAfter name (l ++ row ∷ r) → name_cmp name row.name ≡ Less
AllAfter-middle name [] row r after = after.0
AllAfter-middle name (x ∷ l) row r after = AllAfter-middle name l row r after.1

pub IsInOrder-front : (l m : List Row) → IsInOrder (l ++ m) → IsInOrder l
IsInOrder-front [] m s = tt
IsInOrder-front (x ∷ l) m s = (AllAfter-front x.name l m s.0, IsInOrder-front l m s.1)

pub IsInOrder-back : (l : List Row) (row : Row) (r : List Row) → IsInOrder (l ++ row ∷ r) → IsInOrder r
IsInOrder-back [] row r s = s.1
IsInOrder-back (x ∷ l) row r s = IsInOrder-back l row r s.1

-- a name at or after the middle comes after each row of the left side
after_left : (name : List ℕ) (x : Row) (l : List Row) (row : Row) (r : List Row) → name_cmp row.name name ≡ Less → IsInOrder (x ∷ (l ++ row ∷ r)) → name_cmp name x.name ≡ Greater
after_left name x l row r p s = name_cmp_greater x.name name (nat_list_cmp_total.trans x.name row.name name (AllAfter-middle x.name l row r s.0) p)

at_left : (name : List ℕ) (x : Row) (l : List Row) (row : Row) (r : List Row) → name_cmp name row.name ≡ Equal → IsInOrder (x ∷ (l ++ row ∷ r)) → name_cmp name x.name ≡ Greater
at_left name x l row r p s = nat_list_cmp_total.congr name row.name x.name p ∙ name_cmp_greater x.name row.name (AllAfter-middle x.name l row r s.0)

pub row_of_before : (name : List ℕ) (rows : List Row) → AllAfter name rows → row_of rows name ≡ None
row_of_before name [] after = refl
row_of_before name (row ∷ rows) after = rw after.0 (row_of_before name rows after.1)

pub row_of_left : (name : List ℕ) (l : List Row) (row : Row) (r : List Row) → name_cmp name row.name ≡ Less → IsInOrder (l ++ row ∷ r) → row_of (l ++ row ∷ r) name ≡ row_of l name
row_of_left name [] row r p s = rw p (row_of_before name r (AllAfter-trans name row.name r p s.0))
row_of_left name (x ∷ l) row r p s = ap (λ o. match_ordering (name_cmp name x.name) o (Some x) o) (row_of_left name l row r p s.1)

pub row_of_middle : (name : List ℕ) (l : List Row) (row : Row) (r : List Row) → name_cmp name row.name ≡ Equal → IsInOrder (l ++ row ∷ r) → row_of (l ++ row ∷ r) name ≡ Some row
row_of_middle name [] row r p s = rw p
row_of_middle name (x ∷ l) row r p s = rw (at_left name x l row r p s) (row_of_middle name l row r p s.1)

pub row_of_right : (name : List ℕ) (l : List Row) (row : Row) (r : List Row) → name_cmp name row.name ≡ Greater → IsInOrder (l ++ row ∷ r) → row_of (l ++ row ∷ r) name ≡ row_of r name
row_of_right name [] row r p s = rw p
row_of_right name (x ∷ l) row r p s = rw (after_left name x l row r (name_cmp_less name row.name p) s) (row_of_right name l row r p s.1)

put_row_left_by : (o : Ordering) (new x : Row) (t u v w : List Row) → w ≡ u ++ v → match_ordering o (new ∷ x ∷ (t ++ v)) (new ∷ (t ++ v)) (x ∷ w) ≡ match_ordering o (new ∷ x ∷ t) (new ∷ t) (x ∷ u) ++ v
put_row_left_by Less new x t u v w e = refl
put_row_left_by Equal new x t u v w e = refl
put_row_left_by Greater new x t u v w e = ap (λ rows. x ∷ rows) e

pub put_row_left : (new : Row) (l : List Row) (row : Row) (r : List Row) → name_cmp new.name row.name ≡ Less → put_row new (l ++ row ∷ r) ≡ put_row new l ++ row ∷ r
put_row_left new [] row r p = rw p
put_row_left new (x ∷ l) row r p = put_row_left_by (name_cmp new.name x.name) new x l (put_row new l) (row ∷ r) _ (put_row_left new l row r p)

pub put_row_middle : (new : Row) (l : List Row) (row : Row) (r : List Row) → name_cmp new.name row.name ≡ Equal → IsInOrder (l ++ row ∷ r) → put_row new (l ++ row ∷ r) ≡ l ++ new ∷ r
put_row_middle new [] row r p s = rw p
put_row_middle new (x ∷ l) row r p s = rw (at_left new.name x l row r p s) (ap (λ rows. x ∷ rows) (put_row_middle new l row r p s.1))

pub put_row_right : (new : Row) (l : List Row) (row : Row) (r : List Row) → name_cmp new.name row.name ≡ Greater → IsInOrder (l ++ row ∷ r) → put_row new (l ++ row ∷ r) ≡ l ++ row ∷ put_row new r
put_row_right new [] row r p s = rw p
put_row_right new (x ∷ l) row r p s = rw (after_left new.name x l row r (name_cmp_less new.name row.name p) s) (ap (λ rows. x ∷ rows) (put_row_right new l row r p s.1))

pub left_shorter : (l : List Row) (row : Row) (r : List Row) → length l < length (l ++ row ∷ r)
left_shorter l row r = omega (arith, length-append l (row ∷ r))

pub right_shorter : (l : List Row) (row : Row) (r : List Row) → length r < length (l ++ row ∷ r)
right_shorter l row r = omega (arith, length-append l (row ∷ r))

-- what a search tree asks for, at the row of a fork
pub ruleset at_fork = (row_of_left, row_of_middle, row_of_right, put_row_left, put_row_middle, put_row_right, IsInOrder-front, IsInOrder-back, left_shorter, right_shorter)
