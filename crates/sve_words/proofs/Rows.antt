-- Rows of what was found, by their ids: what is found once an option is used again, and once it has its default.
use Rattle.std.proofs.Common.{◌≡◌, ◌||◌, Bool, true, false, cond, List, [], ◌∷◌, ◌++◌, Option, Some, None, is_some, refl, ap, sym, ◌∙◌, subst, true≢false}
use Rattle.std.specs.Prelude.{find}
use Rattle.std.specs.Str.{bytes_eq}
use Rattle.clap.specs.Walk.{Row, Text, at_row, has_row, without}
use Rattle.sve_words.proofs.Numbers.{same_text, text_same}

-- the first row of this id
abbrev pub row_at : Text → List Row → Option Row
row_at id rows = find (λ (r : Row). bytes_eq r.id id) rows

-- no two rows have one id
abbrev pub AreApart : List Row → Type 0
AreApart [] = Unit {0}
AreApart (r ∷ rs) = (has_row r.id rs ≡ false) × AreApart rs

-- a row that takes the place of the row of its id, at the end
abbrev pub with_row : Row → List Row → List Row
with_row row rows = without row.id rows ++ row ∷ []

neither : (a b : Bool) → (a || b) ≡ false → (a ≡ false) × (b ≡ false)
neither true b is = absurd (true≢false is)
neither false b is = (refl, is)

other_way : (a b : Text) → bytes_eq a b ≡ false → bytes_eq b a ≡ false
other_way a b is = by_test (bytes_eq b a) refl
  where
    by_test : (t : Bool) → bytes_eq b a ≡ t → t ≡ false
    by_test false same = refl
    by_test true same = absurd (true≢false (sym (text_same a b (sym (same_text b a same))) ∙ is))

-- ---- where a row is sought

pub has_is : (id : Text) (rows : List Row) → has_row id rows ≡ is_some (row_at id rows)
has_is id [] = refl
has_is id (r ∷ rs) = by_test (bytes_eq r.id id) (has_is id rs)
  where
    by_test : (t : Bool) → has_row id rs ≡ is_some (row_at id rs) → (t || has_row id rs) ≡ is_some (cond t (Some r) (row_at id rs))
    by_test true later = refl
    by_test false later = later

-- where no row has the id, what is missing stands behind all rows
pub at_end : (id : Text) (change : Row → List Row) (missing rows : List Row) → has_row id rows ≡ false → at_row id change missing rows ≡ rows ++ missing
at_end id change missing [] lacks = refl
at_end id change missing (r ∷ rs) lacks = by_test (bytes_eq r.id id) (at_end id change missing rs) lacks
  where
    by_test : (t : Bool) → (has_row id rs ≡ false → at_row id change missing rs ≡ rs ++ missing) → (t || has_row id rs) ≡ false → cond t (change r ++ rs) (r ∷ at_row id change missing rs) ≡ r ∷ (rs ++ missing)
    by_test true later lacks = absurd (true≢false lacks)
    by_test false later lacks = ap (λ (l : List Row). r ∷ l) (later lacks)

-- ---- one row at the end

lacks_last : (x : Text) (row : Row) (rows : List Row) → bytes_eq row.id x ≡ false → has_row x rows ≡ false → has_row x (rows ++ row ∷ []) ≡ false
lacks_last x row [] other lacks = ap (λ (b : Bool). b || false) other
lacks_last x row (r ∷ rs) other lacks =
    let apart = neither (bytes_eq r.id x) (has_row x rs) lacks in
    ap (λ (b : Bool). b || has_row x (rs ++ row ∷ [])) apart.0 ∙ lacks_last x row rs other apart.1

apart_last : (row : Row) (rows : List Row) → AreApart rows → has_row row.id rows ≡ false → AreApart (rows ++ row ∷ [])
apart_last row [] apart lacks = (refl, tt)
apart_last row (r ∷ rs) (first, later) lacks =
    let each = neither (bytes_eq r.id row.id) (has_row row.id rs) lacks in
    (lacks_last r.id row rs (other_way r.id row.id each.0) first, apart_last row rs later each.1)

pub found_last : (x : Text) (row : Row) (rows : List Row) → bytes_eq row.id x ≡ true → has_row x rows ≡ false → row_at x (rows ++ row ∷ []) ≡ Some row
found_last x row [] same lacks = ap (λ (b : Bool). cond b (Some row) None) same
found_last x row (r ∷ rs) same lacks =
    let each = neither (bytes_eq r.id x) (has_row x rs) lacks in
    ap (λ (b : Bool). cond b (Some r) (row_at x (rs ++ row ∷ []))) each.0 ∙ found_last x row rs same each.1

pub found_before : (x : Text) (row : Row) (rows : List Row) → bytes_eq row.id x ≡ false → row_at x (rows ++ row ∷ []) ≡ row_at x rows
found_before x row [] other = ap (λ (b : Bool). cond b (Some row) None) other
found_before x row (r ∷ rs) other = ap (λ (o : Option Row). cond (bytes_eq r.id x) (Some r) o) (found_before x row rs other)

-- ---- without the row of an id

still_lacks : (id x : Text) (rows : List Row) → has_row x rows ≡ false → has_row x (without id rows) ≡ false
still_lacks id x [] lacks = refl
still_lacks id x (r ∷ rs) lacks =
    let each = neither (bytes_eq r.id x) (has_row x rs) lacks in
    by_test (bytes_eq r.id id) each.1 (ap (λ (b : Bool). b || has_row x (without id rs)) each.0 ∙ still_lacks id x rs each.1)
  where
    by_test : (t : Bool) → has_row x rs ≡ false → has_row x (r ∷ without id rs) ≡ false → has_row x (cond t ([] ++ rs) (r ∷ without id rs)) ≡ false
    by_test true later kept = later
    by_test false later kept = kept

apart_without : (id : Text) (rows : List Row) → AreApart rows → AreApart (without id rows)
apart_without id [] apart = tt
apart_without id (r ∷ rs) (first, later) = by_test (bytes_eq r.id id) (still_lacks id r.id rs first, apart_without id rs later)
  where
    by_test : (t : Bool) → AreApart (r ∷ without id rs) → AreApart (cond t ([] ++ rs) (r ∷ without id rs))
    by_test true kept = later
    by_test false kept = kept

lacks_it : (id : Text) (rows : List Row) → AreApart rows → has_row id (without id rows) ≡ false
lacks_it id [] apart = refl
lacks_it id (r ∷ rs) (first, later) = by_test (bytes_eq r.id id) refl (lacks_it id rs later)
  where
    by_test : (t : Bool) → bytes_eq r.id id ≡ t → has_row id (without id rs) ≡ false → has_row id (cond t ([] ++ rs) (r ∷ without id rs)) ≡ false
    by_test true same rest = subst (λ (i : Text). has_row i rs ≡ false) (same_text r.id id same) first
    by_test false other rest = ap (λ (b : Bool). b || has_row id (without id rs)) other ∙ rest

others_stay : (id x : Text) (rows : List Row) → bytes_eq id x ≡ false → row_at x (without id rows) ≡ row_at x rows
others_stay id x [] other = refl
others_stay id x (r ∷ rs) other = by_test (bytes_eq r.id id) refl (others_stay id x rs other)
  where
    by_test : (t : Bool) → bytes_eq r.id id ≡ t → row_at x (without id rs) ≡ row_at x rs → row_at x (cond t ([] ++ rs) (r ∷ without id rs)) ≡ row_at x (r ∷ rs)
    by_test true same rest = sym (ap (λ (b : Bool). cond b (Some r) (row_at x rs)) (subst (λ (i : Text). bytes_eq i x ≡ false) (sym (same_text r.id id same)) other))
    by_test false differs rest = ap (λ (o : Option Row). cond (bytes_eq r.id x) (Some r) o) rest

-- ---- a row that takes the place of another

pub placed_apart : (row : Row) (rows : List Row) → AreApart rows → AreApart (with_row row rows)
placed_apart row rows apart = apart_last row (without row.id rows) (apart_without row.id rows apart) (lacks_it row.id rows apart)

pub placed_there : (row : Row) (rows : List Row) → AreApart rows → row_at row.id (with_row row rows) ≡ Some row
placed_there row rows apart = found_last row.id row (without row.id rows) (text_same row.id row.id refl) (lacks_it row.id rows apart)

pub others_there : (row : Row) (x : Text) (rows : List Row) → bytes_eq row.id x ≡ false → row_at x (with_row row rows) ≡ row_at x rows
others_there row x rows other = found_before x row (without row.id rows) other ∙ others_stay row.id x rows other

-- where a row is added that no row has the id of, what is missing stands behind all others
pub placed_is : (row : Row) (change : Row → List Row) (rows : List Row) → AreApart rows → at_row row.id change (row ∷ []) (without row.id rows) ≡ with_row row rows
placed_is row change rows apart = at_end row.id change (row ∷ []) (without row.id rows) (lacks_it row.id rows apart)
