-- Where the names of the files of a tree lie.
use Rattle.std.proofs.Common.{◌≡◌, ℕ, ◌+◌, ◌-◌, ◌<◌, ◌≤◌, Bool, true, false, cond, List, [], ◌∷◌, ◌++◌, length, Some, refl, ap, sym, ◌∙◌, arith, length-append}
use Rattle.std.specs.Prelude.{is_some, slice_get}
use Rattle.std.proofs.Math.ListN.{get_or-append}
use Rattle.std.proofs.Math.Seq.{get_or-append_right}
use Rattle.std.proofs.lemmas.Option.{slice_get_within, slice_get_read, get_or_from_slice_get}
use Rattle.sve_text.specs.Rows.{Row, names_in, count}
use Rattle.sve_text.proofs.Counts.{one_if, count-row, names_in-append}
use Rattle.sve_text.proofs.Order.{left_shorter, right_shorter}

get_left : (xs ys : List (List ℕ)) (i : ℕ) (x : List ℕ) → slice_get xs i ≡ Some x → slice_get (xs ++ ys) i ≡ Some x
get_left xs ys i x h =
    let below : i < length xs = slice_get_within xs i x h in
    let within : i < length (xs ++ ys) = omega (arith, length-append xs ys) in
    slice_get_read (xs ++ ys) (length (xs ++ ys)) i x refl within (sym (get_or-append xs ys x i below ∙ get_or_from_slice_get xs i x x h))

get_right : (xs ys : List (List ℕ)) (i : ℕ) (x : List ℕ) → length xs ≤ i → slice_get ys (i - length xs) ≡ Some x → slice_get (xs ++ ys) i ≡ Some x
get_right xs ys i x above h =
    let below : i - length xs < length ys = slice_get_within ys (i - length xs) x h in
    let within : i < length (xs ++ ys) = omega (arith, length-append xs ys) in
    slice_get_read (xs ++ ys) (length (xs ++ ys)) i x refl within (sym (get_or-append_right xs ys i x above ∙ get_or_from_slice_get ys (i - length xs) x x h))

pub count-fork : (l : List Row) (row : Row) (r : List Row) → count (l ++ row ∷ r) ≡ count l + (one_if (is_some row.text) + count r)
count-fork l row r = ap length (names_in-append l (row ∷ r)) ∙ length-append (names_in l) (names_in (row ∷ r)) ∙ ap (λ n. count l + n) (count-row row r)

pub name_left : (l : List Row) (row : Row) (r : List Row) (i : ℕ) (name : List ℕ) → slice_get (names_in l) i ≡ Some name → slice_get (names_in (l ++ row ∷ r)) i ≡ Some name
name_left l row r i name h = ap (λ names. slice_get names i) (names_in-append l (row ∷ r)) ∙ get_left (names_in l) (names_in (row ∷ r)) i name h

first_by : (there : Bool) (name : List ℕ) (names : List (List ℕ)) → there ≡ true → slice_get (cond there (name ∷ names) names) 0 ≡ Some name
first_by true name names h = refl
first_by false name names h = cc

here_by : (there : Bool) (l : List Row) (row : Row) (r : List Row) (i : ℕ) → is_some row.text ≡ there → count l ≤ i → i < count l + one_if there → slice_get (names_in (l ++ row ∷ r)) i ≡ Some row.name
here_by true l row r i is above below =
    let at : i - count l ≡ 0 = omega arith in
    ap (λ names. slice_get names i) (names_in-append l (row ∷ r))
    ∙ get_right (names_in l) (names_in (row ∷ r)) i row.name above (ap (slice_get (names_in (row ∷ r))) at ∙ first_by (is_some row.text) row.name (names_in r) is)
here_by false l row r i is above below = absurd (omega arith)

-- the name of the row itself
pub name_here : (l : List Row) (row : Row) (r : List Row) (i : ℕ) → count l ≤ i → i - count l < one_if (is_some row.text) → slice_get (names_in (l ++ row ∷ r)) i ≡ Some row.name
name_here l row r i above below = here_by (is_some row.text) l row r i refl above (omega arith)

right_by : (there : Bool) (l : List Row) (row : Row) (r : List Row) (i : ℕ) (name : List ℕ) → is_some row.text ≡ there → one_if there ≤ i - count l → slice_get (names_in r) (i - count l - one_if there) ≡ Some name → slice_get (names_in (row ∷ r)) (i - count l) ≡ Some name
right_by true l row r i name is above h =
    ap (λ there. slice_get (cond there (row.name ∷ names_in r) (names_in r)) (i - count l)) is
    ∙ get_right (row.name ∷ []) (names_in r) (i - count l) name above h
right_by false l row r i name is above h =
    let on : i - count l ≡ i - count l - 0 = omega arith in
    ap (λ there. slice_get (cond there (row.name ∷ names_in r) (names_in r)) (i - count l)) is ∙ ap (slice_get (names_in r)) on ∙ h

pub name_right : (l : List Row) (row : Row) (r : List Row) (i : ℕ) (name : List ℕ) → count l ≤ i → one_if (is_some row.text) ≤ i - count l → slice_get (names_in r) (i - count l - one_if (is_some row.text)) ≡ Some name → slice_get (names_in (l ++ row ∷ r)) i ≡ Some name
name_right l row r i name behind above h =
    ap (λ names. slice_get names i) (names_in-append l (row ∷ r))
    ∙ get_right (names_in l) (names_in (row ∷ r)) i name behind (right_by (is_some row.text) l row r i name refl above h)

pub in_right : (l : List Row) (row : Row) (r : List Row) (i : ℕ) → i < count (l ++ row ∷ r) → count l ≤ i → one_if (is_some row.text) ≤ i - count l → i - count l - one_if (is_some row.text) < count r
in_right l row r i within behind above = omega (arith, count-fork l row r)

-- what a fork asks for
pub ruleset at_names = (count-fork, name_left, name_here, name_right, in_right, left_shorter, right_shorter)
