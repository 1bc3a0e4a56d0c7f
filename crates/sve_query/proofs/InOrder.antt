-- What is found element by element at files whose rows stand in order is what is found by words.
use Rattle.std.specs.Prelude.{ℕ, ◌≡◌, ◌++◌, Bool, cond, List, [], ◌∷◌, Option, Some, None, is_some, option_and_then, refl}
use Rattle.std.proofs.Common.{sym, ap, ◌∙◌, subst, append_assoc}
use Rattle.std.specs.List.{filter, flat_map}
use Rattle.std.specs.Cmp.{tied_itself}
use Rattle.std.specs.Cmp.Lexicographic.{nat_list_cmp_total}
use Rattle.std.specs.declared.cmp.Ordering.TheVariants.{Less}
use Rattle.sve_text.specs.Rows.{Row, is_there, names_in, name_cmp, AllAfter, IsInOrder}
use Rattle.sve_text.proofs.Order.{row_of_middle}
use Rattle.sve_index.specs.declared.source.FileElement.{FileElement}
use Rattle.sve_index.specs.declared.whole.Index.{Index}
use Rattle.sve_index.specs.Whole.{index_of}
use Rattle.sve_front.specs.Units.{is_unit_name, unit_names}
use Rattle.sve_front.specs.Elements.{AreElementsOf}
use Rattle.sve_front.specs.Fronts.{AreTops}
use Rattle.sve_ordered.specs.Ordered.{with_one, ordered}
use Rattle.sve_gist.specs.Index.{index_of_gists}
use Rattle.sve_gist.proofs.Same.{same_index}
use Rattle.sve_key.specs.Parts.{names_there}
use Rattle.sve_make.specs.AtFiles.{units_at}
use Rattle.sve_make.specs.IndexAt.{unit_gists}
use Rattle.sve_make.proofs.FrontAt.{units_gists}
use Rattle.sve_query.specs.AnswersAt.{index_at}

-- ---- the names that are there

there_by : (p : List ℕ → Bool) (name : List ℕ) (names : List (List ℕ)) (t : Option (List ℕ)) → p name ≡ is_some t → filter p names ≡ names → filter p (cond (is_some t) (name ∷ names) names) ≡ cond (is_some t) (name ∷ names) names
there_by p name names None is rest = rest
there_by p name names (Some text) is rest = ap (λ (b : Bool). cond b (name ∷ filter p names) (filter p names)) is ∙ ap (λ (l : List (List ℕ)). name ∷ l) rest

one_there : (l : List Row) (row : Row) (rows : List Row) → IsInOrder (l ++ row ∷ rows) → is_there (l ++ row ∷ rows) row.name ≡ is_some row.text
one_there l row rows s = ap (λ (o : Option Row). is_some (option_and_then (λ (r : Row). r.text) o)) (row_of_middle row.name l row rows (tied_itself nat_list_cmp_total row.name) s)

all_there : (l rows : List Row) → IsInOrder (l ++ rows) → filter (is_there (l ++ rows)) (names_in rows) ≡ names_in rows
all_there l [] s = refl
all_there l (row ∷ rows) s =
    let one : (l ++ row ∷ []) ++ rows ≡ l ++ row ∷ rows = append_assoc l (row ∷ []) rows in
    there_by (is_there (l ++ row ∷ rows)) row.name (names_in rows) row.text (one_there l row rows s)
    (subst (λ (all : List Row). filter (is_there all) (names_in rows) ≡ names_in rows) one (all_there (l ++ row ∷ []) rows (subst IsInOrder (sym one) s)))

abbrev IsBefore : List ℕ → List (List ℕ) → Type 0
IsBefore x [] = Unit {0}
IsBefore x (y ∷ ys) = (name_cmp x y ≡ Less) × IsBefore x ys

abbrev Rise : List (List ℕ) → Type 0
Rise [] = Unit {0}
Rise (x ∷ xs) = IsBefore x xs × Rise xs

before_by : (x n : List ℕ) (names : List (List ℕ)) (t : Option (List ℕ)) → name_cmp x n ≡ Less → IsBefore x names → IsBefore x (cond (is_some t) (n ∷ names) names)
before_by x n names None less rest = rest
before_by x n names (Some text) less rest = (less, rest)

names_after : (x : List ℕ) (rows : List Row) → AllAfter x rows → IsBefore x (names_in rows)
names_after x [] after = tt
names_after x (row ∷ rows) after = before_by x row.name (names_in rows) row.text after.0 (names_after x rows after.1)

rise_by : (n : List ℕ) (names : List (List ℕ)) (t : Option (List ℕ)) → IsBefore n names → Rise names → Rise (cond (is_some t) (n ∷ names) names)
rise_by n names None before rest = rest
rise_by n names (Some text) before rest = (before, rest)

names_rise : (rows : List Row) → IsInOrder rows → Rise (names_in rows)
names_rise [] s = tt
names_rise (row ∷ rows) s = rise_by row.name (names_in rows) row.text (names_after row.name rows s.0) (names_rise rows s.1)

in_front : (x : List ℕ) (ys : List (List ℕ)) → IsBefore x ys → with_one name_cmp x ys ≡ x ∷ ys
in_front x [] before = refl
in_front x (y ∷ ys) before = rw before.0 refl

rising_is : (xs : List (List ℕ)) → Rise xs → ordered name_cmp xs ≡ xs
rising_is [] r = refl
rising_is (x ∷ xs) r = ap (with_one name_cmp x) (rising_is xs r.1) ∙ in_front x xs r.0

names_are : (rows : List Row) → IsInOrder rows → names_there rows ≡ names_in rows
names_are rows s = ap (ordered name_cmp) (all_there [] rows s) ∙ rising_is (names_in rows) (names_rise rows s)

units_are : (rows : List Row) → IsInOrder rows → unit_names rows ≡ units_at rows
units_are rows s = ap (filter is_unit_name) (sym (names_are rows s))

-- ---- the index and the tops

index_is : (rows : List Row) → IsInOrder rows → (sources : List FileElement) → AreElementsOf rows (unit_names rows) sources → index_of sources ≡ index_at rows
index_is rows s sources are =
    same_index sources
    ∙ ap index_of_gists (units_gists rows (unit_names rows) sources are ∙ ap (flat_map (unit_gists rows)) (units_are rows s))

pub tops_are : (rows : List Row) → IsInOrder rows → (tops : List (List ℕ)) → AreTops rows tops → tops ≡ (index_at rows).tops
tops_are rows s tops are = are.tops_are ∙ ap (λ (index : Index). index.tops) (index_is rows s are.sources are.elements)
