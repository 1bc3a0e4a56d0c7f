-- The files of a generated session: their names are those that files may have, no two are equal, and no text is too long.
use Rattle.std.proofs.Common.{◌≡◌, ◌≢◌, ℕ, ◌+◌, ◌*◌, ◌%◌, ◌^◌, ◌<◌, ◌≤◌, ◌++◌, true, List, [], ◌∷◌, length, get_or, map, All, AllPairs, codes, decimal, subst, refl, sym, ap, ◌∙◌, arith, length-append}
use Rattle.std.specs.List.{flat_map, list_all}
use Rattle.std.proofs.lemmas.Bool.{and_from, le-leb}
use Rattle.std.proofs.lemmas.Bool.Decides.{nat_tests}
use Rattle.std.proofs.lemmas.Fmt.{decimal_injective, decimal_by_steps, length-decimal-le}
use Rattle.std.proofs.lemmas.Grind.{flat_map-append}
use Rattle.std.proofs.lemmas.List.{append-nil, append_cancel_left, append_cancel_right}
use Rattle.std.proofs.lemmas.List.Concat.{length-flat_map}
use Rattle.std.proofs.lemmas.List.Elements.{All-append, All-from_recursion}
use Rattle.std.proofs.lemmas.List.Folds.{flat_map-map, list_all-append}
use Rattle.std.proofs.lemmas.List.FromFn.{length-range_with_len, get_or-range_with_len, length-map-range_with_len, map-range_with_len_more, get_or-map-range_with_len}
use Rattle.std.proofs.lemmas.List.Kept.{AllPairs-cons}
use Rattle.std.proofs.lemmas.List.Quantifiers.{all_pairs_push}
use Rattle.std.proofs.lemmas.List.Sums.{sum_by-le}
use Rattle.sve_bytes.specs.FileName.{may_stand_in_file_name, is_file_name_of}
use Rattle.sve_text.specs.Files.{HaveDistinctNames, TextsFit}
use Rattle.sve_text.specs.Rows.{IsInLimit}
use Rattle.sve_script.specs.Made.{package_name, package_text, leaf_name, leaf_text, top_name, instance_text, leaves, top_text, made_files}

abbrev File : Type 0
File = List ℕ × List ℕ

abbrev leaf_file : ℕ → File
leaf_file i = (leaf_name i, leaf_text i)

-- ---- a module more

pub leaves_more : (i : ℕ) → map leaf_file (leaves (i + 1)) ≡ map leaf_file (leaves i) ++ leaf_file i ∷ []
leaves_more i = map-range_with_len_more leaf_file 0 i i (omega arith)

pub instances_more : (i : ℕ) → flat_map instance_text (leaves (i + 1)) ≡ flat_map instance_text (leaves i) ++ instance_text i
instances_more i =
    let itself : ℕ → ℕ = λ (k : ℕ). k in
    sym (flat_map-map instance_text itself (leaves (i + 1)))
    ∙ ap (flat_map instance_text) (map-range_with_len_more itself 0 i i (omega arith))
    ∙ flat_map-append instance_text (map itself (leaves i)) (i ∷ [])
    ∙ ap (λ (text : List ℕ). text ++ (instance_text i ++ [])) (flat_map-map instance_text itself (leaves i))
    ∙ ap (λ (text : List ℕ). flat_map instance_text (leaves i) ++ text) (append-nil (instance_text i))

-- ---- names that files may have

digit_stands : (n : ℕ) → n < 10 → may_stand_in_file_name (48 + n) ≡ true
digit_stands n small = grind (arith, nat_tests)

digits_stand : (n : ℕ) → n < 2 ^ 64 → list_all may_stand_in_file_name (decimal n) ≡ true
digits_stand =
    decimal_by_steps (λ n ds. list_all may_stand_in_file_name ds ≡ true)
    (λ n small. and_from (may_stand_in_file_name (48 + n)) true (digit_stands n small) refl)
    (λ n ds large front. list_all-append may_stand_in_file_name ds ((48 + n % 10) ∷ []) ∙ and_from _ _ front (and_from (may_stand_in_file_name (48 + n % 10)) true (digit_stands (n % 10) (omega arith)) refl))

is_named : (bytes : List ℕ) → 1 ≤ length bytes → length bytes ≤ 255 → list_all may_stand_in_file_name bytes ≡ true → is_file_name_of bytes ≡ true
is_named bytes some few stand = and_from _ _ (and_from _ _ (le-leb 1 (length bytes) some) (le-leb (length bytes) 255 few)) stand

few_digits : (i : ℕ) → i < 2 ^ 32 → length (decimal i) ≤ 10
few_digits i small = length-decimal-le 10 i (omega arith) (omega arith) (omega arith)

pub leaf_is_named : (i : ℕ) → i < 2 ^ 32 → is_file_name_of (leaf_name i) ≡ true
leaf_is_named i small =
    let digits = few_digits i small in
    let len = length-append (decimal i) (codes ".sv") in
    is_named (leaf_name i) (omega arith) (omega arith)
    (list_all-append may_stand_in_file_name (decimal i) (codes ".sv") ∙ and_from _ _ (digits_stand i (omega arith)) refl)

-- ---- distinct names

abbrev HaveOtherNames : File → File → Type 0
HaveOtherNames a b = a.0 ≢ b.0

same_number : (a b : ℕ) → a < 2 ^ 32 → b < 2 ^ 32 → leaf_name a ≡ leaf_name b → a ≡ b
same_number a b small little same =
    let behind = append_cancel_left (codes "leaf") (decimal a ++ codes ".sv") (decimal b ++ codes ".sv") same in
    decimal_injective a b (omega arith) (omega arith) (append_cancel_right (decimal a) (decimal b) (codes ".sv") behind)

-- what holds of each module holds of all their files
each_leaf : (P : File → Type 0) (n : ℕ) → ((i : ℕ) → i < n → P (leaf_file i)) → All P (map leaf_file (leaves n))
each_leaf P n each k d within =
    let inside : k < n = omega (arith, length-map-range_with_len leaf_file 0 n) in
    subst P (sym (get_or-map-range_with_len leaf_file 0 n k k d inside (omega arith))) (each k inside)

leaves_differ : (n : ℕ) → n ≤ 2 ^ 32 → AllPairs HaveOtherNames (map leaf_file (leaves n))
leaves_differ n small i j d before within same =
    let inside : j < n = omega (arith, length-map-range_with_len leaf_file 0 n) in
    let first = get_or-map-range_with_len leaf_file 0 n i i d (omega arith) (omega arith) in
    let second = get_or-map-range_with_len leaf_file 0 n j j d inside (omega arith) in
    let number : i ≡ j = same_number i j (omega arith) (omega arith) (ap (λ (f : File). f.0) (sym first) ∙ same ∙ ap (λ (f : File). f.0) second) in
    omega arith

other_first : (a b : List ℕ) → get_or a 0 0 ≢ get_or b 0 0 → a ≢ b
other_first a b other same = other (ap (λ (bytes : List ℕ). get_or bytes 0 0) same)

pub made_names_differ : (n : ℕ) → n ≤ 2 ^ 32 → HaveDistinctNames (made_files n)
made_names_differ n small =
    let top : File = (top_name, top_text n) in
    let pkg : File = (package_name, package_text 8) in
    let above_top = all_pairs_push HaveOtherNames (map leaf_file (leaves n)) top (leaves_differ n small) (each_leaf (λ f. HaveOtherNames f top) n (λ i within. other_first (leaf_name i) top_name (omega arith))) in
    let others = All-append (HaveOtherNames pkg) (map leaf_file (leaves n)) (top ∷ [])
    (each_leaf (HaveOtherNames pkg) n (λ i within. other_first package_name (leaf_name i) (omega arith)))
    (All-from_recursion (HaveOtherNames pkg) (top ∷ []) (other_first package_name top_name (omega arith), tt)) in
    AllPairs-cons HaveOtherNames pkg (map leaf_file (leaves n) ++ top ∷ []) (λ k d within. others k d within) (λ i j d before within. above_top i j d before within)

-- ---- texts that fit

abbrev Fits : File → Type 0
Fits file = IsInLimit file.1

package_fits : (width : ℕ) → width < 2 ^ 32 → IsInLimit (package_text width)
package_fits width small =
    let digits = few_digits width small in
    simp length-append (omega arith)

leaf_fits : (i : ℕ) → i < 2 ^ 32 → IsInLimit (leaf_text i)
leaf_fits i small =
    let digits = few_digits i small in
    simp length-append (omega arith)

short_instance : (i : ℕ) → i < 2 ^ 32 → length (instance_text i) ≤ 64
short_instance i small =
    let digits = few_digits i small in
    simp length-append (omega arith)

short_instances : (n : ℕ) → n ≤ 2 ^ 32 → All (λ i. length (instance_text i) ≤ 64) (leaves n)
short_instances n small k d within =
    let inside : k < n = omega (arith, length-range_with_len 0 n) in
    let number : get_or (leaves n) k d ≡ k = get_or-range_with_len 0 n k d inside ∙ omega arith in
    subst (λ (i : ℕ). length (instance_text i) ≤ 64) (sym number) (short_instance k (omega arith))

top_fits : (n : ℕ) → n ≤ 2000 → IsInLimit (top_text n)
top_fits n few =
    let sums = sum_by-le (λ i. length (instance_text i)) 64 (leaves n) (short_instances n (omega arith)) in
    let all : length (flat_map instance_text (leaves n)) ≤ n * 64 = omega (arith, length-flat_map instance_text (leaves n), sums, length-range_with_len 0 n) in
    simp length-append (omega arith)

pub made_texts_fit : (n : ℕ) → n ≤ 2000 → TextsFit (made_files n)
made_texts_fit n few =
    let top : File = (top_name, top_text n) in
    let pkg : File = (package_name, package_text 8) in
    let first = All-from_recursion Fits (pkg ∷ []) (package_fits 8 (omega arith), tt) in
    let last = All-from_recursion Fits (top ∷ []) (top_fits n few, tt) in
    let modules = each_leaf Fits n (λ i within. leaf_fits i (omega arith)) in
    All-append Fits (pkg ∷ []) (map leaf_file (leaves n) ++ top ∷ []) first (All-append Fits (map leaf_file (leaves n)) (top ∷ []) modules last)
