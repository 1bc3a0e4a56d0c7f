-- Over the values at some files the same names are there, with the same texts.
use Rattle.std.specs.Prelude.{ℕ, ◌≡◌, ◌≢◌, Bool, true, false, cond, List, [], ◌∷◌, Option, Some, None, is_some, option_and_then, All, refl}
use Rattle.std.proofs.Common.{sym, ap, ◌∙◌, subst, inl, inr, arith}
use Rattle.std.specs.List.{Contains, filter, flat_map}
use Rattle.std.specs.Cmp.Lexicographic.{nat_list_cmp_total}
use Rattle.std.specs.Ordering.{match_ordering}
use Rattle.std.specs.declared.cmp.Ordering.{Ordering}
use Rattle.std.specs.declared.cmp.Ordering.TheVariants.{Less, Equal, Greater}
use Rattle.std.proofs.lemmas.Map.Lookups.{exact_bytes}
use Rattle.std.proofs.lemmas.List.Elements.{All-nil, All-cons, All-append, Contains-append_left, Contains-append_right}
use Rattle.sve_text.specs.Files.{FilesValue, opening_rows}
use Rattle.sve_text.specs.Rows.{Row, row_of, text_of, is_there, names_in, name_cmp}
use Rattle.sve_text.proofs.Opening.{opening_files_are_there}
use Rattle.sve_ordered.specs.Ordered.{ordered}
use Rattle.sve_ordered.proofs.Rising.{In, held, within, in_ordered, members_decide}
use Rattle.sve_store.specs.Made.{values_of}
use Rattle.sve_store.specs.Values.{IsTable}
use Rattle.sve_key.specs.KeyOrder.{key_cmp}
use Rattle.sve_key.specs.declared.key.Key.{Key}
use Rattle.sve_key.specs.declared.key.Key.TheVariants as keys
use Rattle.sve_key.specs.declared.value.Value.{Value}
use Rattle.sve_key.specs.Parts.{names_there}
use Rattle.sve_key.specs.Values.{text_in_value, names_in_value}
use Rattle.sve_make.specs.Make.{make_of, given_of}
use Rattle.sve_make.proofs.Values.{given_value, names_value}
use Rattle.sve_gathered.specs.Gathered.{file_of, rows_by}
use Rattle.sve_gathered.proofs.Names.{File, names_rise, names_differ, files_with}

-- ---- what passes a test

module _ (p : List ℕ → Bool) where
  kept_by : (z x : List ℕ) (xs : List (List ℕ)) → p z ≡ true → (In z xs → In z (filter p xs)) → In z (x ∷ xs) → (b : Bool) → p x ≡ b → In z (cond b (x ∷ filter p xs) (filter p xs))
  kept_by z x xs is rest (inl e) true f = inl e
  kept_by z x xs is rest (inr i) true f = inr (rest i)
  kept_by z x xs is rest (inl e) false f = let no : true ≡ false = sym is ∙ ap p e ∙ f in cc
  kept_by z x xs is rest (inr i) false f = rest i

  kept : (z : List ℕ) (xs : List (List ℕ)) → p z ≡ true → In z xs → In z (filter p xs)
  kept z [] is i = i
  kept z (x ∷ xs) is i = kept_by z x xs is (kept z xs is) i (p x) refl

  passes_by : (z x : List ℕ) (xs : List (List ℕ)) → (In z (filter p xs) → p z ≡ true) → (b : Bool) → p x ≡ b → In z (cond b (x ∷ filter p xs) (filter p xs)) → p z ≡ true
  passes_by z x xs rest true f (inl e) = ap p e ∙ f
  passes_by z x xs rest true f (inr i) = rest i
  passes_by z x xs rest false f i = rest i

  passes : (z : List ℕ) (xs : List (List ℕ)) → In z (filter p xs) → p z ≡ true
  passes z [] i = absurd i
  passes z (x ∷ xs) i = passes_by z x xs (passes z xs) (p x) refl i

-- ---- a name that has a text is one of the names that are there

abbrev text_in : Option Row → Option (List ℕ)
text_in row = option_and_then (λ r. r.text) row

behind : (t : Option (List ℕ)) (z n : List ℕ) (ns : List (List ℕ)) → In z ns → In z (cond (is_some t) (n ∷ ns) ns)
behind None z n ns i = i
behind (Some text) z n ns i = inr i

in_front : (t : Option (List ℕ)) (z n : List ℕ) (ns : List (List ℕ)) → z ≡ n → is_some t ≡ true → In z (cond (is_some t) (n ∷ ns) ns)
in_front None z n ns e is = cc
in_front (Some text) z n ns e is = inl e

among_by : (row : Row) (rows : List Row) (z : List ℕ) → (is_some (text_in (row_of rows z)) ≡ true → In z (names_in rows)) → (o : Ordering) → name_cmp z row.name ≡ o → is_some (text_in (match_ordering o (row_of rows z) (Some row) (row_of rows z))) ≡ true → In z (names_in (row ∷ rows))
among_by row rows z rest Less e is = behind row.text z row.name (names_in rows) (rest is)
among_by row rows z rest Equal e is = in_front row.text z row.name (names_in rows) (exact_bytes z row.name e) is
among_by row rows z rest Greater e is = behind row.text z row.name (names_in rows) (rest is)

among : (rows : List Row) (z : List ℕ) → is_there rows z ≡ true → In z (names_in rows)
among [] z is = cc
among (row ∷ rows) z is = among_by row rows z (among rows z) (name_cmp z row.name) refl is

there : (rows : List Row) (z : List ℕ) → is_there rows z ≡ true → In z (filter (is_there rows) (names_in rows))
there rows z is = kept (is_there rows) z (names_in rows) is (among rows z is)

-- where the same names are there, they are one list
moved : (a b : List Row) → ((name : List ℕ) → is_there a name ≡ is_there b name) → (z : List ℕ) → Contains (filter (is_there a) (names_in a)) z → Contains (filter (is_there b) (names_in b)) z
moved a b same z c =
    let is : is_there b z ≡ true = sym (same z) ∙ passes (is_there a) z (names_in a) (within (filter (is_there a) (names_in a)) z c) in
    held (filter (is_there b) (names_in b)) z (there b z is)

same_names : (a b : List Row) → ((name : List ℕ) → is_there a name ≡ is_there b name) → names_there a ≡ names_there b
same_names a b same =
    members_decide name_cmp nat_list_cmp_total exact_bytes (filter (is_there a) (names_in a)) (filter (is_there b) (names_in b))
    (λ z. (moved a b same z, moved b a (λ name. sym (same name)) z))

-- ---- the files of these names, each with its text

module _ (t : List ℕ → Option (List ℕ)) where
  abbrev with_text : List ℕ → List File
  with_text name = file_of name (t name)

  one_file : (name text : List ℕ) (o : Option (List ℕ)) → o ≡ Some text → Contains (file_of name o) (name, text)
  one_file name text o is = subst (λ (x : Option (List ℕ)). Contains (file_of name x) (name, text)) (sym is) (0, omega arith, refl)

  in_files : (names : List (List ℕ)) (name text : List ℕ) → In name names → t name ≡ Some text → Contains (flat_map with_text names) (name, text)
  in_files [] name text i is = absurd i
  in_files (n ∷ names) name text (inl e) is =
      Contains-append_left (with_text n) (flat_map with_text names) (name, text)
      (subst (λ (m : List ℕ). Contains (with_text m) (name, text)) e (one_file name text (t name) is))
  in_files (n ∷ names) name text (inr i) is = Contains-append_right (with_text n) (flat_map with_text names) (name, text) (in_files names name text i is)

  no_file : (name n : List ℕ) (o : Option (List ℕ)) → t name ≡ None → t n ≡ o → All (λ (file : File). file.0 ≢ name) (file_of n o)
  no_file name n None none is = All-nil (λ (file : File). file.0 ≢ name)
  no_file name n (Some text) none is = All-cons (λ (file : File). file.0 ≢ name) (n, text) [] (λ same. (let no : Some text ≡ None = sym is ∙ ap t same ∙ none in cc)) (All-nil (λ (file : File). file.0 ≢ name))

  not_in_files : (names : List (List ℕ)) (name : List ℕ) → t name ≡ None → All (λ (file : File). file.0 ≢ name) (flat_map with_text names)
  not_in_files [] name none = All-nil (λ (file : File). file.0 ≢ name)
  not_in_files (n ∷ names) name none = All-append (λ (file : File). file.0 ≢ name) (with_text n) (flat_map with_text names) (no_file name n (t n) none refl) (not_in_files names name none)

module _ (rows : List Row) where
  abbrev names : List (List ℕ)
  names = ordered name_cmp (names_there rows)

  abbrev again : List Row
  again = opening_rows [] (flat_map (with_text (text_of rows)) names)

  texts_by : (name : List ℕ) (o : Option (List ℕ)) → text_of rows name ≡ o → text_of again name ≡ o
  texts_by name None is =
      ap text_in ((opening_files_are_there (flat_map (with_text (text_of rows)) names) (names_differ names (flat_map (with_text (text_of rows)) names) (files_with (text_of rows) names) (names_rise (names_there rows)))).1 name (not_in_files (text_of rows) names name is))
  texts_by name (Some text) is =
      let one : In name names = in_ordered name_cmp nat_list_cmp_total exact_bytes (names_there rows) name (in_ordered name_cmp nat_list_cmp_total exact_bytes (filter (is_there rows) (names_in rows)) name (there rows name (ap is_some is))) in
      ap text_in ((opening_files_are_there (flat_map (with_text (text_of rows)) names) (names_differ names (flat_map (with_text (text_of rows)) names) (files_with (text_of rows) names) (names_rise (names_there rows)))).0 (name, text) (in_files (text_of rows) names name text one is))

  texts_again : (name : List ℕ) → text_of again name ≡ text_of rows name
  texts_again name = texts_by name (text_of rows name) refl

-- ---- at the values of some files

module _ (files : FilesValue) (table : Key → ℕ → Value) (is : IsTable key_cmp (values_of (given_of files)) make_of table) where
  text_value : (name : List ℕ) → (text_in_value (table (keys.Text name) 0)).text ≡ text_of files.rows name
  text_value name = ap (λ (v : Value). (text_in_value v).text) (given_value files (keys.Text name) 0 (table (keys.Text name) 0) _ refl (is (keys.Text name) 0))

  names_told : names_in_value (table keys.Names 0) ≡ names_there files.rows
  names_told = ap names_in_value (names_value files 0 (table keys.Names 0) (is keys.Names 0))

  rows_are : rows_by table ≡ again files.rows
  rows_are = λ i. opening_rows [] (flat_map (λ name. file_of name (text_value name i)) (ordered name_cmp (names_told i)))

  pub texts_are : (name : List ℕ) → text_of (rows_by table) name ≡ text_of files.rows name
  texts_are name = ap (λ (rows : List Row). text_of rows name) rows_are ∙ texts_again files.rows name

  pub names_are : names_there (rows_by table) ≡ names_there files.rows
  names_are = same_names (rows_by table) files.rows (λ name. ap is_some (texts_are name))
