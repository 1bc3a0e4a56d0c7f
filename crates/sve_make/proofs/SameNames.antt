-- Where the same names are there, the names that are there are the same (own).
use Rattle.std.specs.Prelude.{ℕ, ◌≡◌, Bool, true, false, cond, List, [], ◌∷◌, Option, Some, None, is_some, refl, option_and_then}
use Rattle.std.proofs.Common.{sym, ap, ◌∙◌, inl, inr}
use Rattle.std.specs.List.{Contains, filter}
use Rattle.std.specs.Cmp.Lexicographic.{nat_list_cmp_total}
use Rattle.std.proofs.lemmas.Map.Lookups.{exact_bytes}
use Rattle.std.specs.Ordering.{match_ordering}
use Rattle.std.specs.declared.cmp.Ordering.{Ordering}
use Rattle.std.specs.declared.cmp.Ordering.TheVariants.{Less, Equal, Greater}
use Rattle.sve_text.specs.Rows.{Row, row_of, is_there, names_in, name_cmp}
use Rattle.sve_text.specs.Laws.{HaveSameNames}
use Rattle.sve_ordered.proofs.Rising.{In, held, within, members_decide}
use Rattle.sve_key.specs.Parts.{names_there}

-- what passes the test stays, and what stays passes it
module _ (p : List ℕ → Bool) where
  stays_by : (z x : List ℕ) (xs : List (List ℕ)) → p z ≡ true → (In z xs → In z (filter p xs)) → In z (x ∷ xs) → (b : Bool) → p x ≡ b → In z (cond b (x ∷ filter p xs) (filter p xs))
  stays_by z x xs is rest (inl e) true f = inl e
  stays_by z x xs is rest (inr i) true f = inr (rest i)
  stays_by z x xs is rest (inl e) false f = let t : true ≡ false = sym is ∙ ap p e ∙ f in cc
  stays_by z x xs is rest (inr i) false f = rest i

  stays : (z : List ℕ) (xs : List (List ℕ)) → p z ≡ true → In z xs → In z (filter p xs)
  stays z [] is i = i
  stays z (x ∷ xs) is i = stays_by z x xs is (stays z xs is) i (p x) refl

  passed_by : (z x : List ℕ) (xs : List (List ℕ)) → (In z (filter p xs) → p z ≡ true) → (b : Bool) → p x ≡ b → In z (cond b (x ∷ filter p xs) (filter p xs)) → p z ≡ true
  passed_by z x xs rest true f (inl e) = ap p e ∙ f
  passed_by z x xs rest true f (inr i) = rest i
  passed_by z x xs rest false f i = rest i

  passed : (z : List ℕ) (xs : List (List ℕ)) → In z (filter p xs) → p z ≡ true
  passed z [] i = absurd i
  passed z (x ∷ xs) i = passed_by z x xs (passed z xs) (p x) refl i

-- a name that is there is among the names of the rows
abbrev has_text : Option Row → Bool
has_text row = is_some (option_and_then (λ r. r.text) row)

among : (t : Option (List ℕ)) (z n : List ℕ) (ns : List (List ℕ)) → In z ns → In z (cond (is_some t) (n ∷ ns) ns)
among None z n ns i = i
among (Some text) z n ns i = inr i

first : (t : Option (List ℕ)) (z n : List ℕ) (ns : List (List ℕ)) → z ≡ n → is_some t ≡ true → In z (cond (is_some t) (n ∷ ns) ns)
first None z n ns e is = cc
first (Some text) z n ns e is = inl e

there_by : (row : Row) (rows : List Row) (z : List ℕ) → (has_text (row_of rows z) ≡ true → In z (names_in rows)) → (o : Ordering) → name_cmp z row.name ≡ o → has_text (match_ordering o (row_of rows z) (Some row) (row_of rows z)) ≡ true → In z (names_in (row ∷ rows))
there_by row rows z rest Less e is = among row.text z row.name (names_in rows) (rest is)
there_by row rows z rest Equal e is = first row.text z row.name (names_in rows) (exact_bytes z row.name e) is
there_by row rows z rest Greater e is = among row.text z row.name (names_in rows) (rest is)

there : (rows : List Row) (z : List ℕ) → has_text (row_of rows z) ≡ true → In z (names_in rows)
there [] z is = cc
there (row ∷ rows) z is = there_by row rows z (there rows z) (name_cmp z row.name) refl is

moved : (a b : List Row) → HaveSameNames a b → (z : List ℕ) → Contains (filter (is_there a) (names_in a)) z → Contains (filter (is_there b) (names_in b)) z
moved a b same z c =
    let is : is_there b z ≡ true = sym (same z) ∙ passed (is_there a) z (names_in a) (within (filter (is_there a) (names_in a)) z c) in
    held (filter (is_there b) (names_in b)) z (stays (is_there b) z (names_in b) is (there b z is))

pub same_names : (a b : List Row) → HaveSameNames a b → names_there a ≡ names_there b
same_names a b same = members_decide name_cmp nat_list_cmp_total exact_bytes (filter (is_there a) (names_in a)) (filter (is_there b) (names_in b)) (λ z. (moved a b same z, moved b a (λ n. sym (same n)) z))
