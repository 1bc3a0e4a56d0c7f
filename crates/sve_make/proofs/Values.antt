-- Over what the value of each key is made, and that it needs only keys that it reads (own).
use Rattle.std.specs.Prelude.{ℕ, zero, suc, ◌+◌, ◌≡◌, ◌<◌, false, List, [], ◌∷◌, ◌++◌, length, map, Option, Some, None, unwrap_or, refl, Contains, IsSomeAnd, option_map}
use Rattle.std.proofs.Common.{sym, ap, ◌∙◌, subst, inl, inr, arith}
use Rattle.std.specs.List.{flat_map, slice_get}
use Rattle.sve_text.specs.Files.{FilesValue}
use Rattle.sve_text.specs.Rows.{text_of}
use Rattle.sve_prep.specs.Larger.{IsLarger}
use Rattle.sve_prep.specs.Expansion.{Outcome, Wants, expand, fresh}
use Rattle.sve_prep.specs.Asked.{IsAsked}
use Rattle.sve_prep.proofs.Asked.{needs_are_asked, needs_are_untold, done_over_all}
use Rattle.sve_prep.proofs.Larger.{done_alike}
use Rattle.sve_lex.specs.Tokens.{tokens}
use Rattle.sve_front.specs.Expansions.{told_by, state_in}
use Rattle.sve_told.specs.Seen.{seen_told}
use Rattle.sve_ordered.proofs.Rising.{In, within}
use Rattle.sve_store.specs.Made.{Needs, Done, value_in, values_of, IsOneOf}
use Rattle.sve_store.specs.Values.{Gives, is_given, is_made, is_needed, OnTheWay, at_first, one_more}
use Rattle.sve_store.proofs.Ways.{tells_on_the_way}
use Rattle.sve_key.specs.KeyOrder.{key_cmp, one_key}
use Rattle.sve_key.specs.declared.key.Key.{Key}
use Rattle.sve_key.specs.declared.key.Key.TheVariants.{Text, Names, Tokens, Chunks, Element, Index}
use Rattle.sve_key.specs.declared.value.Value.{Value}
use Rattle.sve_key.specs.declared.value.Value.TheVariants as values
use Rattle.sve_key.specs.Parts.{names_there}
use Rattle.sve_key.specs.Values.{file_in_value, chunks_in_value}
use Rattle.sve_make.specs.Make.{with_key, then_made, read_text, expansion_made, expanded, tokens_made, chunks_made, reading_at, index_told, index_made, units_in, make_of, given_of, input_of}
use Rattle.sve_make.proofs.Needs.{then_needs, tokens_need, chunks_need, reading_needs, index_needs, OfUnit, OfUnits, OfIndex}
use Rattle.sve_make.specs.AtFiles.{IsValueAt, TellsAt, state_at, tokens_at, chunks_at, names_asked, chunk_keys, unit_keys, reads_of}

-- ---- over what each value is made

module _ (files : FilesValue) where
  over : (k : Key) (f : ℕ) (told : List (Key × Value)) (v : Value) (reads : List Key) → values_of (given_of files) k ≡ None → OnTheWay key_cmp (values_of (given_of files)) make_of k f told → Gives key_cmp (values_of (given_of files)) make_of k f told v reads
      → (all : Key → Option Value) × TellsAt files all × (make_of k f all ≡ Done v)
  over k f told v reads none way (is_given some) = cc
  over k f told v reads none way (is_made n done) = (value_in key_cmp told, tells_on_the_way key_cmp (values_of (given_of files)) make_of (λ a b. (one_key a b).0) k f told way, done)
  over k f told v reads none way (is_needed {j = j} {w = w} n needs first rest) = over k f (told ++ ((j, w) ∷ [])) v _ none (one_more way needs (_, first)) rest

  pub made_over : (k : Key) (f : ℕ) (v : Value) → values_of (given_of files) k ≡ None → IsValueAt files k f v → (all : Key → Option Value) × TellsAt files all × (make_of k f all ≡ Done v)
  made_over k f v none is = over k f [] v is.0 none (at_first none) is.1

  pub given_value : (k : Key) (f : ℕ) (v w : Value) → values_of (given_of files) k ≡ Some w → IsValueAt files k f v → v ≡ w
  given_value k f v w some (reads, is_given is) = cc
  given_value k f v w some (reads, is_made none done) = cc
  given_value k f v w some (reads, is_needed none needs first rest) = cc

  pub text_value : (name : List ℕ) (f : ℕ) (v : Value) → IsValueAt files (Text name) f v → read_text name v ≡ text_of files.rows name
  text_value name f v is = ap (read_text name) (given_value (Text name) f v _ refl is)

  pub names_value : (f : ℕ) (v : Value) → IsValueAt files Names f v → v ≡ values.Names (names_there files.rows)
  names_value f v is = given_value Names f v _ refl is

  module _ (told : Key → Option Value) (tells : TellsAt files told) where
    larger_by : (name : List ℕ) (text : Option (List ℕ)) (o : Option Value) → told (Text name) ≡ o → option_map (read_text name) o ≡ Some text → told_by files.rows name ≡ Some text
    larger_by name text None is e = cc
    larger_by name text (Some v) is e =
        let one : read_text name v ≡ text = cc in
        ap Some (sym (text_value name 0 v (tells (Text name) v is)) ∙ one)

    pub larger : IsLarger (seen_told Text read_text told) (told_by files.rows)
    larger name text e = larger_by name text (told (Text name)) refl e

    done_by : (file : List ℕ) (o : Outcome) (v : Value) → expand (seen_told Text read_text told) fresh None file ≡ o → then_made (expansion_made o) tokens_made ≡ Done v → v ≡ tokens_made (state_at files.rows file)
    done_by file (Outcome.Done last) v is e =
        let one : tokens_made last ≡ v = cc in
        sym one ∙ ap (λ (s : Outcome). tokens_made (state_in s)) (sym (done_alike (seen_told Text read_text told) (told_by files.rows) fresh None file last larger is))
    done_by file (Wants name s) v is e = cc

  pub tokens_value : (file : List ℕ) (f : ℕ) (v : Value) → IsValueAt files (Tokens file) f v → v ≡ tokens_made (state_at files.rows file)
  tokens_value file f v is = let m = made_over (Tokens file) f v refl is in done_by m.0 m.1 file _ v refl m.2

  pub chunks_value : (file : List ℕ) (f : ℕ) (v : Value) → IsValueAt files (Chunks file) f v → v ≡ values.Chunks (chunks_at files.rows file)
  chunks_value file f v is = let m = made_over (Chunks file) f v refl is in by m.0 m.1 (m.0 (Tokens file)) refl m.2
    where
      by : (told : Key → Option Value) → TellsAt files told → (o : Option Value) → told (Tokens file) ≡ o → with_key (Tokens file) o (λ t. Done (chunks_made t)) ≡ Done v → v ≡ values.Chunks (chunks_at files.rows file)
      by told tells None is e = cc
      by told tells (Some t) is e =
          let one : chunks_made t ≡ v = cc in
          sym one ∙ ap chunks_made (tokens_value file 0 t (tells (Tokens file) t is))

  pub element_value : (file : List ℕ) (n f : ℕ) (v : Value) → IsValueAt files (Element file n) f v → v ≡ values.Element (reading_at (tokens_at files.rows file) (slice_get (chunks_at files.rows file) n))
  element_value file n f v is = let m = made_over (Element file n) f v refl is in by m.0 m.1 (m.0 (Tokens file)) (m.0 (Chunks file)) refl refl m.2
    where
      reading : Value → Value → Value
      reading t c = values.Element (reading_at (file_in_value t).tokens (slice_get (chunks_in_value c) n))

      by : (told : Key → Option Value) → TellsAt files told → (o p : Option Value) → told (Tokens file) ≡ o → told (Chunks file) ≡ p → with_key (Tokens file) o (λ t. with_key (Chunks file) p (λ c. Done (values.Element (reading_at (file_in_value t).tokens (slice_get (chunks_in_value c) n))))) ≡ Done v
          → v ≡ values.Element (reading_at (tokens_at files.rows file) (slice_get (chunks_at files.rows file) n))
      by told tells None p is too e = cc
      by told tells (Some t) None is too e = cc
      by told tells (Some t) (Some c) is too e =
          let one : values.Element (reading_at (file_in_value t).tokens (slice_get (chunks_in_value c) n)) ≡ v = cc in
          let first = tokens_value file 0 t (tells (Tokens file) t is) in
          let second = chunks_value file 0 c (tells (Chunks file) c too) in
          sym one ∙ (λ i. values.Element (reading_at (file_in_value (first i)).tokens (slice_get (chunks_in_value (second i)) n)))

-- ---- what a key needs is among the keys that it reads

one_left : (xs ys : List Key) (j : Key) → IsOneOf xs j → IsOneOf (xs ++ ys) j
one_left [] ys j i = absurd i
one_left (x ∷ xs) ys j (inl e) = inl e
one_left (x ∷ xs) ys j (inr i) = inr (one_left xs ys j i)

one_right : (xs ys : List Key) (j : Key) → IsOneOf ys j → IsOneOf (xs ++ ys) j
one_right [] ys j i = i
one_right (x ∷ xs) ys j i = inr (one_right xs ys j i)

one_text : (names : List (List ℕ)) (name : List ℕ) → In name names → IsOneOf (map Text names) (Text name)
one_text [] name i = absurd i
one_text (n ∷ names) name (inl e) = inl (ap Text e)
one_text (n ∷ names) name (inr i) = inr (one_text names name i)

one_chunk : (file : List ℕ) (n left i : ℕ) → i < left → IsOneOf (chunk_keys file n left) (Element file (n + i))
unfolding chunk_keys
one_chunk file n zero i low = absurd (omega (arith, low))
one_chunk file n (suc left) zero low = let same : n + 0 ≡ n = omega arith in inl (ap (Element file) same)
one_chunk file n (suc left) (suc i) low = let same : n + 1 + i ≡ n + suc i = omega arith in inr (subst (λ (m : ℕ). IsOneOf (chunk_keys file (n + 1) left) (Element file m)) same (one_chunk file (n + 1) left i (omega (arith, low))))

module _ (files : FilesValue) (told : Key → Option Value) (tells : TellsAt files told) where
  of_unit : (file : List ℕ) (j : Key) → OfUnit told file j → IsOneOf (unit_keys files.rows file) j
  of_unit file j (inl e) = inl e
  of_unit file j (inr (v, is, (i, low, e))) =
      let c = chunks_value files file 0 v (tells (Chunks file) v is) in
      let many : length (chunks_in_value v) ≡ length (chunks_at files.rows file) = ap (λ (x : Value). length (chunks_in_value x)) c in
      inr (subst (λ (k : Key). IsOneOf (chunk_keys file 0 (length (chunks_at files.rows file))) k) (sym e) (one_chunk file 0 (length (chunks_at files.rows file)) i (omega (arith, low, many))))

  of_units : (units : List (List ℕ)) (j : Key) → OfUnits told units j → IsOneOf (flat_map (unit_keys files.rows) units) j
  of_units [] j of = absurd of
  of_units (unit ∷ units) j (inl of) = one_left (unit_keys files.rows unit) (flat_map (unit_keys files.rows) units) j (of_unit unit j of)
  of_units (unit ∷ units) j (inr of) = one_right (unit_keys files.rows unit) (flat_map (unit_keys files.rows) units) j (of_units units j of)

  of_index : (j : Key) → OfIndex told j → IsOneOf (reads_of files Index 0) j
  of_index j (inl e) = inl e
  of_index j (inr (v, is, of)) =
      inr (subst (λ (units : List (List ℕ)). IsOneOf (flat_map (unit_keys files.rows) units) j) (ap units_in (names_value files 0 v (tells Names v is))) (of_units (units_in v) j of))

  text_asked : (asked : Option (List (List ℕ))) (name : List ℕ) → IsSomeAnd asked (λ names. Contains names name) → IsOneOf (map Text (unwrap_or asked [])) (Text name)
  text_asked None name i = absurd i
  text_asked (Some names) name i = one_text names name (within names name i)

  untold_text : (name : List ℕ) (o : Option Value) → told (Text name) ≡ o → option_map (read_text name) o ≡ None → o ≡ None
  untold_text name None is e = refl
  untold_text name (Some v) is e = cc

  of_tokens : (file : List ℕ) (j : Key) → expanded told file ≡ Needs j → (told j ≡ None) × IsOneOf (map Text (names_asked files.rows file)) j
  of_tokens file j e =
      let n = tokens_need told file j e in
      let all = done_over_all (told_by files.rows) fresh (Some []) file (λ name none. (let x : ⊥ = cc in x)) in
      let asked : IsAsked n.0 all.0.asked = needs_are_asked (seen_told Text read_text told) (told_by files.rows) fresh None [] file n.0 n.1 all.0 (larger files told tells) n.2 all.1 in
      let none : told (Text n.0) ≡ None = untold_text n.0 (told (Text n.0)) refl (needs_are_untold (seen_told Text read_text told) fresh None file n.0 n.1 n.2) in
      let last : all.0.asked ≡ (state_in (expand (told_by files.rows) fresh (Some []) file)).asked = ap (λ (o : Outcome). (state_in o).asked) (sym all.1) in (
        ap told n.3 ∙ none,
        subst (λ (k : Key). IsOneOf (map Text (names_asked files.rows file)) k) (sym n.3) (subst (λ (names : Option (List (List ℕ))). IsOneOf (map Text (unwrap_or names [])) (Text n.0)) last (text_asked all.0.asked n.0 asked)),
      )

pub reading : (files : FilesValue) (k : Key) (f : ℕ) (told : Key → Option Value) (j : Key) → input_of k ≡ false → TellsAt files told → make_of k f told ≡ Needs j → (told j ≡ None) × IsOneOf (reads_of files k f) j
reading files (Text name) f told j computed tells e = cc
reading files Names f told j computed tells e = cc
reading files (Tokens name) f told j computed tells e = of_tokens files told tells name j (then_needs (expanded told name) tokens_made j e)
reading files (Chunks name) f told j computed tells e = let h = chunks_need told name j e in (h.0, inl h.1)
reading files (Element name n) f told j computed tells e =
    let h = reading_needs told name n j e in
    (h.0, elim h.1 [ inl is ↦ inl is | inr is ↦ inr (inl is) ])
reading files Index f told j computed tells e = let h = index_needs told j (then_needs (index_told told) index_made j e) in (h.0, of_index files told tells j h.1)
