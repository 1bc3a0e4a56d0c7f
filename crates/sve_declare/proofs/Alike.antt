-- What packages that tell the same by each name of a text make of that text is the same.
use Rattle.std.proofs.Common.{is_some, nat_eq, ◌≡◌, ℕ, ◌+◌, Bool, true, false, cond, List, [], ◌∷◌, Option, Some, None, Result, Ok, Err, option_map, refl, ap, sym, ◌∙◌}
use Rattle.std.specs.Prelude.{filter}
use Rattle.std.specs.Cmp.Lexicographic.{pointwise}
use Rattle.std.specs.List.{AllByRecursion, find, fold}
use Rattle.std.proofs.lemmas.Map.Entries.{option_filter}
use Rattle.sve_diag.specs.declared.code.Code.TheVariants.{C01, N04, N05}
use Rattle.sve_fault.specs.declared.fault.Fault.{Fault}
use Rattle.sve_fault.specs.Faults.{after, fault_at}
use Rattle.sve_env.specs.Told.{Told}
use Rattle.sve_table.specs.Tables.{item_of, with_item as with_table_item}
use Rattle.sve_facts.specs.declared.facts.Facts.{Facts}
use Rattle.sve_types.specs.DataType as types
use Rattle.sve_tree.specs.declared.data_type.DeclaredType.{DeclaredType}
use Rattle.sve_tree.specs.declared.data_type.DeclaredType.TheVariants as is_declared
use Rattle.sve_tree.specs.declared.declaration.ImportItem.{ImportItem}
use Rattle.sve_tree.specs.declared.declaration.ImportItem.TheVariants as is_import
use Rattle.sve_tree.specs.declared.declaration.ParameterAssignment.{ParameterAssignment}
use Rattle.sve_tree.specs.declared.declaration.Parameters.{Parameters}
use Rattle.sve_tree.specs.declared.declaration.Typedef.{Typedef}
use Rattle.sve_tree.specs.declared.token_word.Word.{Word}
use Rattle.sve_tree.specs.declared.word.PackageScope.{PackageScope}
use Rattle.sve_tree.specs.declared.word.ScopedName.{ScopedName}
use Rattle.sve_scope.specs.declared.declared.Declared.{Declared}
use Rattle.sve_scope.specs.declared.import.Explicit.{Explicit}
use Rattle.sve_scope.specs.declared.scope.Scope.{Scope}
use Rattle.sve_scope.specs.declared.scope.Entered.{Entered}
use Rattle.sve_scope.specs.declared.scope.Entered.TheVariants.{New, Again, Clashing}
use Rattle.sve_scope.specs.declared.spot.Spot.{Spot}
use Rattle.sve_scope.specs.declared.what.What.{What}
use Rattle.sve_scope.specs.declared.what.What.TheVariants as is_what
use Rattle.sve_scope.specs.Imports.{WildcardImport}
use Rattle.sve_scope.specs.Lookup.{Meaning, local, imported, two, nothing, candidate, candidates, from_candidates, in_declared, in_imports, in_scope, in_scopes, looked_up, or_else, seen_declaration, seen_import}
use Rattle.sve_scope.specs.Scopes.{import_name, import_of, imported_as, importing, is_declared_before, wildcard_name}
use Rattle.sve_scope.specs.Spots.{spot, stands_before}
use Rattle.sve_known.specs.Packages.{Known, member, names_of, own_scope, package_name}
use Rattle.sve_known.specs.Naming.{name_at, named_fault, of_known, of_member, of_meaning, of_name, of_name_in, of_package, of_plain, of_scoped, text_at}
use Rattle.sve_known.specs.Constants.{first_token, type_of, value_of}
use Rattle.sve_contents.specs.declared.contents.Contents.{Contents}
use Rattle.sve_contents.specs.Reading.{noted_all, said, spot_in, with_scope}
use Rattle.sve_contents.specs.Imports.{importing_all_in, with_all, with_found, with_import_entry, with_item as import_item, with_items as import_items, with_name, with_package}
use Rattle.sve_here.specs.Told.{declares_before, names_type}
use Rattle.sve_assigned.specs.declared.form.Form.{Form}
use Rattle.sve_assigned.specs.declared.form.Form.TheVariants as is_form
use Rattle.sve_assigned.specs.Forms.{Formation, formed}
use Rattle.sve_type_rule.specs.Outcomes.{Outcome}
use Rattle.sve_type_of.specs.TypeOf.{notes_in, referred, unpacked_over}
use Rattle.sve_enumerated.specs.declared.passed.Passed.{Passed}
use Rattle.sve_enumerated.specs.Passing.{passed_to}
use Rattle.sve_enumerated.specs.Types.{named_in_ref}
use Rattle.sve_scoped.specs.Known.{told_in}
use Rattle.sve_scoped.specs.Said.{out_if}
use Rattle.sve_declare.specs.declared.parameters.Found.{Found}
use Rattle.sve_declare.specs.Alike.{TellAlike}
use Rattle.sve_declare.specs.Parameters.{behind_uses, found_in as parameter_found, kept, names_declared, note_in, parameter_after, parameters_behind, parameters_over, said_of, separator, with_parameters, with_value}
use Rattle.sve_declare.specs.Typedefs.{named_over, with_named_type, with_type, with_typedef}
use Rattle.sve_declare.proofs.Holding.{AllNamed, AreNamed, Holds, Named, OneNamed, of_declared, of_note, of_out_if, of_passed, of_ref, of_said, with_one}

-- ---- what a package tells

by_told : ℕ → List ℕ → ℕ → List ℕ → Option Facts → Result What Fault
by_told at p token n None = Err (named_fault at N04 p)
by_told at p token n (Some t) = of_member token n (member n t)

package_told : (at : ℕ) (p : List ℕ) (token : ℕ) (n : List ℕ) (x : Option Known) → of_package at p token n x ≡ by_told at p token n (option_map (λ k. k.facts) x)
unfolding by_told
package_told at p token n None = refl
package_told at p token n (Some k) = refl

all_by_told : Contents → ℕ → ℕ → List ℕ → Option Facts → Contents
all_by_told c at star p None = said c (named_fault at N04 p)
all_by_told c at star p (Some t) = importing_all_in c (record { from = p; names = names_of (own_scope t); at = spot_in c star })

all_told : (c : Contents) (at star : ℕ) (p : List ℕ) (x : Option Known) → with_package c at star p x ≡ all_by_told c at star p (option_map (λ k. k.facts) x)
unfolding all_by_told
all_told c at star p None = refl
all_told c at star p (Some k) = refl

-- ---- lists

-- of what is found
abbrev Found_is : {X : Type 0} → (X → Type 0) → Option X → Type 0
Found_is P None = Unit {0}
Found_is P (Some x) = P x

of_found : {X : Type 0} (P : X → Type 0) (test : X → Bool) (xs : List X) → AllByRecursion P xs → Found_is P (find test xs)
of_found P test [] h = tt
of_found P test (x ∷ xs) h = elim (test x) as (λ b. Found_is P (cond b (Some x) (find test xs))) [ true ↦ h.0 | false ↦ of_found P test xs h.1 ]

of_filtered : {X : Type 0} (P : X → Type 0) (test : X → Bool) (x : Option X) → Found_is P x → Found_is P (option_filter test x)
of_filtered P test None h = tt
of_filtered P test (Some x) h = elim (test x) as (λ b. Found_is P (cond b (Some x) None)) [ true ↦ h | false ↦ tt ]

of_kept : {X : Type 0} (P : X → Type 0) (test : X → Bool) (xs : List X) → AllByRecursion P xs → AllByRecursion P (filter test xs)
of_kept P test [] h = tt
of_kept P test (x ∷ xs) h = elim (test x) as (λ b. AllByRecursion P (cond b (x ∷ filter test xs) (filter test xs))) [ true ↦ (h.0, of_kept P test xs h.1) | false ↦ of_kept P test xs h.1 ]

-- ---- the package of a plain name stands in the text

module _ (ws : List Word) where
  abbrev Means_named : Meaning → Type 0
  Means_named (local d) = Unit {0}
  Means_named (imported p n through) = Named ws p
  Means_named (two p q) = Unit {0}
  Means_named nothing = Unit {0}

  of_candidates : (index : ℕ) (n : List ℕ) (found : List WildcardImport) → AllByRecursion (AllNamed ws) found → Means_named (from_candidates n index found)
  of_candidates index n [] h = tt
  of_candidates index n (w ∷ []) h = h.0
  of_candidates index n (w ∷ v ∷ found) h = tt

  of_imports : (place : Spot) (n : List ℕ) (index : ℕ) (s : Scope) → AreNamed ws s → (x : Option Explicit) → Found_is (OneNamed ws) x → Means_named (in_imports place n index s x)
  of_imports place n index s h None k = of_candidates index n (candidates place n s.wild) (of_kept (AllNamed ws) (λ w. is_some (candidate place n w)) s.wild h.1)
  of_imports place n index s h (Some i) k = k

  of_one : (place : Spot) (n : List ℕ) (s : Scope) → AreNamed ws s → Found_is (OneNamed ws) (seen_import place n s)
  of_one place n s h = of_filtered (OneNamed ws) (λ i. stands_before i.at place) (import_of n s.explicit) (of_found (OneNamed ws) (λ i. pointwise nat_eq n (import_name i)) s.explicit h.0)

  of_scope : (place : Spot) (n : List ℕ) (index : ℕ) (s : Scope) → AreNamed ws s → (x : Option Declared) → Means_named (in_declared place n index s x)
  of_scope place n index s h (Some d) = tt
  of_scope place n index s h None = of_imports place n index s h (seen_import place n s) (of_one place n s h)

  of_either : (place : Spot) (n : List ℕ) (m rest : Meaning) → Means_named m → Means_named rest → Means_named (or_else place n m rest)
  of_either place n (local d) rest h k = h
  of_either place n (imported p m through) rest h k = h
  of_either place n (two p q) rest h k = h
  of_either place n nothing rest h k = k

  of_scopes : (place : Spot) (n : List ℕ) (index : ℕ) (ss : List Scope) → AllByRecursion (AreNamed ws) ss → Means_named (in_scopes place n index ss)
  of_scopes place n index [] h = tt
  of_scopes place n index (s ∷ ss) h =
      of_either place n (in_scope place n index s) (in_scopes place n (index + 1) ss)
      (of_scope place n index s h.0 (seen_declaration place n s)) (of_scopes place n (index + 1) ss h.1)

  means_named : (s : Scope) (ss : List Scope) → AllByRecursion (AreNamed ws) (s ∷ ss) → (n : List ℕ) (token : ℕ) → Means_named (looked_up (s ∷ ss) n token)
  means_named s ss h n token = of_scopes (spot s.file s.chunk token) n 0 (s ∷ ss) h

module _ (ws : List Word) (ps qs : List Known) (alike : TellAlike ws ps qs) where
  -- ---- what a name stands for

  known_alike : (at : ℕ) (p : List ℕ) → Named ws p → (token : ℕ) (n : List ℕ) → of_known ps at p token n ≡ of_known qs at p token n
  known_alike at p h token n = package_told at p token n (item_of package_name p ps) ∙ ap (by_told at p token n) (alike h.0 p h.1) ∙ sym (package_told at p token n (item_of package_name p qs))

  meaning_alike : (token : ℕ) (n : List ℕ) (m : Meaning) → Means_named ws m → of_meaning ps token n m ≡ of_meaning qs token n m
  meaning_alike token n (local d) h = refl
  meaning_alike token n (imported p m through) h = known_alike token p h token m
  meaning_alike token n (two p q) h = refl
  meaning_alike token n nothing h = refl

  plain_alike : (s : Scope) (ss : List Scope) → AllByRecursion (AreNamed ws) (s ∷ ss) → (token : ℕ) (n : Option (List ℕ)) → of_plain ps (s ∷ ss) token n ≡ of_plain qs (s ∷ ss) token n
  plain_alike s ss h token None = refl
  plain_alike s ss h token (Some n) = meaning_alike token n (looked_up (s ∷ ss) n token) (means_named ws s ss h n token)

  scoped_alike : (at : ℕ) (p : Option (List ℕ)) → name_at ws at ≡ p → (token : ℕ) (n : Option (List ℕ)) → of_scoped ps at p token n ≡ of_scoped qs at p token n
  scoped_alike at None e token n = refl
  scoped_alike at (Some p) e token None = refl
  scoped_alike at (Some p) e token (Some n) = known_alike at p (at, e) token n

  name_in_alike : (s : Scope) (ss : List Scope) → AllByRecursion (AreNamed ws) (s ∷ ss) → (scope : Option PackageScope) (token : ℕ) → of_name_in ps ws (s ∷ ss) scope token ≡ of_name_in qs ws (s ∷ ss) scope token
  name_in_alike s ss h None token = plain_alike s ss h token (name_at ws token)
  name_in_alike s ss h (Some scope) token = scoped_alike scope.name (name_at ws scope.name) refl token (name_at ws token)

  pub name_alike : (s : Scope) (ss : List Scope) → AllByRecursion (AreNamed ws) (s ∷ ss) → (n : ScopedName) → of_name ps ws (s ∷ ss) n ≡ of_name qs ws (s ∷ ss) n
  name_alike s ss h n = name_in_alike s ss h n.scope n.name

  -- ---- what is known at a place

  pub known_in : (c : Contents) → Holds ws c → told_in ps ws c ≡ told_in qs ws c
  known_in c h = λ i. record {
    file = c.scope.file;
    chunk = c.scope.chunk;
    text = text_at ws;
    declared_before = λ token. declares_before (spot c.scope.file c.scope.chunk token) (name_at ws token) (c.scope ∷ c.around);
    constant = λ n. after (name_alike c.scope c.around h n i) (value_of (first_token n) n.name (name_at ws n.name));
    is_type = λ n. names_type (name_alike c.scope c.around h n i);
    ty = λ n. after (name_alike c.scope c.around h n i) (type_of (first_token n));
    call = λ n arguments. after (name_alike c.scope c.around h n i) (λ what. Err (fault_at (first_token n) C01));
    steps = λ n arguments. 0;
  }

  -- ---- imports

  name_import_alike : (c : Contents) (at : ℕ) (p : Option (List ℕ)) → name_at ws at ≡ p → (token : ℕ) (n : Option (List ℕ)) → with_name ps c at p token n ≡ with_name qs c at p token n
  name_import_alike c at None e token n = refl
  name_import_alike c at (Some p) e token None = refl
  name_import_alike c at (Some p) e token (Some n) = ap (with_found c token p n) (known_alike at p (at, e) token n)

  all_import_alike : (c : Contents) (at star : ℕ) (p : Option (List ℕ)) → name_at ws at ≡ p → with_all ps c at star p ≡ with_all qs c at star p
  all_import_alike c at star None e = refl
  all_import_alike c at star (Some p) e = all_told c at star p (item_of package_name p ps) ∙ ap (all_by_told c at star p) (alike at p e) ∙ sym (all_told c at star p (item_of package_name p qs))

  import_alike : (c : Contents) (x : ImportItem) → import_item ps ws c x ≡ import_item qs ws c x
  import_alike c (is_import.Name scope token) = name_import_alike c scope.name (name_at ws scope.name) refl token (name_at ws token)
  import_alike c (is_import.All scope star) = all_import_alike c scope.name star (name_at ws scope.name) refl

  pub imports_alike : (xs : List ImportItem) (c : Contents) → import_items ps ws c xs ≡ import_items qs ws c xs
  imports_alike xs c = ap (λ (f : Contents → ImportItem → Contents). fold f c xs) (λ i d x. import_alike d x i)

  entry_holds : (c : Contents) (token : ℕ) (n : List ℕ) (e : Entered) → Holds ws c → Holds ws (with_import_entry c token n e)
  entry_holds c token n New h = h
  entry_holds c token n Again h = h
  entry_holds c token n Clashing h = h

  importing_holds : (c : Contents) (x : Explicit) → Named ws x.from → Holds ws c → Holds ws (with_scope c (importing c.scope x))
  importing_holds c x p h =
      elim (is_declared_before c.scope x) as (λ b. Holds ws (with_scope c (cond b c.scope (record c.scope { explicit = with_table_item import_name c.scope.explicit x })))) [
        | true ↦ h
        | false ↦ ((with_one (OneNamed ws) import_name c.scope.explicit x h.0.0 p, h.0.1), h.1)
      ]

  found_holds : (c : Contents) (token : ℕ) (p n : List ℕ) (r : Result What Fault) → Named ws p → Holds ws c → Holds ws (with_found c token p n r)
  found_holds c token p n (Err fault) e h = of_said ws c fault h
  found_holds c token p n (Ok what) e h =
      let x : Explicit = record { name = n; from = p; at = spot_in c token } in
      entry_holds (with_scope c (importing c.scope x)) token n (imported_as c.scope x) (importing_holds c x e h)

  name_import_holds : (c : Contents) (at : ℕ) (p : Option (List ℕ)) → name_at ws at ≡ p → (token : ℕ) (n : Option (List ℕ)) → Holds ws c → Holds ws (with_name qs c at p token n)
  name_import_holds c at None e token n h = of_said ws c (fault_at at N04) h
  name_import_holds c at (Some p) e token None h = of_said ws c (fault_at token N05) h
  name_import_holds c at (Some p) e token (Some n) h = found_holds c token p n (of_known qs at p token n) (at, e) h

  package_holds : (c : Contents) (at star : ℕ) (p : List ℕ) (x : Option Known) → Named ws p → Holds ws c → Holds ws (with_package c at star p x)
  package_holds c at star p None e h = of_said ws c (named_fault at N04 p) h
  package_holds c at star p (Some k) e h = ((h.0.0, with_one (AllNamed ws) wildcard_name c.scope.wild (record { from = p; names = names_of (own_scope k.facts); at = spot_in c star }) h.0.1 e), h.1)

  all_import_holds : (c : Contents) (at star : ℕ) (p : Option (List ℕ)) → name_at ws at ≡ p → Holds ws c → Holds ws (with_all qs c at star p)
  all_import_holds c at star None e h = of_said ws c (fault_at at N04) h
  all_import_holds c at star (Some p) e h = package_holds c at star p (item_of package_name p qs) (at, e) h

  import_holds : (c : Contents) (x : ImportItem) → Holds ws c → Holds ws (import_item qs ws c x)
  import_holds c (is_import.Name scope token) h = name_import_holds c scope.name (name_at ws scope.name) refl token (name_at ws token) h
  import_holds c (is_import.All scope star) h = all_import_holds c scope.name star (name_at ws scope.name) refl h

  pub imports_hold : (xs : List ImportItem) (c : Contents) → Holds ws c → Holds ws (import_items qs ws c xs)
  imports_hold [] c h = h
  imports_hold (x ∷ xs) c h = imports_hold xs (import_item qs ws c x) (import_holds c x h)

  -- ---- parameters

  said_holds : (c : Contents) (f : Found) (token : ℕ) → Holds ws c → Holds ws (said_of ws c f token)
  said_holds c f token h = of_note ws (noted_all (out_if ws c token f.is_out) f.notes) (note_in f.value) (of_out_if ws c token f.is_out h)

  value_holds : (form : Form) (p : Passed) (f : Found) (token from : ℕ) → Holds ws p.contents → Holds ws (with_value ws form p f token from).contents
  unfolding with_value
  value_holds form p f token from h =
      let q : Passed = record { contents = said_of ws p.contents f token; at = p.at } in
      of_declared ws (behind_uses ws q token from).contents token (is_what.LocalParameter (kept form f.is_out f.value)) from
      (of_passed ws (passed_to ws q token) from (of_passed ws q token (said_holds p.contents f token h)))

  names_hold : (form : Form) (p : Passed) (t : DeclaredType) → Holds ws p.contents → Holds ws (names_declared ws form p t).contents
  unfolding names_declared
  names_hold form p (is_declared.Implicit sign dimensions) h = h
  names_hold is_form.Free p (is_declared.Explicit t) h = h
  names_hold (is_form.Sign signed) p (is_declared.Explicit t) h = h
  names_hold (is_form.Typed ty) p (is_declared.Explicit t) h = of_ref ws ty p t h

  parameter_alike : (form : Form) (is_array : Bool) (w : Parameters) (place : ℕ) (p : Passed) (a : ParameterAssignment) → Holds ws p.contents →
      parameter_after (told_in ps ws) ws form is_array w place p a ≡ parameter_after (told_in qs ws) ws form is_array w place p a
  unfolding parameter_after
  parameter_alike form is_array w place p a h = ap (λ (m : Told). with_value ws form p (parameter_found m form is_array a) a.declarator.name (separator w place)) (known_in p.contents h)

  parameter_holds : (form : Form) (is_array : Bool) (w : Parameters) (place : ℕ) (p : Passed) (a : ParameterAssignment) → Holds ws p.contents →
      Holds ws (parameter_after (told_in qs ws) ws form is_array w place p a).contents
  unfolding parameter_after
  parameter_holds form is_array w place p a h = value_holds form p (parameter_found (told_in qs ws p.contents) form is_array a) a.declarator.name (separator w place) h

  parameters_alike : (form : Form) (is_array : Bool) (w : Parameters) (place : ℕ) (p : Passed) (xs : List ParameterAssignment) → Holds ws p.contents →
      parameters_behind (told_in ps ws) ws form is_array w place p xs ≡ parameters_behind (told_in qs ws) ws form is_array w place p xs
  unfolding parameters_behind
  parameters_alike form is_array w place p [] h = refl
  parameters_alike form is_array w place p (a ∷ xs) h =
      ap (λ (q : Passed). parameters_behind (told_in ps ws) ws form is_array w (place + 1) q xs) (parameter_alike form is_array w place p a h)
      ∙ parameters_alike form is_array w (place + 1) (parameter_after (told_in qs ws) ws form is_array w place p a) xs (parameter_holds form is_array w place p a h)

  parameters_hold : (form : Form) (is_array : Bool) (w : Parameters) (place : ℕ) (p : Passed) (xs : List ParameterAssignment) → Holds ws p.contents →
      Holds ws (parameters_behind (told_in qs ws) ws form is_array w place p xs).contents
  unfolding parameters_behind
  parameters_hold form is_array w place p [] h = h
  parameters_hold form is_array w place p (a ∷ xs) h = parameters_hold form is_array w (place + 1) (parameter_after (told_in qs ws) ws form is_array w place p a) xs (parameter_holds form is_array w place p a h)

  -- in front of the parameters of a declaration
  abbrev in_front : Contents → Parameters → Told → Formation → Passed
  in_front c w m f = names_declared ws f.form (record { contents = noted_all c (notes_in m f.faults); at = w.keyword.token }) w.data_type

  in_front_holds : (c : Contents) (w : Parameters) (m : Told) (f : Formation) → Holds ws c → Holds ws (in_front c w m f).contents
  in_front_holds c w m f h = names_hold f.form (record { contents = noted_all c (notes_in m f.faults); at = w.keyword.token }) w.data_type h

  pub with_parameters_alike : (c : Contents) (w : Parameters) → Holds ws c → with_parameters (told_in ps ws) ws c w ≡ with_parameters (told_in qs ws) ws c w
  with_parameters_alike c w h =
      let m : Told = told_in qs ws c in
      let f : Formation = formed m w.data_type in
      ap (λ (k : Told). parameters_over (told_in ps ws) ws c w k (formed k w.data_type)) (known_in c h)
      ∙ ap (λ (q : Passed). q.contents) (parameters_alike f.form f.is_array w 0 (in_front c w m f) w.assignments.items.items (in_front_holds c w m f h))

  pub with_parameters_hold : (c : Contents) (w : Parameters) → Holds ws c → Holds ws (with_parameters (told_in qs ws) ws c w)
  with_parameters_hold c w h =
      let m : Told = told_in qs ws c in
      let f : Formation = formed m w.data_type in
      parameters_hold f.form f.is_array w 0 (in_front c w m f) w.assignments.items.items (in_front_holds c w m f h)

  -- ---- types

  named_type_alike : (p : Passed) (t : types.DataType) (w : Typedef) → Holds ws p.contents → with_named_type (told_in ps ws) ws p t w ≡ with_named_type (told_in qs ws) ws p t w
  named_type_alike p t w h = ap (λ (m : Told). named_over ws p w m (unpacked_over m t w.declarator.dimensions.items)) (known_in p.contents h)

  named_type_holds : (p : Passed) (w : Typedef) (m : Told) (o : Outcome) → Holds ws p.contents → Holds ws (named_over ws p w m o)
  named_type_holds p w m o h =
      of_declared ws (noted_all (passed_to ws (passed_to ws p w.declarator.name) w.semicolon).contents (notes_in m o.faults)) w.declarator.name (is_what.TypeName o.ty) w.semicolon
      (of_passed ws (passed_to ws p w.declarator.name) w.semicolon (of_passed ws p w.declarator.name h))

  -- behind the names that a type declares
  abbrev behind_names : Contents → Typedef → Told → Outcome → Passed
  behind_names c w m o = named_in_ref ws o.ty (record { contents = noted_all c (notes_in m o.faults); at = w.keyword }) w.data_type

  behind_names_holds : (c : Contents) (w : Typedef) (m : Told) (o : Outcome) → Holds ws c → Holds ws (behind_names c w m o).contents
  behind_names_holds c w m o h = of_ref ws o.ty (record { contents = noted_all c (notes_in m o.faults); at = w.keyword }) w.data_type h

  pub with_typedef_alike : (c : Contents) (w : Typedef) → Holds ws c → with_typedef (told_in ps ws) ws c w ≡ with_typedef (told_in qs ws) ws c w
  with_typedef_alike c w h =
      let m : Told = told_in qs ws c in
      let o : Outcome = referred m w.data_type [] in
      ap (λ (k : Told). with_type (told_in ps ws) ws c w k (referred k w.data_type [])) (known_in c h)
      ∙ named_type_alike (behind_names c w m o) o.ty w (behind_names_holds c w m o h)

  pub with_typedef_holds : (c : Contents) (w : Typedef) → Holds ws c → Holds ws (with_typedef (told_in qs ws) ws c w)
  with_typedef_holds c w h =
      let m : Told = told_in qs ws c in
      let o : Outcome = referred m w.data_type [] in
      let p : Passed = behind_names c w m o in
      let k : Told = told_in qs ws p.contents in
      named_type_holds p w k (unpacked_over k o.ty w.declarator.dimensions.items) (behind_names_holds c w m o h)
