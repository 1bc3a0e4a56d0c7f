-- Scopes all of whose imports are of packages that their text names, and what keeps them so.
use Rattle.std.proofs.Common.{◌≡◌, ℕ, zero, suc, ◌+◌, ◌-◌, Bool, true, false, cond, List, [], ◌∷◌, ◌++◌, Option, Some, None, is_some}
use Rattle.std.specs.List.{AllByRecursion}
use Rattle.sve_diag.specs.declared.diag.Note.{Note}
use Rattle.sve_fault.specs.declared.fault.Fault.{Fault}
use Rattle.sve_fault.specs.Faults.{note_of}
use Rattle.sve_table.specs.Tables.{item_of, with_item}
use Rattle.sve_value.specs.Vector.{Vector}
use Rattle.sve_types.specs.DataType as types
use Rattle.sve_tree.specs.declared.data_type.DataType.{DataType}
use Rattle.sve_tree.specs.declared.data_type.DataType.TheVariants as is_data_type
use Rattle.sve_tree.specs.declared.data_type.EnumName.{EnumName}
use Rattle.sve_tree.specs.declared.data_type.Enumeration.{Enumeration}
use Rattle.sve_tree.specs.declared.data_type.TypeRef.{TypeRef}
use Rattle.sve_tree.specs.declared.data_type.TypeRef.TheVariants as is_type_ref
use Rattle.sve_tree.specs.declared.data_type.Structure.{Structure, Structure', Row_of-Members, end_of-Members, more_of-Members}
use Rattle.sve_tree.specs.declared.token_word.Word.{Word}
use Rattle.sve_scope.specs.declared.declared.Declared.{Declared}
use Rattle.sve_scope.specs.declared.import.Explicit.{Explicit}
use Rattle.sve_scope.specs.declared.scope.Scope.{Scope}
use Rattle.sve_scope.specs.declared.scope.Entered.{Entered}
use Rattle.sve_scope.specs.declared.scope.Entered.TheVariants.{New, Again, Clashing}
use Rattle.sve_scope.specs.declared.what.What.{What}
use Rattle.sve_scope.specs.declared.what.What.TheVariants as is_what
use Rattle.sve_scope.specs.Imports.{WildcardImport}
use Rattle.sve_scope.specs.Lookup.{looked_up}
use Rattle.sve_scope.specs.Scopes.{declared_as, declaring, taking_at}
use Rattle.sve_known.specs.Naming.{name_at}
use Rattle.sve_contents.specs.declared.contents.Contents.{Contents}
use Rattle.sve_contents.specs.Reading.{declaring_in, noted_if, said, spot_in, with_entry, with_scope}
use Rattle.sve_contents.specs.Uses.{place_taken, taking_if, taking_in, with_use}
use Rattle.sve_enumerated.specs.declared.passed.Passed.{Passed}
use Rattle.sve_enumerated.specs.Found.{enumeration_in, value_next, values_of}
use Rattle.sve_enumerated.specs.Names.{name_after, named_by, names_behind, names_over, separator, shared_alone, value_of, with_enumeration}
use Rattle.sve_enumerated.specs.Passing.{is_plain_name, passed_to, used_at, used_from}
use Rattle.sve_enumerated.specs.Types.{first_or, named_in, named_in_ref, named_in_row, named_in_structure, past_members}
use Rattle.sve_scoped.specs.Said.{declared_as as declared_by, declared_at, out_if, said_out}

-- ---- lists

more : {X : Type 0} (P : X → Type 0) (xs : List X) (x : X) → AllByRecursion P xs → P x → AllByRecursion P (xs ++ x ∷ [])
more P [] x h p = (p, tt)
more P (y ∷ ys) x h p = (h.0, more P ys x h.1 p)

pub with_one : {X : Type 0} (P : X → Type 0) (called : X → List ℕ) (xs : List X) (x : X) → AllByRecursion P xs → P x → AllByRecursion P (with_item called xs x)
with_one P called xs x h p = elim (is_some (item_of called (called x) xs)) as (λ b. AllByRecursion P (cond b xs (xs ++ x ∷ []))) [ true ↦ h | false ↦ more P xs x h p ]

module _ (ws : List Word) where
  abbrev pub Named : List ℕ → Type 0
  Named p = (token : ℕ) × (name_at ws token ≡ Some p)

  abbrev pub OneNamed : Explicit → Type 0
  OneNamed i = Named i.from

  abbrev pub AllNamed : WildcardImport → Type 0
  AllNamed w = Named w.from

  abbrev pub AreNamed : Scope → Type 0
  AreNamed s = AllByRecursion OneNamed s.explicit × AllByRecursion AllNamed s.wild

  abbrev pub Holds : Contents → Type 0
  Holds c = AllByRecursion AreNamed (c.scope ∷ c.around)

  -- ---- what is said, and what is declared

  pub of_note : (c : Contents) (x : Option Note) → Holds c → Holds (noted_if c x)
  of_note c None h = h
  of_note c (Some note) h = h

  pub of_said : (c : Contents) (fault : Fault) → Holds c → Holds (said c fault)
  of_said c fault h = of_note c (note_of c.scope.file c.scope.chunk fault) h

  of_entry : (c : Contents) (token : ℕ) (n : List ℕ) (e : Entered) → Holds c → Holds (with_entry c token n e)
  of_entry c token n New h = h
  of_entry c token n Again h = h
  of_entry c token n Clashing h = h

  of_declaring : (c : Contents) (d : Declared) → Holds c → Holds (declaring_in c d)
  of_declaring c d h = of_entry (with_scope c (declaring c.scope d)) d.at.token d.name (declared_as c.scope d.name) h

  of_name : (c : Contents) (token : ℕ) (n : Option (List ℕ)) (what : What) (from : ℕ) → Holds c → Holds (declared_by c token n what from)
  of_name c token None what from h = h
  of_name c token (Some n) what from h = of_declaring c (record { name = n; what = what; at = spot_in c token; from = from }) h

  pub of_declared : (c : Contents) (token : ℕ) (what : What) (from : ℕ) → Holds c → Holds (declared_at ws c token what from)
  unfolding declared_at
  of_declared c token what from h = of_name c token (name_at ws token) what from h

  of_out : (c : Contents) (token : ℕ) (n : Option (List ℕ)) → Holds c → Holds (said_out c token n)
  of_out c token None h = h
  of_out c token (Some n) h = h

  pub of_out_if : (c : Contents) (token : ℕ) (is_out : Bool) → Holds c → Holds (out_if ws c token is_out)
  unfolding out_if
  of_out_if c token true h = of_out c token (name_at ws token) h
  of_out_if c token false h = h

  -- ---- uses

  of_taken_at : (ss : List Scope) (place : ℕ) (n : List ℕ) → AllByRecursion AreNamed ss → AllByRecursion AreNamed (taking_at ss place n)
  of_taken_at [] place n h = h
  of_taken_at (s ∷ ss) zero n h = h
  of_taken_at (s ∷ ss) (suc place) n h = (h.0, of_taken_at ss place n h.1)

  of_taking : (c : Contents) (place : ℕ) (n : List ℕ) → Holds c → Holds (taking_in c place n)
  of_taking c zero n h = h
  of_taking c (suc place) n h = (h.0, of_taken_at c.around place n h.1)

  of_taking_if : (c : Contents) (n : List ℕ) (place : Option ℕ) → Holds c → Holds (taking_if c n place)
  of_taking_if c n None h = h
  of_taking_if c n (Some place) h = of_taking c place n h

  pub of_use : (c : Contents) (token : ℕ) (n : Option (List ℕ)) → Holds c → Holds (with_use c token n)
  of_use c token None h = h
  of_use c token (Some n) h = of_taking_if c n (place_taken (looked_up (c.scope ∷ c.around) n token)) h

  of_used : (c : Contents) (token : ℕ) → Holds c → Holds (used_at ws c token)
  unfolding used_at
  of_used c token h = elim (is_plain_name ws token) as (λ b. Holds (cond b (with_use c token (name_at ws token)) c)) [ true ↦ of_use c token (name_at ws token) h | false ↦ h ]

  of_uses : (n : ℕ) (c : Contents) (token : ℕ) → Holds c → Holds (used_from ws c token n)
  unfolding used_from
  of_uses zero c token h = h
  of_uses (suc n) c token h = of_uses n (used_at ws c token) (token + 1) (of_used c token h)

  pub of_passed : (p : Passed) (token : ℕ) → Holds p.contents → Holds (passed_to ws p token).contents
  of_passed p token h = of_uses (token - (p.at + 1)) p.contents (p.at + 1) h

  -- ---- names of enumerations

  of_enum_name : (ty : Option types.DataType) (values : List (List ℕ × Vector)) (p : Passed) (next token from : ℕ) (n : Option (List ℕ)) → Holds p.contents → Holds (named_by ty values p next token from n).passed.contents
  of_enum_name ty values p next token from None h = h
  of_enum_name ty values p next token from (Some n) h =
      of_declaring p.contents (record { name = n; what = is_what.EnumName (record { ty = ty; value = value_of (value_next values next n) }); at = spot_in p.contents token; from = from }) h

  of_name_after : (ty : Option types.DataType) (values : List (List ℕ × Vector)) (separators : List ℕ) (last place : ℕ) (p : Passed) (next : ℕ) (n : EnumName) → Holds p.contents → Holds (name_after ws ty values separators last place (record { passed = p; next = next }) n).passed.contents
  unfolding name_after
  of_name_after ty values separators last place p next n h =
      let from : ℕ = separator separators last place in
      of_enum_name ty values (passed_to ws (passed_to ws p n.name) from) next n.name from (name_at ws n.name) (of_passed (passed_to ws p n.name) from (of_passed p n.name h))

  of_names : (ty : Option types.DataType) (values : List (List ℕ × Vector)) (separators : List ℕ) (last place : ℕ) (p : Passed) (next : ℕ) (ns : List EnumName) → Holds p.contents → Holds (names_behind ws ty values separators last place (record { passed = p; next = next }) ns).passed.contents
  unfolding names_behind
  of_names ty values separators last place p next [] h = h
  of_names ty values separators last place p next (n ∷ ns) h =
      of_names ty values separators last (place + 1) (name_after ws ty values separators last place (record { passed = p; next = next }) n).passed (name_after ws ty values separators last place (record { passed = p; next = next }) n).next ns
      (of_name_after ty values separators last place p next n h)

  of_names_over : (p : Passed) (e : Enumeration) (found : Option types.DataType) → Holds p.contents → Holds (names_over ws p e found).contents
  unfolding names_over
  of_names_over p e found h = of_names (shared_alone found) (values_of found) e.names.separators.items e.closing 0 p 0 e.names.items.items h

  of_enumeration : (t : types.DataType) (p : Passed) (e : Enumeration) → Holds p.contents → Holds (with_enumeration ws t p e).contents
  of_enumeration t p e h = of_names_over p e (enumeration_in p.contents.scope.file p.contents.scope.chunk e.keyword t) h

  of_members : (p : Passed) (names : List ℕ) (semicolon : ℕ) → Holds p.contents → Holds (past_members ws p names semicolon).contents
  of_members p names semicolon h = of_passed p (first_or semicolon names) h

  mutual
    unfolding named_in

    of_type : (t : types.DataType) (p : Passed) (d : DataType) → Holds p.contents → Holds (named_in ws t p d).contents
    of_type t p (is_data_type.Atom a) h = h
    of_type t p (is_data_type.Vector v) h = h
    of_type t p (is_data_type.Text keyword) h = h
    of_type t p (is_data_type.Enum e) h = of_enumeration t p e.value h
    of_type t p (is_data_type.Struct' _ s) h = of_structure t p s h

    of_structure : (t : types.DataType) (p : Passed) (s : Structure) → Holds p.contents → Holds (named_in_structure ws t p s).contents
    of_structure t p (Structure' keyword packed sign opening _ members closing dimensions) h = of_row t p members h

    of_row : {n : _} (t : types.DataType) (p : Passed) (row : Row_of-Members n) → Holds p.contents → Holds (named_in_row ws t p row).contents
    of_row t p end_of-Members h = h
    of_row t p (more_of-Members data_type names semicolon rest) h =
        of_row t (past_members ws (named_in_ref ws t p data_type) names.items.items semicolon) rest (of_members (named_in_ref ws t p data_type) names.items.items semicolon (of_ref t p data_type h))

    pub of_ref : (t : types.DataType) (p : Passed) (r : TypeRef) → Holds p.contents → Holds (named_in_ref ws t p r).contents
    of_ref t p (is_type_ref.Written d) h = of_type t p d h
    of_ref t p (is_type_ref.Named n) h = h
