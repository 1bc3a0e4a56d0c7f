-- Where two say the same of every scope that keeps a fact, and uses, notes and declarations keep it, declarations of data leave the same over both,
-- and keep it.
use Rattle.std.proofs.Common.{◌≡◌, ℕ, ◌+◌, Bool, List, [], ◌∷◌, Option, Some, None, refl, ap, ◌∙◌}
use Rattle.std.specs.List.{fold}
use Rattle.sve_diag.specs.declared.diag.Note.{Note}
use Rattle.sve_types.specs.DataType as types
use Rattle.sve_env.specs.Told.{Told}
use Rattle.sve_tree.specs.declared.row.Row.{Row}
use Rattle.sve_tree.specs.declared.token_word.Word.{Word}
use Rattle.sve_tree.specs.declared.word.PackageScope.{PackageScope}
use Rattle.sve_tree.specs.declared.word.ScopedName.{ScopedName}
use Rattle.sve_tree.specs.declared.data_type.DataType.{DataType}
use Rattle.sve_tree.specs.declared.data_type.Declarator.{Declarator}
use Rattle.sve_tree.specs.declared.data_type.DeclaredType.{DeclaredType}
use Rattle.sve_tree.specs.declared.data_type.DeclaredType.TheVariants as is_declared
use Rattle.sve_tree.specs.declared.data_type.Initializer.{Initializer}
use Rattle.sve_tree.specs.declared.data_type.TypeRef.{TypeRef}
use Rattle.sve_tree.specs.declared.data_type.TypeRef.TheVariants as is_type_ref
use Rattle.sve_tree.specs.declared.declaration.DataDeclaration.{DataDeclaration}
use Rattle.sve_tree.specs.declared.declaration.InitializedDeclarator.{InitializedDeclarator}
use Rattle.sve_tree.specs.declared.declaration.NetDeclaration.{NetDeclaration}
use Rattle.sve_tree.specs.declared.declaration.VariableDeclaration.{VariableDeclaration}
use Rattle.sve_tree.specs.declared.statement.NamedDeclaration.{NamedDeclaration}
use Rattle.sve_use.specs.Use.{Use}
use Rattle.sve_use.specs.Uses.{uses}
use Rattle.sve_type_rule.specs.Outcomes.{Outcome}
use Rattle.sve_type_of.specs.TypeOf.{declared, notes_in, referred, unpacked_over}
use Rattle.sve_scope.specs.declared.what.What.{What}
use Rattle.sve_contents.specs.declared.contents.Contents.{Contents}
use Rattle.sve_contents.specs.Reading.{noted_all}
use Rattle.sve_contents.specs.Uses.{with_plain}
use Rattle.sve_enumerated.specs.declared.passed.Passed.{Passed}
use Rattle.sve_enumerated.specs.Passing.{passed_to}
use Rattle.sve_enumerated.specs.Names.{separator}
use Rattle.sve_enumerated.specs.Types.{named_in, named_in_ref}
use Rattle.sve_scoped.specs.Assignments.{is_text}
use Rattle.sve_scoped.specs.Said.{declared_at, out_if}
use Rattle.sve_data.specs.declared.kind.DataKind.{DataKind}
use Rattle.sve_data.specs.declared.kind.DataKind.TheVariants as is_kind
use Rattle.sve_data.specs.Declarators.{declarator_after, declarator_over, declared_over, initialized_after, initialized_behind, value_at, valued, what_of}
use Rattle.sve_data.specs.Declarations.{all_names, begun, behind_keyword, data_over, declared_names, keyword_over, name_begun, named_over, type_selected, with_data, with_named_data, with_nets, with_variables}

-- a fact that what is said and declared in a scope keeps, and what its text uses and names
pub record Keeps (ws : List Word) (P : Contents → Type 0) : Type 0 where
  pub notes : (c : Contents) (ns : List Note) → P c → P (noted_all c ns)
  pub out : (c : Contents) (token : ℕ) (is_out : Bool) → P c → P (out_if ws c token is_out)
  pub declares : (c : Contents) (token : ℕ) (what : What) (from : ℕ) → P c → P (declared_at ws c token what from)
  pub plain : (c : Contents) (scope : Option PackageScope) (token : ℕ) → P c → P (with_plain ws c scope token)
  pub passes : (p : Passed) (token : ℕ) → P p.contents → P (passed_to ws p token).contents
  pub names : (t : types.DataType) (p : Passed) (d : DataType) → P p.contents → P (named_in ws t p d).contents
  pub refers : (t : types.DataType) (p : Passed) (r : TypeRef) → P p.contents → P (named_in_ref ws t p r).contents

-- what is known, and what uses leave, is the same in every scope that keeps it
pub record SameIn (P : Contents → Type 0) (known known' : Contents → Told) (used used' : Contents → Use → Contents) : Type 0 where
  pub knows : (c : Contents) → P c → known c ≡ known' c
  pub leaves : (c : Contents) (u : Use) → P c → used c u ≡ used' c u
  pub keeps : (c : Contents) (u : Use) → P c → P (used' c u)

module _ (ws : List Word) (P : Contents → Type 0) (k : Keeps ws P) (known known' : Contents → Told) (used used' : Contents → Use → Contents) (s : SameIn P known known' used used') where
  -- ---- names that are used

  pub uses_alike : (us : List Use) (c : Contents) → P c → fold used c us ≡ fold used' c us
  uses_alike [] c h = refl
  uses_alike (u ∷ us) c h = ap (λ (d : Contents). fold used d us) (s.leaves c u h) ∙ uses_alike us (used' c u) (s.keeps c u h)

  pub uses_keep : (us : List Use) (c : Contents) → P c → P (fold used' c us)
  uses_keep [] c h = h
  uses_keep (u ∷ us) c h = uses_keep us (used' c u) (s.keeps c u h)

  -- ---- names

  over_keeps : (kind : DataKind) (p : Passed) (token from : ℕ) (ty : types.DataType) (notes : List Note) → P p.contents → P (declared_over ws kind p token from ty notes).contents
  unfolding declared_over
  over_keeps kind p token from ty notes h =
      k.declares (noted_all (out_if ws p.contents token (is_text ty)) notes) token (what_of kind ty) from (k.notes (out_if ws p.contents token (is_text ty)) notes (k.out p.contents token (is_text ty) h))

  pub declarator_alike : (kind : DataKind) (ty : types.DataType) (p : Passed) (d : Declarator) (from : ℕ) → P p.contents → declarator_after known ws kind ty p d from ≡ declarator_after known' ws kind ty p d from
  unfolding declarator_after
  declarator_alike kind ty p d from h = ap (λ (m : Told). declarator_over ws kind p d from m (unpacked_over m ty d.dimensions.items)) (s.knows p.contents h)

  pub declarator_keeps : (kind : DataKind) (ty : types.DataType) (p : Passed) (d : Declarator) (from : ℕ) → P p.contents → P (declarator_after known' ws kind ty p d from).contents
  unfolding declarator_after
  declarator_keeps kind ty p d from h =
      let o : Outcome = unpacked_over (known' p.contents) ty d.dimensions.items in
      over_keeps kind (passed_to ws (passed_to ws p d.name) from) d.name from o.ty (notes_in (known' p.contents) o.faults) (k.passes (passed_to ws p d.name) from (k.passes p d.name h))

  valued_alike : (p : Passed) (v : Option Initializer) (last : ℕ) → P p.contents → valued used p v last ≡ valued used' p v last
  valued_alike p None last h = refl
  valued_alike p (Some v) last h = let made : Contents → Passed = λ c. record { contents = c; at = last } in ap made (uses_alike (uses v.value.value) p.contents h)

  valued_keeps : (p : Passed) (v : Option Initializer) (last : ℕ) → P p.contents → P (valued used' p v last).contents
  valued_keeps p None last h = h
  valued_keeps p (Some v) last h = uses_keep (uses v.value.value) p.contents h

  one_alike : (kind : DataKind) (ty : types.DataType) (p : Passed) (d : InitializedDeclarator) (last : ℕ) → P p.contents → initialized_after known used ws kind ty p d last ≡ initialized_after known' used' ws kind ty p d last
  unfolding initialized_after
  one_alike kind ty p d last h =
      ap (λ (q : Passed). valued used q d.value last) (declarator_alike kind ty p d.declarator (value_at d.value last) h)
      ∙ valued_alike (declarator_after known' ws kind ty p d.declarator (value_at d.value last)) d.value last (declarator_keeps kind ty p d.declarator (value_at d.value last) h)

  one_keeps : (kind : DataKind) (ty : types.DataType) (p : Passed) (d : InitializedDeclarator) (last : ℕ) → P p.contents → P (initialized_after known' used' ws kind ty p d last).contents
  unfolding initialized_after
  one_keeps kind ty p d last h = valued_keeps (declarator_after known' ws kind ty p d.declarator (value_at d.value last)) d.value last (declarator_keeps kind ty p d.declarator (value_at d.value last) h)

  all_alike : (kind : DataKind) (ty : types.DataType) (separators : List ℕ) (last place : ℕ) (p : Passed) (ds : List InitializedDeclarator) → P p.contents →
      initialized_behind known used ws kind ty separators last place p ds ≡ initialized_behind known' used' ws kind ty separators last place p ds
  unfolding initialized_behind
  all_alike kind ty separators last place p [] h = refl
  all_alike kind ty separators last place p (d ∷ ds) h =
      ap (λ (q : Passed). initialized_behind known used ws kind ty separators last (place + 1) q ds) (one_alike kind ty p d (separator separators last place) h)
      ∙ all_alike kind ty separators last (place + 1) (initialized_after known' used' ws kind ty p d (separator separators last place)) ds (one_keeps kind ty p d (separator separators last place) h)

  all_keep : (kind : DataKind) (ty : types.DataType) (separators : List ℕ) (last place : ℕ) (p : Passed) (ds : List InitializedDeclarator) → P p.contents →
      P (initialized_behind known' used' ws kind ty separators last place p ds).contents
  unfolding initialized_behind
  all_keep kind ty separators last place p [] h = h
  all_keep kind ty separators last place p (d ∷ ds) h = all_keep kind ty separators last (place + 1) (initialized_after known' used' ws kind ty p d (separator separators last place)) ds (one_keeps kind ty p d (separator separators last place) h)

  names_alike : (kind : DataKind) (ty : types.DataType) (row : Row InitializedDeclarator ℕ) (semicolon : ℕ) (p : Passed) → P p.contents → all_names known used ws kind ty row semicolon p ≡ all_names known' used' ws kind ty row semicolon p
  names_alike kind ty row semicolon p h = ap (λ (q : Passed). q.contents) (all_alike kind ty row.separators.items semicolon 0 p row.items.items h)

  names_keep : (kind : DataKind) (ty : types.DataType) (row : Row InitializedDeclarator ℕ) (semicolon : ℕ) (p : Passed) → P p.contents → P (all_names known' used' ws kind ty row semicolon p)
  names_keep kind ty row semicolon p h = all_keep kind ty row.separators.items semicolon 0 p row.items.items h

  -- ---- types

  pub name_keeps : (c : Contents) (name : ScopedName) → P c → P (name_begun ws c name).contents
  name_keeps c name h = k.plain c name.scope name.name h

  begun_keeps : (c : Contents) (t : TypeRef) → P c → P (begun ws c t).contents
  begun_keeps c (is_type_ref.Written d) h = h
  begun_keeps c (is_type_ref.Named n) h = name_keeps c n.name h

  pub declared_keep : (ty : types.DataType) (p : Passed) (t : DeclaredType) → P p.contents → P (declared_names ws ty p t).contents
  unfolding declared_names
  declared_keep ty p (is_declared.Explicit t) h = k.refers ty p t h
  declared_keep ty p (is_declared.Implicit sign dimensions) h = h

  -- ---- declarations of data

  data_front : Contents → DataDeclaration → Told → Outcome → Passed
  data_front c w m o = named_in_ref ws o.ty (begun ws (noted_all c (notes_in m o.faults)) w.data_type) w.data_type

  data_front_keeps : (c : Contents) (w : DataDeclaration) (m : Told) (o : Outcome) → P c → P (data_front c w m o).contents
  unfolding data_front
  data_front_keeps c w m o h = k.refers o.ty (begun ws (noted_all c (notes_in m o.faults)) w.data_type) w.data_type (begun_keeps (noted_all c (notes_in m o.faults)) w.data_type (k.notes c (notes_in m o.faults) h))

  pub data_alike : (c : Contents) (w : DataDeclaration) → P c → with_data known used ws c w ≡ with_data known' used' ws c w
  unfolding data_front
  data_alike c w h =
      let m : Told = known' c in
      let o : Outcome = referred m w.data_type [] in
      ap (λ (l : Told). data_over known used ws c w l (referred l w.data_type [])) (s.knows c h)
      ∙ names_alike is_kind.Variable o.ty w.declarators w.semicolon (data_front c w m o) (data_front_keeps c w m o h)

  pub data_keeps : (c : Contents) (w : DataDeclaration) → P c → P (with_data known' used' ws c w)
  unfolding data_front
  data_keeps c w h =
      let m : Told = known' c in
      let o : Outcome = referred m w.data_type [] in
      names_keep is_kind.Variable o.ty w.declarators w.semicolon (data_front c w m o) (data_front_keeps c w m o h)

  -- behind a keyword

  front_keeps : (p : Passed) (t : DeclaredType) (m : Told) (o : Outcome) → P p.contents → P (declared_names ws o.ty (record { contents = noted_all p.contents (notes_in m o.faults); at = p.at }) t).contents
  front_keeps p t m o h = declared_keep o.ty (record { contents = noted_all p.contents (notes_in m o.faults); at = p.at }) t (k.notes p.contents (notes_in m o.faults) h)

  behind_alike : (kind : DataKind) (p : Passed) (t : DeclaredType) (row : Row InitializedDeclarator ℕ) (semicolon : ℕ) → P p.contents → behind_keyword known used ws kind p t row semicolon ≡ behind_keyword known' used' ws kind p t row semicolon
  behind_alike kind p t row semicolon h =
      let m : Told = known' p.contents in
      let o : Outcome = declared m t in
      ap (λ (l : Told). keyword_over known used ws kind p t row semicolon l (declared l t)) (s.knows p.contents h)
      ∙ names_alike kind o.ty row semicolon (declared_names ws o.ty (record { contents = noted_all p.contents (notes_in m o.faults); at = p.at }) t) (front_keeps p t m o h)

  behind_keeps : (kind : DataKind) (p : Passed) (t : DeclaredType) (row : Row InitializedDeclarator ℕ) (semicolon : ℕ) → P p.contents → P (behind_keyword known' used' ws kind p t row semicolon)
  behind_keeps kind p t row semicolon h =
      let m : Told = known' p.contents in
      let o : Outcome = declared m t in
      names_keep kind o.ty row semicolon (declared_names ws o.ty (record { contents = noted_all p.contents (notes_in m o.faults); at = p.at }) t) (front_keeps p t m o h)

  pub variables_alike : (c : Contents) (w : VariableDeclaration) → P c → with_variables known used ws c w ≡ with_variables known' used' ws c w
  variables_alike c w h = behind_alike is_kind.Variable (record { contents = c; at = w.keyword }) w.data_type w.declarators w.semicolon h

  pub variables_keep : (c : Contents) (w : VariableDeclaration) → P c → P (with_variables known' used' ws c w)
  variables_keep c w h = behind_keeps is_kind.Variable (record { contents = c; at = w.keyword }) w.data_type w.declarators w.semicolon h

  pub nets_alike : (c : Contents) (w : NetDeclaration) → P c → with_nets known used ws c w ≡ with_nets known' used' ws c w
  nets_alike c w h = behind_alike is_kind.Net (record { contents = c; at = w.net.token }) w.data_type w.declarators w.semicolon h

  pub nets_keep : (c : Contents) (w : NetDeclaration) → P c → P (with_nets known' used' ws c w)
  nets_keep c w h = behind_keeps is_kind.Net (record { contents = c; at = w.net.token }) w.data_type w.declarators w.semicolon h

  pub named_alike : (c : Contents) (w : NamedDeclaration) → P c → with_named_data known used ws c w ≡ with_named_data known' used' ws c w
  named_alike c w h =
      let m : Told = known' c in
      let o : Outcome = type_selected m w.name w.selects.items in
      ap (λ (l : Told). named_over known used ws c w l (type_selected l w.name w.selects.items)) (s.knows c h)
      ∙ names_alike is_kind.Variable o.ty w.declarators w.semicolon (name_begun ws (noted_all c (notes_in m o.faults)) w.name) (name_keeps (noted_all c (notes_in m o.faults)) w.name (k.notes c (notes_in m o.faults) h))

  pub named_keeps : (c : Contents) (w : NamedDeclaration) → P c → P (with_named_data known' used' ws c w)
  named_keeps c w h =
      let m : Told = known' c in
      let o : Outcome = type_selected m w.name w.selects.items in
      names_keep is_kind.Variable o.ty w.declarators w.semicolon (name_begun ws (noted_all c (notes_in m o.faults)) w.name) (name_keeps (noted_all c (notes_in m o.faults)) w.name (k.notes c (notes_in m o.faults) h))
