-- Where two say the same of every scope that keeps a fact, and uses, notes and declarations keep it, the variables of loops leave the same over both,
-- and keep it.
use Rattle.std.proofs.Common.{◌≡◌, ℕ, List, [], ◌∷◌, Option, Some, None, refl, ap, ◌∙◌}
use Rattle.std.specs.List.{fold}
use Rattle.sve_types.specs.DataType as types
use Rattle.sve_env.specs.Told.{Told}
use Rattle.sve_tree.specs.declared.token_word.Word.{Word}
use Rattle.sve_tree.specs.declared.word.ScopedName.{ScopedName}
use Rattle.sve_tree.specs.declared.expression.Select.{Select}
use Rattle.sve_tree.specs.declared.data_type.DataType.{DataType}
use Rattle.sve_tree.specs.declared.data_type.Declarator.{Declarator}
use Rattle.sve_tree.specs.declared.data_type.Initializer.{Initializer}
use Rattle.sve_tree.specs.declared.statement.ForVariable.{ForVariable}
use Rattle.sve_use.specs.Use.{Use}
use Rattle.sve_use.specs.Uses.{uses}
use Rattle.sve_type_rule.specs.Outcomes.{Outcome, scalar}
use Rattle.sve_type_of.specs.TypeOf.{notes_in}
use Rattle.sve_scope.specs.declared.what.What.TheVariants as is_what
use Rattle.sve_contents.specs.declared.contents.Contents.{Contents}
use Rattle.sve_contents.specs.Reading.{noted_all}
use Rattle.sve_enumerated.specs.declared.passed.Passed.{Passed}
use Rattle.sve_data.specs.declared.kind.DataKind.TheVariants as is_kind
use Rattle.sve_data.specs.Declarators.{declarator_after}
use Rattle.sve_data.specs.Declarations.{name_begun, type_selected}
pub use Rattle.sve_data.proofs.Follow.{Keeps, SameIn, data_alike, data_keeps, named_alike, named_keeps, variables_alike, variables_keep}
use Rattle.sve_data.proofs.Follow.{declarator_alike, declarator_keeps, name_keeps, uses_alike, uses_keep}
use Rattle.sve_loop_data.specs.declared.loops.Looping.{Looping}
use Rattle.sve_loop_data.specs.Loops.{first_valued, index_after, int_type, loop_names, loop_token, loop_typed, named_loop_over, variable_after, variable_over, with_indices, with_loop, with_named_loop}

module _ (ws : List Word) (P : Contents → Type 0) (k : Keeps ws P) (known known' : Contents → Told) (used used' : Contents → Use → Contents) (s : SameIn P known known' used used') where
  first_alike : (ty : types.DataType) (p : Passed) (d : Declarator) (v : Initializer) → P p.contents → first_valued known used ws ty p d v ≡ first_valued known' used' ws ty p d v
  first_alike ty p d v h =
      ap (λ (q : Passed). fold used q.contents (uses v.value.value)) (declarator_alike ws P k known known' used used' s is_kind.Variable ty p d v.equals h)
      ∙ uses_alike ws P k known known' used used' s (uses v.value.value) (declarator_after known' ws is_kind.Variable ty p d v.equals).contents (declarator_keeps ws P k known known' used used' s is_kind.Variable ty p d v.equals h)

  first_keeps : (ty : types.DataType) (p : Passed) (d : Declarator) (v : Initializer) → P p.contents → P (first_valued known' used' ws ty p d v)
  first_keeps ty p d v h = uses_keep ws P k known known' used used' s (uses v.value.value) (declarator_after known' ws is_kind.Variable ty p d v.equals).contents (declarator_keeps ws P k known known' used used' s is_kind.Variable ty p d v.equals h)

  loop_names_keep : (ty : types.DataType) (p : Passed) (d : Option DataType) → P p.contents → P (loop_names ws ty p d).contents
  unfolding loop_names
  loop_names_keep ty p None h = h
  loop_names_keep ty p (Some d) h = k.names ty p d h

  loop_front : Contents → ForVariable → Told → Outcome → Passed
  loop_front c v m o = loop_names ws o.ty (record { contents = noted_all c (notes_in m o.faults); at = loop_token v.data_type v.declarator.name }) v.data_type

  loop_front_keeps : (c : Contents) (v : ForVariable) (m : Told) (o : Outcome) → P c → P (loop_front c v m o).contents
  unfolding loop_front
  loop_front_keeps c v m o h = loop_names_keep o.ty (record { contents = noted_all c (notes_in m o.faults); at = loop_token v.data_type v.declarator.name }) v.data_type (k.notes c (notes_in m o.faults) h)

  variable_alike : (l : Looping) (v : ForVariable) → P l.contents → variable_after known used ws l v ≡ variable_after known' used' ws l v
  unfolding variable_after loop_front
  variable_alike l v h =
      let m : Told = known' l.contents in
      let o : Outcome = loop_typed m l.ty v.data_type in
      let made : Contents → Looping = λ c. record { contents = c; ty = o.ty } in
      ap (λ (n : Told). variable_over known used ws l.contents v n (loop_typed n l.ty v.data_type)) (s.knows l.contents h)
      ∙ ap made (first_alike o.ty (loop_front l.contents v m o) v.declarator v.value (loop_front_keeps l.contents v m o h))

  variable_keeps : (l : Looping) (v : ForVariable) → P l.contents → P (variable_after known' used' ws l v).contents
  unfolding variable_after loop_front
  variable_keeps l v h =
      let m : Told = known' l.contents in
      let o : Outcome = loop_typed m l.ty v.data_type in
      first_keeps o.ty (loop_front l.contents v m o) v.declarator v.value (loop_front_keeps l.contents v m o h)

  looping_alike : (l : Looping) (vs : List ForVariable) → P l.contents → fold (variable_after known used ws) l vs ≡ fold (variable_after known' used' ws) l vs
  looping_alike l [] h = refl
  looping_alike l (v ∷ vs) h = ap (λ (n : Looping). fold (variable_after known used ws) n vs) (variable_alike l v h) ∙ looping_alike (variable_after known' used' ws l v) vs (variable_keeps l v h)

  looping_keeps : (l : Looping) (vs : List ForVariable) → P l.contents → P (fold (variable_after known' used' ws) l vs).contents
  looping_keeps l [] h = h
  looping_keeps l (v ∷ vs) h = looping_keeps (variable_after known' used' ws l v) vs (variable_keeps l v h)

  pub loop_alike : (c : Contents) (vs : List ForVariable) → P c → with_loop known used ws c vs ≡ with_loop known' used' ws c vs
  loop_alike c vs h = ap (λ (l : Looping). l.contents) (looping_alike (record { contents = c; ty = scalar }) vs h)

  pub loop_keeps : (c : Contents) (vs : List ForVariable) → P c → P (with_loop known' used' ws c vs)
  loop_keeps c vs h = looping_keeps (record { contents = c; ty = scalar }) vs h

  pub named_loop_alike : (c : Contents) (name : ScopedName) (ss : List Select) (d : Declarator) (v : Initializer) → P c → with_named_loop known used ws c name ss d v ≡ with_named_loop known' used' ws c name ss d v
  named_loop_alike c name ss d v h =
      let m : Told = known' c in
      let o : Outcome = type_selected m name ss in
      ap (λ (l : Told). named_loop_over known used ws c name d v l (type_selected l name ss)) (s.knows c h)
      ∙ first_alike o.ty (name_begun ws (noted_all c (notes_in m o.faults)) name) d v (name_keeps ws P k known known' used used' s (noted_all c (notes_in m o.faults)) name (k.notes c (notes_in m o.faults) h))

  pub named_loop_keeps : (c : Contents) (name : ScopedName) (ss : List Select) (d : Declarator) (v : Initializer) → P c → P (with_named_loop known' used' ws c name ss d v)
  named_loop_keeps c name ss d v h =
      let m : Told = known' c in
      let o : Outcome = type_selected m name ss in
      first_keeps o.ty (name_begun ws (noted_all c (notes_in m o.faults)) name) d v (name_keeps ws P k known known' used used' s (noted_all c (notes_in m o.faults)) name (k.notes c (notes_in m o.faults) h))

  pub indices_keep : (names : List ℕ) (c : Contents) → P c → P (with_indices ws c names)
  indices_keep [] c h = h
  indices_keep (token ∷ names) c h = indices_keep names (index_after ws c token) (k.declares c token (is_what.Variable int_type) token h)
