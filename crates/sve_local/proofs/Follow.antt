-- Where two say the same of every scope that keeps a fact, and steps of statements keep it, statements leave the same over both, and keep it.
use Rattle.std.proofs.Common.{◌≡◌, List, [], ◌∷◌, refl, ap, ◌∙◌}
use Rattle.std.specs.List.{fold}
use Rattle.sve_env.specs.Told.{Told}
use Rattle.sve_tree.specs.declared.declaration.Parameters.{Parameters}
use Rattle.sve_tree.specs.declared.declaration.Typedef.{Typedef}
use Rattle.sve_tree.specs.declared.token_word.Word.{Word}
use Rattle.sve_use.specs.Use.{Use}
use Rattle.sve_statement_use.specs.Steps.{Closes, DeclaresData, DeclaresIndices, DeclaresLoop, DeclaresNamed, DeclaresNamedLoop, DeclaresParameters, DeclaresType, DeclaresVariables, Does, Local, Opens, Step, Uses}
use Rattle.sve_contents.specs.declared.contents.Contents.{Contents}
use Rattle.sve_contents.specs.Nested.{entered, left}
use Rattle.sve_declare.specs.Parameters.{with_parameters}
use Rattle.sve_declare.specs.Typedefs.{with_typedef}
use Rattle.sve_loop_data.proofs.Follow.{Keeps, SameIn, data_alike, data_keeps, indices_keep, loop_alike, loop_keeps, named_alike, named_keeps, named_loop_alike, named_loop_keeps, variables_alike, variables_keep}
use Rattle.sve_local.specs.Steps.{done, stepped}

-- scopes that open and close, parameters and types keep it too, and the last two are the same over both
pub record KeepsToo (ws : List Word) (P : Contents → Type 0) (known known' : Contents → Told) : Type 0 where
  pub enters : (c : Contents) → P c → P (entered c)
  pub leaves : (c : Contents) → P c → P (left c)
  pub parameters_alike : (c : Contents) (d : Parameters) → P c → with_parameters known ws c d ≡ with_parameters known' ws c d
  pub parameters_keep : (c : Contents) (d : Parameters) → P c → P (with_parameters known' ws c d)
  pub typedef_alike : (c : Contents) (d : Typedef) → P c → with_typedef known ws c d ≡ with_typedef known' ws c d
  pub typedef_keeps : (c : Contents) (d : Typedef) → P c → P (with_typedef known' ws c d)

module _ (ws : List Word) (P : Contents → Type 0) (k : Keeps ws P) (known known' : Contents → Told) (used used' : Contents → Use → Contents) (s : SameIn P known known' used used') (t : KeepsToo ws P known known') where
  done_alike : (c : Contents) (x : Local) → P c → done known used ws c x ≡ done known' used' ws c x
  done_alike c (Opens token) h = refl
  done_alike c Closes h = refl
  done_alike c (DeclaresData d) h = data_alike ws P k known known' used used' s c d h
  done_alike c (DeclaresVariables d) h = variables_alike ws P k known known' used used' s c d h
  done_alike c (DeclaresNamed d) h = named_alike ws P k known known' used used' s c d h
  done_alike c (DeclaresParameters d) h = t.parameters_alike c d h
  done_alike c (DeclaresType d) h = t.typedef_alike c d h
  done_alike c (DeclaresLoop variables) h = loop_alike ws P k known known' used used' s c variables h
  done_alike c (DeclaresNamedLoop name selects declarator value) h = named_loop_alike ws P k known known' used used' s c name selects.items declarator value h
  done_alike c (DeclaresIndices array names) h = refl

  done_keeps : (c : Contents) (x : Local) → P c → P (done known' used' ws c x)
  done_keeps c (Opens token) h = t.enters c h
  done_keeps c Closes h = t.leaves c h
  done_keeps c (DeclaresData d) h = data_keeps ws P k known known' used used' s c d h
  done_keeps c (DeclaresVariables d) h = variables_keep ws P k known known' used used' s c d h
  done_keeps c (DeclaresNamed d) h = named_keeps ws P k known known' used used' s c d h
  done_keeps c (DeclaresParameters d) h = t.parameters_keep c d h
  done_keeps c (DeclaresType d) h = t.typedef_keeps c d h
  done_keeps c (DeclaresLoop variables) h = loop_keeps ws P k known known' used used' s c variables h
  done_keeps c (DeclaresNamedLoop name selects declarator value) h = named_loop_keeps ws P k known known' used used' s c name selects.items declarator value h
  done_keeps c (DeclaresIndices array names) h = indices_keep ws P k known known' used used' s names c h

  step_alike : (c : Contents) (x : Step) → P c → stepped known used ws c x ≡ stepped known' used' ws c x
  step_alike c (Uses u) h = s.leaves c u h
  step_alike c (Does x) h = done_alike c x h

  step_keeps : (c : Contents) (x : Step) → P c → P (stepped known' used' ws c x)
  step_keeps c (Uses u) h = s.keeps c u h
  step_keeps c (Does x) h = done_keeps c x h

  pub steps_alike : (xs : List Step) (c : Contents) → P c → fold (stepped known used ws) c xs ≡ fold (stepped known' used' ws) c xs
  steps_alike [] c h = refl
  steps_alike (x ∷ xs) c h = ap (λ (d : Contents). fold (stepped known used ws) d xs) (step_alike c x h) ∙ steps_alike xs (stepped known' used' ws c x) (step_keeps c x h)

  pub steps_keep : (xs : List Step) (c : Contents) → P c → P (fold (stepped known' used' ws) c xs)
  steps_keep [] c h = h
  steps_keep (x ∷ xs) c h = steps_keep xs (stepped known' used' ws c x) (step_keeps c x h)
