-- Where two say the same of every scope that keeps a fact, and uses, notes and declarations keep it, formal arguments leave the same over both, and
-- keep it.
use Rattle.std.proofs.Common.{◌≡◌, ℕ, ◌+◌, List, [], ◌∷◌, Option, Some, None, refl, ap, ◌∙◌}
use Rattle.sve_env.specs.Told.{Told}
use Rattle.sve_tree.specs.declared.token_word.Word.{Word}
use Rattle.sve_tree.specs.declared.statement.Formal.{Formal}
use Rattle.sve_tree.specs.declared.statement.Formals.{Formals}
use Rattle.sve_use.specs.Use.{Use}
use Rattle.sve_type_rule.specs.Outcomes.{Outcome, scalar}
use Rattle.sve_type_of.specs.TypeOf.{notes_in}
use Rattle.sve_contents.specs.declared.contents.Contents.{Contents}
use Rattle.sve_contents.specs.Reading.{noted_all}
use Rattle.sve_enumerated.specs.declared.passed.Passed.{Passed}
use Rattle.sve_enumerated.specs.Names.{separator}
use Rattle.sve_data.specs.declared.kind.DataKind.TheVariants as is_kind
use Rattle.sve_data.specs.Declarations.{declared_names}
pub use Rattle.sve_data.proofs.Follow.{Keeps, SameIn}
use Rattle.sve_data.proofs.Follow.{declarator_alike, declarator_keeps, declared_keep}
use Rattle.sve_formal_data.specs.declared.formals.Typing.{Typing}
use Rattle.sve_formal_data.specs.Formals.{formal_after, formal_over, formal_typed, formals_behind, with_formals}

module _ (ws : List Word) (P : Contents → Type 0) (k : Keeps ws P) (known known' : Contents → Told) (used used' : Contents → Use → Contents) (s : SameIn P known known' used used') where
  formal_front_keeps : (p : Passed) (f : Formal) (m : Told) (o : Outcome) → P p.contents → P (declared_names ws o.ty (record { contents = noted_all p.contents (notes_in m o.faults); at = p.at }) f.parameter.data_type).contents
  formal_front_keeps p f m o h = declared_keep ws P k known known' used used' s o.ty (record { contents = noted_all p.contents (notes_in m o.faults); at = p.at }) f.parameter.data_type (k.notes p.contents (notes_in m o.faults) h)

  formal_alike : (t : Typing) (f : Formal) (last : ℕ) → P t.passed.contents → formal_after known ws t f last ≡ formal_after known' ws t f last
  unfolding formal_after
  formal_alike t f last h =
      let m : Told = known' t.passed.contents in
      let o : Outcome = formal_typed m t.ty f in
      let made : Passed → Typing = λ q. record { passed = q; ty = o.ty } in
      ap (λ (l : Told). formal_over known ws t.passed f last l (formal_typed l t.ty f)) (s.knows t.passed.contents h)
      ∙ ap made (declarator_alike ws P k known known' used used' s is_kind.Variable o.ty (declared_names ws o.ty (record { contents = noted_all t.passed.contents (notes_in m o.faults); at = t.passed.at }) f.parameter.data_type) f.parameter.declarator last (formal_front_keeps t.passed f m o h))

  formal_keeps : (t : Typing) (f : Formal) (last : ℕ) → P t.passed.contents → P (formal_after known' ws t f last).passed.contents
  unfolding formal_after
  formal_keeps t f last h =
      let m : Told = known' t.passed.contents in
      let o : Outcome = formal_typed m t.ty f in
      declarator_keeps ws P k known known' used used' s is_kind.Variable o.ty (declared_names ws o.ty (record { contents = noted_all t.passed.contents (notes_in m o.faults); at = t.passed.at }) f.parameter.data_type) f.parameter.declarator last (formal_front_keeps t.passed f m o h)

  list_alike : (separators : List ℕ) (last place : ℕ) (t : Typing) (fs : List Formal) → P t.passed.contents → formals_behind known ws separators last place t fs ≡ formals_behind known' ws separators last place t fs
  unfolding formals_behind
  list_alike separators last place t [] h = refl
  list_alike separators last place t (f ∷ fs) h =
      ap (λ (q : Typing). formals_behind known ws separators last (place + 1) q fs) (formal_alike t f (separator separators last place) h)
      ∙ list_alike separators last (place + 1) (formal_after known' ws t f (separator separators last place)) fs (formal_keeps t f (separator separators last place) h)

  list_keeps : (separators : List ℕ) (last place : ℕ) (t : Typing) (fs : List Formal) → P t.passed.contents → P (formals_behind known' ws separators last place t fs).passed.contents
  unfolding formals_behind
  list_keeps separators last place t [] h = h
  list_keeps separators last place t (f ∷ fs) h = list_keeps separators last (place + 1) (formal_after known' ws t f (separator separators last place)) fs (formal_keeps t f (separator separators last place) h)

  pub formals_alike : (c : Contents) (w : Option Formals) → P c → with_formals known ws c w ≡ with_formals known' ws c w
  formals_alike c None h = refl
  formals_alike c (Some w) h = ap (λ (t : Typing). t.passed.contents) (list_alike w.formals.separators.items w.closing 0 (record { passed = record { contents = c; at = w.opening }; ty = scalar }) w.formals.items.items h)

  pub formals_keep : (c : Contents) (w : Option Formals) → P c → P (with_formals known' ws c w)
  formals_keep c None h = h
  formals_keep c (Some w) h = list_keeps w.formals.separators.items w.closing 0 (record { passed = record { contents = c; at = w.opening }; ty = scalar }) w.formals.items.items h
