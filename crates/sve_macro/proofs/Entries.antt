-- Look-ups by the order of names are look-ups by their bytes.
use Rattle.std.proofs.Common.{◌≡◌, ℕ, cond, List, [], ◌∷◌, Option, Some, refl, ap, sym, ◌∙◌, bytes_eq}
use Rattle.std.specs.BTreeMap.{BTreeMap, UpdatesBy, is_at}
use Rattle.std.specs.Cmp.Lexicographic.{slice_cmp}
use Rattle.std.specs.Map.{lookup, remove_entry}
use Rattle.std.specs.Ordering.{nat_cmp}
use Rattle.std.proofs.lemmas.Map.Text.{is_eq-slice_cmp}
use Rattle.sve_macro.specs.declared.definition.Definition.{Definition}
use Rattle.sve_macro.specs.Macros.{Entries, Sets}

-- both tests give the same at every name
pub lookup-cmp : {X : Type 0} (name : List ℕ) (es : List (List ℕ × X)) → lookup (is_at (slice_cmp nat_cmp name)) es ≡ lookup (bytes_eq name) es
lookup-cmp name [] = refl
lookup-cmp {X} name (e ∷ es) =
    ap (λ b. cond b (Some e.1) (lookup (is_at (slice_cmp nat_cmp name)) es)) (is_eq-slice_cmp name e.0)
    ∙ ap (λ r. cond (bytes_eq name e.0) (Some e.1) r) (lookup-cmp name es)

pub remove_entry-cmp : {X : Type 0} (name : List ℕ) (es : List (List ℕ × X)) → remove_entry (is_at (slice_cmp nat_cmp name)) es ≡ remove_entry (bytes_eq name) es
remove_entry-cmp name [] = refl
remove_entry-cmp {X} name (e ∷ es) =
    ap (λ b. cond b es (e ∷ remove_entry (is_at (slice_cmp nat_cmp name)) es)) (is_eq-slice_cmp name e.0)
    ∙ ap (λ r. cond (bytes_eq name e.0) es (e ∷ r)) (remove_entry-cmp name es)

pub sets_from_updates : (name : List ℕ) (m n : BTreeMap (List ℕ) Definition) (w : Option Definition) (old : Entries) → m.entries ≡ old → UpdatesBy (slice_cmp nat_cmp) (slice_cmp nat_cmp name) m n w → Sets old n.entries name w
sets_from_updates name m n w old e h =
    record {
      at = sym (lookup-cmp name n.entries) ∙ h.1;
      others = λ other differs.
          sym (lookup-cmp other n.entries) ∙ h.2 other (is_eq-slice_cmp name other ∙ differs) ∙ lookup-cmp other m.entries ∙ ap (λ es. lookup (bytes_eq other) es) e;
    }
