-- The expansion over what is told is that over a table that what is told follows.
use Rattle.std.proofs.Common.{◌≡◌, ℕ, Bool, true, false, List, Some, None, refl, sym, ap, ◌∙◌}
use Rattle.std.specs.Prelude.{◌&&◌, if◌then◌else◌, Option}
use Rattle.sve_origin.specs.Origins.{values as bytes_of}
use Rattle.sve_origin.specs.Expanded.{ExpandedValue}
use Rattle.sve_prep.specs.State.{State}
use Rattle.sve_prep.specs.Expansion.{Outcome, Wants, expand, fresh}
use Rattle.sve_front.specs.Expansions.{state_in}
use Rattle.sve_store.specs.Made.{Done}
use Rattle.sve_store.specs.Told.{Follows}
use Rattle.sve_key.specs.declared.key.Key.{Key}
use Rattle.sve_key.specs.declared.value.Value.{Value}
use Rattle.sve_make.specs.Make.{expansion_made, expanded}
use Rattle.sve_kinds.specs.Asked.{HoldsFree, Expands}
use Rattle.sve_answer.specs.Answers.{texts_by, state_by}

done_state : (o : Outcome) (last : State) → expansion_made o ≡ Done last → state_in o ≡ last
done_state (Outcome.Done s) last e = cc
done_state (Wants name s) last e = cc

module _ (table : Key → ℕ → Value) where
  pub holds_table : (tells : Key → ℕ → Value → Type 0) → Follows (λ v fuel. v) table tells → HoldsFree (λ k. Some (table k 0)) tells
  holds_table tells follows k v is = ap Some (sym (follows k 0 v is))

  pub expands_table : (name : List ℕ) (e : ExpandedValue) → Expands (expanded (λ k. Some (table k 0)) name) e → bytes_of e.cells ≡ bytes_of (state_by table name).out
  expands_table name e is =
      ap (λ (x : ExpandedValue). bytes_of x.cells) is.2
      ∙ ap (λ (s : State). bytes_of s.out) (sym (done_state (expand (texts_by table) fresh None name) is.0 is.1))

-- a name that a file may have
pub named : (b : Bool) (bytes name : List ℕ) → ◌≡◌ {A = Option (List ℕ)} (if b then Some bytes else None) (Some name) → (b ≡ true) × (bytes ≡ name)
named true bytes name e = (refl, cc)
named false bytes name e = absurd (cc)

-- where both tests hold
pub both : {X : Type 0} (a b : Bool) (x y : X) → a ≡ true → b ≡ true → x ≡ (if a && b then x else y)
both true true x y e f = refl
both true false x y e f = absurd (cc)
both false b x y e f = absurd (cc)
