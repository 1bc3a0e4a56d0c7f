-- Which of two alternatives is read, by what begins here.
use Rattle.std.proofs.Common.{◌≡◌, ℕ, Bool, true, false, List, Option, Some, None, refl, ◌∙◌ as ◌∘◌}
use Rattle.std.proofs.lemmas.Bool.{false≢true}
use Rattle.sve_token.specs.declared.kind.Kind.{Kind}
use Rattle.sve_token.specs.declared.kind.Kind.TheVariants.{Identifier}
use Rattle.sve_token.specs.declared.token.Token.{Token}
use Rattle.sve_grammar.specs.Token.{kind_at, has_kind, same_kind}
use Rattle.sve_grammar.specs.Rule.{Rule, tok, ◌∙◌, ◌∣◌, starts, empties}
use Rattle.sve_grammar.specs.Reading.{Answer, with_left, with_right, reads, symbol}
use Rattle.sve_grammar.specs.Expressions.{selects, argument_list}
use Rattle.sve_grammar.specs.Types.{declared_name}
use Rattle.sve_grammar.specs.Statements.{assignment_operator, increment_operator, left_concatenation, left_side, statement_tail}
use Rattle.sve_grammar.proofs.Idle.{first_way, last_way, stops_here}
use Rattle.sve_grammar.proofs.StartsOfTypes.{declared_name_starts, declared_name_full}

-- no operator and no call begins with an identifier
pub no_tail : (k : Option Kind) → has_kind k Identifier ≡ true → (starts assignment_operator k ≡ false) × (starts statement_tail k ≡ false)
unfolding assignment_operator statement_tail increment_operator argument_list same_kind
no_tail None e = absurd (false≢true e)
no_tail (Some Identifier) e = (refl, refl)
no_tail (Some k) e = absurd (false≢true e)

module _ (ts : List Token) (n i : ℕ) where
  -- what is read here by a rule, and whether it begins
  abbrev Reads : Rule → Answer
  Reads r = reads ts (symbol ts n) r i

  abbrev Lacks : Rule → Type 0
  Lacks r = starts r (kind_at ts i) ≡ false

  -- of two rules that are never empty the first is read where the second does not begin
  pub only_way : (a b : Rule) → Lacks b → empties a ≡ false → empties b ≡ false → Reads (a ∣ b) ≡ with_left (Reads a)
  only_way a b s ea eb = go (starts a (kind_at ts i)) refl
    where
      go : (x : Bool) → starts a (kind_at ts i) ≡ x → Reads (a ∣ b) ≡ with_left (Reads a)
      go true e = first_way ts n a b i e
      go false e = rw (e, s, ea, eb, stops_here ts n a i e ea) refl

  pub no_second_name : (r : Rule) → has_kind (kind_at ts i) Identifier ≡ false → Lacks (declared_name ∙ r)
  no_second_name r h = rw (declared_name_starts (kind_at ts i) ∘ h, declared_name_full) refl

  pub named_side : has_kind (kind_at ts i) Identifier ≡ true → Reads left_side ≡ with_left (Reads (tok Identifier ∙ selects))
  unfolding left_side
  named_side h = first_way ts n (tok Identifier ∙ selects) left_concatenation i (rw h refl)

  pub braced_side : has_kind (kind_at ts i) Identifier ≡ false → Reads left_side ≡ with_right (Reads left_concatenation)
  unfolding left_side
  braced_side h = last_way ts n (tok Identifier ∙ selects) left_concatenation i (rw h refl) refl
