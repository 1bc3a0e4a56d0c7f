-- Which alternative is read behind an opening parenthesis, and a separator with what stands behind it.
use Rattle.std.proofs.Common.{◌≡◌, ℕ, true, false, List, Ok, refl}
use Rattle.sve_token.specs.declared.kind.Kind.TheVariants.{Star}
use Rattle.sve_token.specs.declared.token.Token.{Token}
use Rattle.sve_grammar.specs.declared.stop.Stop.{Stop}
use Rattle.sve_grammar.specs.declared.stop.Stop.TheVariants.{At, NoMemory}
use Rattle.sve_grammar.specs.Token.{kind_at, has_kind}
use Rattle.sve_grammar.specs.Rule.{Rule, tok, ◌∙◌}
use Rattle.sve_grammar.specs.Reading.{Tree, pair, Answer, with_left, with_right, reads, symbol}
use Rattle.sve_grammar.specs.Gives.{Fails}
use Rattle.sve_grammar.specs.Items.{event_expression, more_events, event_list}
use Rattle.sve_grammar.proofs.Idle.{first_way, last_way}

module _ (ts : List Token) (n i : ℕ) where
  -- what is read here by a rule
  abbrev Reads : Rule → Answer
  Reads r = reads ts (symbol ts n) r i

  pub everything : has_kind (kind_at ts i) Star ≡ true → Reads event_list ≡ with_left (Reads (tok Star))
  unfolding event_list
  everything h = first_way ts n (tok Star) (event_expression ∙ more_events) i h

  pub some_events : has_kind (kind_at ts i) Star ≡ false → Reads event_list ≡ with_right (Reads (event_expression ∙ more_events))
  unfolding event_list
  some_events h = last_way ts n (tok Star) (event_expression ∙ more_events) i h refl

  -- a separator, and what stands behind it
  pub separated : (j k : ℕ) (a b : Rule) (s t : Tree) → Reads a ≡ Ok (s, j) → reads ts (symbol ts n) b j ≡ Ok (t, k) → Reads (a ∙ b) ≡ Ok (pair s t, k)
  separated j k a b s t x y = rw (x, y) refl

  pub separated_fails : (j : ℕ) (a b : Rule) (s : Tree) (e : Stop) → Reads a ≡ Ok (s, j) → Fails e (reads ts (symbol ts n) b j) → Fails e (Reads (a ∙ b))
  separated_fails j a b s NoMemory x f = tt
  separated_fails j a b s (At index deep) x f = rw (x, f) refl
