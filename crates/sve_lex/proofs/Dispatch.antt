-- Forms that choose by their next byte: what each choice finds, one lemma a choice.
use Rattle.std.proofs.Common.{◌≡◌, ℕ, ◌<◌, List, [], ◌∷◌, ◌++◌, length, drop, get_or, Option, Some, None, Bool, true, false, cond, not, nat_eq, refl, sym, ap, ◌∙◌, arith, eqb-true, ne_eqb}
use Rattle.sve_lex.specs.Longest.{Form, after, longest, or_here}
use Rattle.sve_token.specs.Operators.{operators}
use Rattle.sve_lex.proofs.Longest.{longest_cons, longest_end, longest_same, longest_here}
use Rattle.sve_token.specs.declared.kind.Kind.TheVariants.{Apostrophe, Slash, LeftParen, Unbased}
use Rattle.sve_lex.specs.Classes.{run, constant, closes, operator, slash, paren, shuts, quote, after_quote, unbased, goes_on, when}
use Rattle.sve_lex.specs.Bytes.{is_in_line}
use Rattle.sve_lex.specs.declared.class.Class.{Class}
use Rattle.sve_lex.specs.declared.class.Class.TheVariants.{Separator, Lexeme}

by_operator : (b c : ℕ) (cs : List ℕ) (f : Form Class) → ((s rest : List ℕ) → s ++ rest ≡ cs → f (c ∷ s) rest ≡ operator b (c ∷ s) rest) → f [] (c ∷ cs) ≡ operator b [] (c ∷ cs) → longest (c ∷ cs) f ≡ longest (c ∷ cs) (operator b)
by_operator b c cs f h k =
    longest_cons c cs f ∙ ap (λ r. or_here r (f [] (c ∷ cs))) (longest_same cs (after c f) (after c (operator b)) h)
    ∙ ap (or_here (longest cs (after c (operator b)))) k ∙ sym (longest_cons c cs (operator b))

by_form : (c : ℕ) (cs : List ℕ) (f g : Form Class) (here : Option Class) → ((s rest : List ℕ) → s ++ rest ≡ cs → f (c ∷ s) rest ≡ g s rest) → f [] (c ∷ cs) ≡ here → longest (c ∷ cs) f ≡ or_here (longest cs g) here
by_form c cs f g here h k =
    longest_cons c cs f ∙ ap (λ r. or_here r (f [] (c ∷ cs))) (longest_same cs (after c f) g h) ∙ ap (or_here (longest cs g)) k

by_end : (b : ℕ) (f : Form Class) (cs : List ℕ) → true ≡ nat_eq (length cs) 0 → f [] [] ≡ operator b [] [] → longest cs f ≡ longest cs (operator b)
by_end b f [] h k = longest_end f ∙ ap (or_here None) k ∙ sym (longest_end (operator b))
by_end b f (c ∷ cs) h k = absurd (let e : length (c ∷ cs) ≡ 0 = eqb-true _ _ (sym h) in omega (arith, e))

-- behind `'`
tick : (cs : List ℕ) → operator 39 [] cs ≡ Some (Lexeme Apostrophe)
unfolding operator operators
tick cs = refl

pub quote_end : (cs : List ℕ) → true ≡ nat_eq (length cs) 0 → longest cs quote ≡ longest cs (operator 39)
unfolding quote
quote_end cs h = by_end 39 quote cs h refl

pub quote_operator : (cs : List ℕ) → 0 < length cs → get_or cs 0 0 ≡ 123 → longest cs quote ≡ longest cs (operator 39)
unfolding quote
quote_operator [] l h = absurd (omega arith)
quote_operator (c ∷ cs) l h = by_operator 39 c cs quote (λ s rest e. rw h refl) refl

pub quote_other : (cs : List ℕ) → 0 < length cs → (get_or cs 0 0 ≡ 123 → ⊥) → longest cs quote ≡ or_here (longest (drop 1 cs) (after_quote (get_or cs 0 0))) (Some (Lexeme Apostrophe))
unfolding quote
quote_other [] l h = absurd (omega arith)
quote_other (c ∷ cs) l h = by_form c cs quote (after_quote c) (Some (Lexeme Apostrophe)) (λ s rest e. rw (ne_eqb c 123 h) refl) (tick (c ∷ cs))

pub unbased_longest : (cs : List ℕ) → longest cs unbased ≡ cond (goes_on cs) None (Some (Lexeme Unbased, 0))
unbased_longest [] = longest_end unbased
unbased_longest (c ∷ cs) = longest_here c cs unbased (λ s rest e. refl) ∙ here (goes_on (c ∷ cs))
  where
    here : (b : Bool) → or_here None (when (not b) (Lexeme Unbased)) ≡ cond b None (Some (Lexeme Unbased, 0))
    here true = refl
    here false = refl

-- behind `/`
over : (cs : List ℕ) → operator 47 [] cs ≡ Some (Lexeme Slash)
unfolding operator operators
over cs = refl

pub slash_end : (cs : List ℕ) → true ≡ nat_eq (length cs) 0 → longest cs slash ≡ longest cs (operator 47)
unfolding slash
slash_end cs h = by_end 47 slash cs h refl

pub slash_line : (cs : List ℕ) → 0 < length cs → get_or cs 0 0 ≡ 47 → longest cs slash ≡ or_here (longest (drop 1 cs) (run is_in_line (constant Separator))) (Some (Lexeme Slash))
unfolding slash
slash_line [] l h = absurd (omega arith)
slash_line (c ∷ cs) l h = by_form c cs slash (run is_in_line (constant Separator)) (Some (Lexeme Slash)) (λ s rest e. rw h refl) (over (c ∷ cs))

pub slash_block : (cs : List ℕ) → 0 < length cs → get_or cs 0 0 ≡ 42 → longest cs slash ≡ or_here (longest (drop 1 cs) (closes 47 false)) (Some (Lexeme Slash))
unfolding slash
slash_block [] l h = absurd (omega arith)
slash_block (c ∷ cs) l h = by_form c cs slash (closes 47 false) (Some (Lexeme Slash)) (λ s rest e. rw h refl) (over (c ∷ cs))

pub slash_other : (cs : List ℕ) → 0 < length cs → (get_or cs 0 0 ≡ 47 → ⊥) → (get_or cs 0 0 ≡ 42 → ⊥) → longest cs slash ≡ longest cs (operator 47)
unfolding slash
slash_other [] l h k = absurd (omega arith)
slash_other (c ∷ cs) l h k = by_operator 47 c cs slash (λ s rest e. rw (ne_eqb c 47 h, ne_eqb c 42 k) refl) refl

-- behind `(`
opens : (cs : List ℕ) → operator 40 [] cs ≡ Some (Lexeme LeftParen)
unfolding operator operators
opens cs = refl

pub paren_end : (cs : List ℕ) → true ≡ nat_eq (length cs) 0 → longest cs paren ≡ longest cs (operator 40)
unfolding paren
paren_end cs h = by_end 40 paren cs h refl

pub paren_other : (cs : List ℕ) → 0 < length cs → (get_or cs 0 0 ≡ 42 → ⊥) → longest cs paren ≡ longest cs (operator 40)
unfolding paren
paren_other [] l h = absurd (omega arith)
paren_other (c ∷ cs) l h = by_operator 40 c cs paren (λ s rest e. rw (ne_eqb c 42 h) refl) refl

pub paren_shut : (cs : List ℕ) → 0 < length cs → get_or cs 0 0 ≡ 42 → shuts (drop 1 cs) ≡ true → longest cs paren ≡ longest cs (operator 40)
unfolding paren
paren_shut [] l h k = absurd (omega arith)
paren_shut (c ∷ cs) l h k = by_operator 40 c cs paren (λ s rest e. rw (h, e, k) refl) refl

pub paren_open : (cs : List ℕ) → 0 < length cs → get_or cs 0 0 ≡ 42 → shuts (drop 1 cs) ≡ false → longest cs paren ≡ or_here (longest (drop 1 cs) (closes 41 false)) (Some (Lexeme LeftParen))
unfolding paren
paren_open [] l h k = absurd (omega arith)
paren_open (c ∷ cs) l h k = by_form c cs paren (closes 41 false) (Some (Lexeme LeftParen)) (λ s rest e. rw (h, e, k) refl) (opens (c ∷ cs))
