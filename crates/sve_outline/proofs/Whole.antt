-- What is read by a rule is whole.
use Rattle.std.proofs.Common.{◌≡◌, ℕ, zero, suc, ◌+◌, ◌-◌, Bool, true, false, cond, List, length, Option, Ok, Err}
use Rattle.sve_token.specs.declared.token.Token.{Token}
use Rattle.sve_token.specs.declared.kind.Kind.{Kind}
use Rattle.sve_grammar.specs.declared.symbol.Symbol.{Symbol}
use Rattle.sve_grammar.specs.Token.{kind_at, has_kind}
use Rattle.sve_grammar.specs.Rule.{Rule, tok, sym, ◌∙◌, ◌∣◌, nothing, many, starts, empties, opens}
use Rattle.sve_grammar.specs.Grammar.{rule}
use Rattle.sve_grammar.specs.Reading.{Tree, leaf, pair, turn, ended, Answer, ◌>>=◌, halt, with_left, with_right, both, turns, repeat, token, reads, symbol, at_depth}
use Rattle.sve_outline.specs.Outline.{IsRepetition, IsWhole}

-- a reading gives a whole tree
abbrev pub GivesWhole : Answer → Type 0
GivesWhole (Ok x) = IsWhole x.0
GivesWhole (Err h) = Unit {0}

-- a reading gives a whole tree of a repetition
abbrev pub GivesRepetition : Answer → Type 0
GivesRepetition (Ok x) = IsWhole x.0 × IsRepetition x.0
GivesRepetition (Err h) = Unit {0}

both_whole : (x : Answer) (f : ℕ → Answer) → GivesWhole x → ((j : ℕ) → GivesWhole (f j)) → GivesWhole (both x f)
both_whole (Err h) f p q = tt
both_whole (Ok x) f p q = second (f x.1) (q x.1)
  where
    second : (y : Answer) → GivesWhole y → GivesWhole (y >>= λ z. Ok (pair x.0 z.0, z.1))
    second (Err h) w = tt
    second (Ok y) w = (p, w)

turns_whole : (x : Answer) (f : ℕ → Answer) → GivesWhole x → ((j : ℕ) → GivesRepetition (f j)) → GivesRepetition (turns x f)
turns_whole (Err h) f p q = tt
turns_whole (Ok x) f p q = second (f x.1) (q x.1)
  where
    second : (y : Answer) → GivesRepetition y → GivesRepetition (y >>= λ z. Ok (turn x.0 z.0, z.1))
    second (Err h) w = tt
    second (Ok y) w = ((p, w.0, w.1), tt)

left_whole : (x : Answer) → GivesWhole x → GivesWhole (with_left x)
left_whole (Ok x) p = p
left_whole (Err h) p = tt

right_whole : (x : Answer) → GivesWhole x → GivesWhole (with_right x)
right_whole (Ok x) p = p
right_whole (Err h) p = tt

choice_whole : (sa sb ea eb : Bool) (i : ℕ) (x y : Answer) → GivesWhole x → GivesWhole y → GivesWhole (cond sa (with_left x) (cond sb (with_right y) (cond ea (with_left x) (cond eb (with_right y) (halt i false)))))
choice_whole true sb ea eb i x y p q = left_whole x p
choice_whole false true ea eb i x y p q = right_whole y q
choice_whole false false true eb i x y p q = left_whole x p
choice_whole false false false true i x y p q = right_whole y q
choice_whole false false false false i x y p q = tt

token_whole : (b : Bool) (i : ℕ) → GivesWhole (cond b (Ok (leaf i, i + 1)) (halt i false))
token_whole true i = tt
token_whole false i = tt

repeat_whole : (ts : List Token) (p : Option Kind → Bool) (f : ℕ → Answer) → ((j : ℕ) → GivesWhole (f j)) → (n i : ℕ) → GivesRepetition (repeat ts p f n i)
unfolding repeat
repeat_whole ts p f h zero i = (tt, tt)
repeat_whole ts p f h (suc n) i = choose (p (kind_at ts i)) (turns (f i) (repeat ts p f n)) (turns_whole (f i) (repeat ts p f n) (h i) (repeat_whole ts p f h n))
  where
    choose : (b : Bool) (x : Answer) → GivesRepetition x → GivesRepetition (cond b x (Ok (ended, i)))
    choose true x w = w
    choose false x w = (tt, tt)

repetition_whole : (x : Answer) → GivesRepetition x → GivesWhole x
repetition_whole (Ok x) w = w.0
repetition_whole (Err h) w = tt

reads_whole : (ts : List Token) (below : Symbol → ℕ → Answer) → ((s : Symbol) (i : ℕ) → GivesWhole (below s i)) → (r : Rule) (i : ℕ) → GivesWhole (reads ts below r i)
unfolding token
reads_whole ts below h (tok k) i = token_whole (has_kind (kind_at ts i) k) i
reads_whole ts below h (sym s) i = h s i
reads_whole ts below h (a ∙ b) i = both_whole (reads ts below a i) (reads ts below b) (reads_whole ts below h a i) (reads_whole ts below h b)
reads_whole ts below h (a ∣ b) i = choice_whole (starts a (kind_at ts i)) (starts b (kind_at ts i)) (empties a) (empties b) i (reads ts below a i) (reads ts below b i) (reads_whole ts below h a i) (reads_whole ts below h b i)
reads_whole ts below h nothing i = tt
reads_whole ts below h (many a) i = repetition_whole (repeat ts (starts a) (reads ts below a) (length ts - i) i) (repeat_whole ts (starts a) (reads ts below a) (reads_whole ts below h a) (length ts - i) i)

symbol_whole : (ts : List Token) (n : ℕ) (s : Symbol) (i : ℕ) → GivesWhole (symbol ts n s i)
unfolding symbol
symbol_whole ts zero s i = tt
symbol_whole ts (suc n) s i = choose (opens s (kind_at ts i)) (reads ts (symbol ts n) (rule s) i) (reads_whole ts (symbol ts n) (symbol_whole ts n) (rule s) i)
  where
    choose : (b : Bool) (x : Answer) → GivesWhole x → GivesWhole (cond b x (halt i false))
    choose true x w = w
    choose false x w = tt

pub whole : (ts : List Token) (d : ℕ) (r : Rule) (i : ℕ) (t : Tree) (j : ℕ) → at_depth ts d r i ≡ Ok (t, j) → IsWhole t
whole ts d r i t j e = rw e at (reads_whole ts (symbol ts (512 - d)) (symbol_whole ts (512 - d)) r i)
