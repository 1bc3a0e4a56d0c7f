-- The tokens of a tree are numbered one after the other.
use Rattle.std.proofs.Common.{◌≡◌, ℕ, zero, suc, ◌+◌, ◌-◌, Bool, true, false, cond, List, [], ◌∷◌, ◌++◌, length, Option, Ok, Err, refl, sym as flip, subst}
use Rattle.sve_grammar.specs.declared.symbol.Symbol.{Symbol}
use Rattle.sve_token.specs.declared.token.Token.{Token}
use Rattle.sve_token.specs.declared.kind.Kind.{Kind}
use Rattle.sve_grammar.specs.Token.{kind_at, has_kind}
use Rattle.sve_grammar.specs.Rule.{Rule, tok, sym, ◌∙◌, ◌∣◌, nothing, many, starts, empties, opens}
use Rattle.sve_grammar.specs.Grammar.{rule}
use Rattle.sve_grammar.specs.Reading.{Tree, leaf, pair, turn, ended, leaves, Numbered, Answer, ◌>>=◌, halt, with_left, with_right, both, turns, repeat, token, reads, symbol, at_depth}

abbrev pub Spelled : ℕ → Answer → Type 0
Spelled i (Ok x) = Numbered i x.1 (leaves x.0)
Spelled i (Err h) = Unit {0}

numbered-append : (i j k : ℕ) (xs ys : List ℕ) → Numbered i j xs → Numbered j k ys → Numbered i k (xs ++ ys)
numbered-append i j k [] ys p q = subst (λ (n : ℕ). Numbered n k ys) (flip p) q
numbered-append i j k (x ∷ xs) ys p q = (p.0, numbered-append (i + 1) j k xs ys p.1 q)

both_spelled : (i : ℕ) (x : Answer) (f : ℕ → Answer) → Spelled i x → ((j : ℕ) → Spelled j (f j)) → Spelled i (both x f)
both_spelled i (Err h) f p q = tt
both_spelled i (Ok x) f p q = second (f x.1) (q x.1)
  where
    second : (y : Answer) → Spelled x.1 y → Spelled i (y >>= λ z. Ok (pair x.0 z.0, z.1))
    second (Err h) w = tt
    second (Ok y) w = numbered-append i x.1 y.1 (leaves x.0) (leaves y.0) p w

turns_spelled : (i : ℕ) (x : Answer) (f : ℕ → Answer) → Spelled i x → ((j : ℕ) → Spelled j (f j)) → Spelled i (turns x f)
turns_spelled i (Err h) f p q = tt
turns_spelled i (Ok x) f p q = second (f x.1) (q x.1)
  where
    second : (y : Answer) → Spelled x.1 y → Spelled i (y >>= λ z. Ok (turn x.0 z.0, z.1))
    second (Err h) w = tt
    second (Ok y) w = numbered-append i x.1 y.1 (leaves x.0) (leaves y.0) p w

left_spelled : (i : ℕ) (x : Answer) → Spelled i x → Spelled i (with_left x)
left_spelled i (Ok x) p = p
left_spelled i (Err h) p = tt

right_spelled : (i : ℕ) (x : Answer) → Spelled i x → Spelled i (with_right x)
right_spelled i (Ok x) p = p
right_spelled i (Err h) p = tt

alt_spelled : (sa sb ea eb : Bool) (i : ℕ) (x y : Answer) → Spelled i x → Spelled i y → Spelled i (cond sa (with_left x) (cond sb (with_right y) (cond ea (with_left x) (cond eb (with_right y) (halt i false)))))
alt_spelled true sb ea eb i x y p q = left_spelled i x p
alt_spelled false true ea eb i x y p q = right_spelled i y q
alt_spelled false false true eb i x y p q = left_spelled i x p
alt_spelled false false false true i x y p q = right_spelled i y q
alt_spelled false false false false i x y p q = tt

token_spelled : (b : Bool) (i : ℕ) → Spelled i (cond b (Ok (leaf i, i + 1)) (halt i false))
token_spelled true i = (refl, refl)
token_spelled false i = tt

repeat_spelled : (ts : List Token) (p : Option Kind → Bool) (f : ℕ → Answer) → ((j : ℕ) → Spelled j (f j)) → (n i : ℕ) → Spelled i (repeat ts p f n i)
unfolding repeat
repeat_spelled ts p f h zero i = refl
repeat_spelled ts p f h (suc n) i = choose (p (kind_at ts i)) (turns (f i) (repeat ts p f n)) (turns_spelled i (f i) (repeat ts p f n) (h i) (repeat_spelled ts p f h n))
  where
    choose : (b : Bool) (x : Answer) → Spelled i x → Spelled i (cond b x (Ok (ended, i)))
    choose true x w = w
    choose false x w = refl

reads_spelled : (ts : List Token) (below : Symbol → ℕ → Answer) → ((s : Symbol) (i : ℕ) → Spelled i (below s i)) → (r : Rule) (i : ℕ) → Spelled i (reads ts below r i)
unfolding token
reads_spelled ts below h (tok k) i = token_spelled (has_kind (kind_at ts i) k) i
reads_spelled ts below h (sym s) i = h s i
reads_spelled ts below h (a ∙ b) i = both_spelled i (reads ts below a i) (reads ts below b) (reads_spelled ts below h a i) (reads_spelled ts below h b)
reads_spelled ts below h (a ∣ b) i = alt_spelled (starts a (kind_at ts i)) (starts b (kind_at ts i)) (empties a) (empties b) i (reads ts below a i) (reads ts below b i) (reads_spelled ts below h a i) (reads_spelled ts below h b i)
reads_spelled ts below h nothing i = refl
reads_spelled ts below h (many a) i = repeat_spelled ts (starts a) (reads ts below a) (reads_spelled ts below h a) (length ts - i) i

symbol_spelled : (ts : List Token) (n : ℕ) (s : Symbol) (i : ℕ) → Spelled i (symbol ts n s i)
unfolding symbol
symbol_spelled ts zero s i = tt
symbol_spelled ts (suc n) s i = choose (opens s (kind_at ts i)) (reads ts (symbol ts n) (rule s) i) (reads_spelled ts (symbol ts n) (symbol_spelled ts n) (rule s) i)
  where
    choose : (b : Bool) (x : Answer) → Spelled i x → Spelled i (cond b x (halt i false))
    choose true x w = w
    choose false x w = tt

pub spelled : (ts : List Token) (d : ℕ) (r : Rule) (i : ℕ) (t : Tree) (j : ℕ) → at_depth ts d r i ≡ Ok (t, j) → Numbered i j (leaves t)
spelled ts d r i t j e = rw e at (reads_spelled ts (symbol ts (512 - d)) (symbol_spelled ts (512 - d)) r i)
