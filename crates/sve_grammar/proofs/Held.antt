-- Where answers and stops lie: among the tokens, and not in front of the place.
use Rattle.std.proofs.Common.{◌≡◌, ℕ, zero, suc, ◌+◌, ◌-◌, ◌≤◌, Bool, true, false, cond, List, length, Option, Ok, Err, refl, arith}
use Rattle.sve_token.specs.declared.kind.Kind.{Kind}
use Rattle.sve_token.specs.declared.token.Token.{Token}
use Rattle.sve_grammar.specs.declared.symbol.Symbol.{Symbol}
use Rattle.sve_grammar.specs.Token.{kind_at, has_kind}
use Rattle.sve_grammar.specs.Rule.{Rule, tok, sym, ◌∙◌, ◌∣◌, nothing, many, starts, empties, opens}
use Rattle.sve_grammar.specs.Grammar.{rule}
use Rattle.sve_grammar.specs.Reading.{leaf, pair, ended, turn, Answer, ◌>>=◌, halt, with_left, with_right, both, turns, repeat, token, reads, symbol}
use Rattle.sve_grammar.proofs.Forward.{kind_past, Forward, reads_forward, symbol_forward}

-- of n tokens none behind the last is taken, and no stop lies in front of the place or behind the end
abbrev pub Held : ℕ → ℕ → Answer → Type 0
Held n i (Ok x) = x.1 ≤ n
Held n i (Err h) = (i ≤ h.index) × (h.index ≤ n)

pub held_token : (ts : List Token) (k : Kind) (i : ℕ) → i ≤ length ts → Held (length ts) i (token ts k i)
unfolding token
held_token ts k i h = by_test (has_kind (kind_at ts i) k) refl
  where
    by_test : (b : Bool) → has_kind (kind_at ts i) k ≡ b → Held (length ts) i (cond b (Ok (leaf i, i + 1)) (halt i false))
    by_test false e = (omega arith, h)
    by_test true e = omega (arith, inside)
      where
        inside : length ts ≤ i → ⊥
        inside past = absurd (let none_there : has_kind (kind_at ts i) k ≡ false = rw (kind_past ts i past) refl in cc)

held_both : (n : ℕ) (b : Bool) (i : ℕ) (x : Answer) (f : ℕ → Answer) → Forward b i x → Held n i x → ((j : ℕ) → j ≤ n → Held n j (f j)) → Held n i (both x f)
held_both n b i (Err e) f p h g = h
held_both n b i (Ok x) f p h g = go (f x.1) (g x.1 h)
  where
    go : (y : Answer) → Held n x.1 y → Held n i (y >>= λ q. Ok (pair x.0 q.0, q.1))
    go (Ok y) w = w
    go (Err e) w = (omega (arith, p.0, w.0), w.1)

held_left : (n i : ℕ) (x : Answer) → Held n i x → Held n i (with_left x)
held_left n i (Ok x) h = h
held_left n i (Err e) h = h

held_right : (n i : ℕ) (x : Answer) → Held n i x → Held n i (with_right x)
held_right n i (Ok x) h = h
held_right n i (Err e) h = h

held_alt : (n i : ℕ) (sa sb ea eb : Bool) (x y : Answer) → i ≤ n → Held n i x → Held n i y → Held n i (cond sa (with_left x) (cond sb (with_right y) (cond ea (with_left x) (cond eb (with_right y) (halt i false)))))
held_alt n i true sb ea eb x y l h k = held_left n i x h
held_alt n i false true ea eb x y l h k = held_right n i y k
held_alt n i false false true eb x y l h k = held_left n i x h
held_alt n i false false false true x y l h k = held_right n i y k
held_alt n i false false false false x y l h k = (omega arith, l)

held_repeat : (ts : List Token) (p : Option Kind → Bool) (f : ℕ → Answer) → ((j : ℕ) → Forward (p (kind_at ts j)) j (f j)) → ((j : ℕ) → j ≤ length ts → Held (length ts) j (f j))
    → (n i : ℕ) → i ≤ length ts → Held (length ts) i (repeat ts p f n i)
unfolding repeat
held_repeat ts p f goes held zero i h = h
held_repeat ts p f goes held (suc n) i h = by_test (p (kind_at ts i)) (f i) (goes i) (held i h) (held_repeat ts p f goes held n)
  where
    by_test : (b : Bool) (x : Answer) → Forward b i x → Held (length ts) i x → ((j : ℕ) → j ≤ length ts → Held (length ts) j (repeat ts p f n j)) → Held (length ts) i (cond b (turns x (repeat ts p f n)) (Ok (ended, i)))
    by_test false x w k g = h
    by_test true (Err e) w k g = k
    by_test true (Ok x) w k g = go (repeat ts p f n x.1) (g x.1 k)
      where
        go : (y : Answer) → Held (length ts) x.1 y → Held (length ts) i (y >>= λ q. Ok (turn x.0 q.0, q.1))
        go (Ok y) v = v
        go (Err e) v = (omega (arith, w.0, v.0), v.1)

pub reads_held : (ts : List Token) (n : ℕ) → ((s : Symbol) (i : ℕ) → i ≤ length ts → Held (length ts) i (symbol ts n s i)) → (r : Rule) (i : ℕ) → i ≤ length ts → Held (length ts) i (reads ts (symbol ts n) r i)
reads_held ts n h (tok k) i l = held_token ts k i l
reads_held ts n h (sym s) i l = h s i l
reads_held ts n h (a ∙ b) i l = held_both (length ts) (starts a (kind_at ts i)) i (reads ts (symbol ts n) a i) (reads ts (symbol ts n) b) (reads_forward ts (symbol ts n) (symbol_forward ts n) a i) (reads_held ts n h a i l) (reads_held ts n h b)
reads_held ts n h (a ∣ b) i l = held_alt (length ts) i (starts a (kind_at ts i)) (starts b (kind_at ts i)) (empties a) (empties b) (reads ts (symbol ts n) a i) (reads ts (symbol ts n) b i) l (reads_held ts n h a i l) (reads_held ts n h b i l)
reads_held ts n h nothing i l = l
reads_held ts n h (many a) i l = held_repeat ts (starts a) (reads ts (symbol ts n) a) (reads_forward ts (symbol ts n) (symbol_forward ts n) a) (reads_held ts n h a) (length ts - i) i l

pub symbol_held : (ts : List Token) (n : ℕ) (s : Symbol) (i : ℕ) → i ≤ length ts → Held (length ts) i (symbol ts n s i)
unfolding symbol
symbol_held ts zero s i l = (omega arith, l)
symbol_held ts (suc n) s i l = by_test (opens s (kind_at ts i)) (reads_held ts n (symbol_held ts n) (rule s) i l)
  where
    by_test : (b : Bool) → Held (length ts) i (reads ts (symbol ts n) (rule s) i) → Held (length ts) i (cond b (reads ts (symbol ts n) (rule s) i) (halt i false))
    by_test true w = w
    by_test false w = (omega arith, l)
