-- Reading goes forward: an answer never ends in front of its place, and ends behind it where the rule begins there.
use Rattle.std.proofs.Common.{◌≡◌, ℕ, zero, suc, ◌+◌, ◌-◌, ◌<◌, ◌≤◌, Bool, true, false, cond, List, length, Option, None, Ok, Err, refl, sym as flip, ap, subst, ◌∙◌ as ◌∘◌, arith, inl, inr}
use Rattle.std.specs.Prelude.{◌||◌, ◌&&◌}
use Rattle.std.proofs.lemmas.Bool.{cases_lt}
use Rattle.std.proofs.lemmas.Option.{slice_get_past}
use Rattle.sve_token.specs.declared.kind.Kind.{Kind}
use Rattle.sve_token.specs.declared.token.Token.{Token}
use Rattle.sve_grammar.specs.declared.symbol.Symbol.{Symbol}
use Rattle.sve_grammar.specs.Token.{kind_at, has_kind}
use Rattle.sve_grammar.specs.Rule.{Rule, tok, sym, ◌∙◌, ◌∣◌, nothing, many, starts, empties, opens}
use Rattle.sve_grammar.specs.Grammar.{rule}
use Rattle.sve_grammar.specs.Machine.{Halt}
use Rattle.sve_grammar.specs.Reading.{Tree, leaf, pair, turn, ended, Answer, ◌>>=◌, halt, with_left, with_right, both, turns, repeat, token, reads, symbol}
use Rattle.sve_grammar.proofs.Begins.{opens_is, opens_none}

-- no rule begins behind the last token
pub starts-none : (r : Rule) → starts r None ≡ false
starts-none (tok k) = refl
starts-none (sym s) = opens_none s
starts-none (a ∙ b) = rw (starts-none a, starts-none b) (elim (empties a) as (λ x. (x && false) ≡ false) [ true ↦ refl | false ↦ refl ])
starts-none (a ∣ b) = rw (starts-none a, starts-none b) refl
starts-none nothing = refl
starts-none (many a) = starts-none a

pub kind_past : (ts : List Token) (i : ℕ) → length ts ≤ i → kind_at ts i ≡ None
kind_past ts i h = rw (slice_get_past ts i h) refl

-- the answer ends at the place or behind it; where the test holds, behind it
abbrev pub Forward : Bool → ℕ → Answer → Type 0
Forward b i (Ok x) = (i ≤ x.1) × (b ≡ true → i < x.1)
Forward b i (Err e) = Unit {0}

both_forward : (sa e : Bool) (sb : ℕ → Bool) (i : ℕ) (x : Answer) (f : ℕ → Answer) → Forward sa i x → ((j : ℕ) → Forward (sb j) j (f j)) → Forward (sa || (e && sb i)) i (both x f)
both_forward sa e sb i (Err h) f p q = tt
both_forward sa e sb i (Ok x) f p q = second (f x.1) (q x.1)
  where
    later : (sa e : Bool) (j : ℕ) → (sa ≡ true → i < x.1) → (sb x.1 ≡ true → x.1 < j) → i ≤ x.1 → x.1 ≤ j → (sa || (e && sb i)) ≡ true → i < j
    later true e j h g le le' b = omega (arith, h refl)
    later false false j h g le le' b = absurd cc
    later false true j h g le le' b = elim (cases_lt i x.1) [ inl lt ↦ omega arith | inr ge ↦ let same : i ≡ x.1 = omega arith in omega (arith, g (ap sb (flip same) ∘ b)) ]

    second : (y : Answer) → Forward (sb x.1) x.1 y → Forward (sa || (e && sb i)) i (y >>= λ z. Ok (pair x.0 z.0, z.1))
    second (Err h) w = tt
    second (Ok y) w = (omega (arith, p.0, w.0), λ b. later sa e y.1 p.1 w.1 p.0 w.0 b)

alt_forward : (sa sb ea eb : Bool) (i : ℕ) (x y : Answer) (h : Halt) → Forward sa i x → Forward sb i y
    → Forward (sa || sb) i (cond sa (with_left x) (cond sb (with_right y) (cond ea (with_left x) (cond eb (with_right y) (Err h)))))
alt_forward true sb ea eb i (Ok x) y h p q = (p.0, p.1)
alt_forward true sb ea eb i (Err e) y h p q = tt
alt_forward false true ea eb i x (Ok y) h p q = (q.0, q.1)
alt_forward false true ea eb i x (Err e) h p q = tt
alt_forward false false true eb i (Ok x) y h p q = (p.0, λ b. absurd cc)
alt_forward false false true eb i (Err e) y h p q = tt
alt_forward false false false true i x (Ok y) h p q = (q.0, λ b. absurd cc)
alt_forward false false false true i x (Err e) h p q = tt
alt_forward false false false false i x y h p q = tt

token_forward : (b : Bool) (i : ℕ) → Forward b i (cond b (Ok (leaf i, i + 1)) (halt i false))
token_forward true i = (omega arith, λ _. omega arith)
token_forward false i = tt

module _ (ts : List Token) (p : Option Kind → Bool) (f : ℕ → Answer) (past : p None ≡ false) (goes : (j : ℕ) → Forward (p (kind_at ts j)) j (f j)) where
  stands_past : (i : ℕ) → length ts ≤ i → p (kind_at ts i) ≡ false
  stands_past i h = rw (kind_past ts i h) past

  repeat_forward : (n i : ℕ) → length ts ≤ n + i → Forward (p (kind_at ts i)) i (repeat ts p f n i)
  unfolding repeat
  repeat_forward zero i h = (omega arith, λ b. absurd (let e = stands_past i (omega arith) in cc))
  repeat_forward (suc n) i h = go (p (kind_at ts i)) (f i) (goes i) (λ j. repeat_forward n j)
    where
      rest : (x : Tree × ℕ) (y : Answer) → i < x.1 → Forward (p (kind_at ts x.1)) x.1 y → Forward true i (y >>= λ z. Ok (turn x.0 z.0, z.1))
      rest x (Ok y) lt w = (omega (arith, w.0), λ _. omega (arith, w.0))
      rest x (Err e) lt w = tt

      go : (b : Bool) (x : Answer) → Forward b i x → ((j : ℕ) → length ts ≤ n + j → Forward (p (kind_at ts j)) j (repeat ts p f n j)) → Forward b i (cond b (turns x (repeat ts p f n)) (Ok (ended, i)))
      go false x w g = (omega arith, λ b. absurd cc)
      go true (Err e) w g = tt
      go true (Ok x) w g = rest x (repeat ts p f n x.1) (w.1 refl) (g x.1 (omega (arith, w.1 refl)))

  -- more turns than there are tokens change nothing
  repeat_same : (n m i : ℕ) → length ts ≤ n + i → length ts ≤ m + i → repeat ts p f n i ≡ repeat ts p f m i
  unfolding repeat
  repeat_same zero zero i h g = refl
  repeat_same zero (suc m) i h g = rw (stands_past i (omega arith)) refl
  repeat_same (suc n) zero i h g = rw (stands_past i (omega arith)) refl
  repeat_same (suc n) (suc m) i h g = go (p (kind_at ts i)) (f i) (goes i) (λ j. repeat_same n m j)
    where
      go : (b : Bool) (x : Answer) → Forward b i x → ((j : ℕ) → length ts ≤ n + j → length ts ≤ m + j → repeat ts p f n j ≡ repeat ts p f m j)
          → cond b (turns x (repeat ts p f n)) (Ok (ended, i)) ≡ cond b (turns x (repeat ts p f m)) (Ok (ended, i))
      go false x w same = refl
      go true (Err e) w same = refl
      go true (Ok x) w same = ap (λ (y : Answer). y >>= λ z. Ok (turn x.0 z.0, z.1)) (same x.1 (omega (arith, w.1 refl)) (omega (arith, w.1 refl)))

  -- a repetition is its first turn and the turns behind it
  pub repeat_goes : (n i : ℕ) → length ts ≤ n + i → repeat ts p f n i ≡ cond (p (kind_at ts i)) (turns (f i) (λ j. repeat ts p f (length ts - j) j)) (Ok (ended, i))
  unfolding repeat
  repeat_goes zero i h = rw (stands_past i (omega arith)) refl
  repeat_goes (suc n) i h = go (p (kind_at ts i)) (f i) (goes i)
    where
      go : (b : Bool) (x : Answer) → Forward b i x → cond b (turns x (repeat ts p f n)) (Ok (ended, i)) ≡ cond b (turns x (λ j. repeat ts p f (length ts - j) j)) (Ok (ended, i))
      go false x w = refl
      go true (Err e) w = refl
      go true (Ok x) w = ap (λ (y : Answer). y >>= λ z. Ok (turn x.0 z.0, z.1)) (repeat_same n (length ts - x.1) x.1 (omega (arith, w.1 refl)) (omega arith))

-- each symbol takes a token or stops
abbrev pub AllForward : List Token → (Symbol → ℕ → Answer) → Type 0
AllForward ts below = (s : Symbol) (i : ℕ) → Forward true i (below s i)

weaker : (b : Bool) (i : ℕ) (x : Answer) → Forward true i x → Forward b i x
weaker b i (Ok x) w = (w.0, λ _. w.1 refl)
weaker b i (Err e) w = tt

pub reads_forward : (ts : List Token) (below : Symbol → ℕ → Answer) → AllForward ts below → (r : Rule) (i : ℕ) → Forward (starts r (kind_at ts i)) i (reads ts below r i)
unfolding token
reads_forward ts below h (tok k) i = token_forward (has_kind (kind_at ts i) k) i
reads_forward ts below h (sym s) i = weaker (opens s (kind_at ts i)) i (below s i) (h s i)
reads_forward ts below h (a ∙ b) i = both_forward (starts a (kind_at ts i)) (empties a) (λ j. starts b (kind_at ts j)) i (reads ts below a i) (reads ts below b) (reads_forward ts below h a i) (reads_forward ts below h b)
reads_forward ts below h (a ∣ b) i = alt_forward (starts a (kind_at ts i)) (starts b (kind_at ts i)) (empties a) (empties b) i (reads ts below a i) (reads ts below b i) (record { index = i; deep = false }) (reads_forward ts below h a i) (reads_forward ts below h b i)
reads_forward ts below h nothing i = (omega arith, λ b. absurd cc)
reads_forward ts below h (many a) i = repeat_forward ts (starts a) (reads ts below a) (starts-none a) (reads_forward ts below h a) (length ts - i) i (omega arith)

pub symbol_forward : (ts : List Token) (n : ℕ) → AllForward ts (symbol ts n)
unfolding symbol
symbol_forward ts zero s i = tt
symbol_forward ts (suc n) s i = go (opens s (kind_at ts i)) (reads ts (symbol ts n) (rule s) i) refl (reads_forward ts (symbol ts n) (symbol_forward ts n) (rule s) i)
  where
    go : (b : Bool) (x : Answer) → opens s (kind_at ts i) ≡ b → Forward (starts (rule s) (kind_at ts i)) i x → Forward true i (cond b x (halt i false))
    go false x e w = tt
    go true x e w = subst (λ (b : Bool). Forward b i x) (flip (opens_is s (kind_at ts i)) ∘ e) w
