-- How many steps the machine has left: a count beside reading, from which each step takes one.
use Rattle.std.proofs.Common.{◌≡◌, ℕ, zero, suc, ◌+◌, ◌-◌, ◌≤◌, Bool, true, false, cond, List, [], ◌∷◌, ◌++◌, length, Option, None, Ok, Err, refl, ap, arith}
use Rattle.std.specs.Prelude.{if◌then◌else◌, ◌==◌}
use Rattle.sve_token.specs.declared.kind.Kind.{Kind}
use Rattle.sve_token.specs.declared.token.Token.{Token}
use Rattle.sve_grammar.specs.declared.symbol.Symbol.{Symbol}
use Rattle.sve_grammar.specs.Token.{kind_at, has_kind}
use Rattle.sve_grammar.specs.Rule.{Rule, tok, sym, ◌∙◌, ◌∣◌, nothing, many, starts, empties, opens}
use Rattle.sve_grammar.specs.Grammar.{rule}
use Rattle.sve_grammar.specs.Machine.{Cell, cell, Move, first, second, more, enough, State, state, Turn, on, stop, done, step, turn, go, stops}
use Rattle.sve_grammar.specs.Reading.{leaf, pair, ended, turn as a_turn, Answer, ◌>>=◌, halt, with_left, with_right, both, turns, repeat, token, reads, symbol, at_depth}
use Rattle.sve_grammar.proofs.Forward.{kind_past, starts-none, Forward, reads_forward, symbol_forward, repeat_goes}

-- a count of what comes behind an answer
abbrev pub behind : Answer → (ℕ → ℕ) → ℕ
behind (Ok x) f = f x.1
behind (Err h) f = 0

-- a repetition's steps, where it has at most n turns
unfoldable pub repeat_steps : List Token → (Option Kind → Bool) → (ℕ → Answer) → (ℕ → ℕ) → ℕ → ℕ → ℕ
repeat_steps ts p f g zero i = 1
repeat_steps ts p f g (suc n) i = suc (if p (kind_at ts i) then g i + behind (f i) (repeat_steps ts p f g n) else 0)

-- a rule's steps, where it is given what each symbol takes and with how many steps; the one that stops is counted
abbrev pub steps : List Token → (Symbol → ℕ → Answer) → (Symbol → ℕ → ℕ) → Rule → ℕ → ℕ
steps ts below count (tok k) i = 1
steps ts below count (sym s) i = suc (count s i)
steps ts below count (a ∙ b) i = suc (steps ts below count a i + behind (reads ts below a i) (steps ts below count b))
steps ts below count (a ∣ b) i = suc (
    if starts a (kind_at ts i) then steps ts below count a i else
    if starts b (kind_at ts i) then steps ts below count b i else
    if empties a then steps ts below count a i else
    if empties b then steps ts below count b i else
    0)
steps ts below count nothing i = 1
steps ts below count (many a) i = repeat_steps ts (starts a) (reads ts below a) (steps ts below count a) (length ts - i) i

-- a symbol's steps behind its own, where so many depths are left below it
unfoldable pub symbol_steps : List Token → ℕ → Symbol → ℕ → ℕ
symbol_steps ts zero s i = 0
symbol_steps ts (suc n) s i = if opens s (kind_at ts i) then steps ts (symbol ts n) (symbol_steps ts n) (rule s) i else 0

-- a rule's steps at a depth
abbrev pub steps_at : List Token → ℕ → Rule → ℕ → ℕ
steps_at ts d r i = steps ts (symbol ts (512 - d)) (symbol_steps ts (512 - d)) r i

-- a stack's steps: those of its top, and where that is read, those of the rest from there
abbrev pub remaining : List Token → List Cell → ℕ → ℕ
remaining ts [] i = 0
remaining ts (c ∷ rest) i = steps_at ts c.depth c.what i + behind (at_depth ts c.depth c.what i) (remaining ts rest)

-- no cell is deeper than 512
abbrev pub Shallow : List Cell → Type 0
Shallow [] = Unit {0}
Shallow (c ∷ rest) = (c.depth ≤ 512) × Shallow rest

-- where the machine goes on, one step less is left, and no cell gets deeper than 512
abbrev pub Fell : List Token → List Cell → ℕ → Turn → Type 0
Fell ts rest n (on next) = (n ≡ suc (remaining ts next.stack next.index)) × (Shallow rest → Shallow next.stack)
Fell ts rest n (stop h) = Unit {0}
Fell ts rest n done = Unit {0}

-- ---- counts behind answers

behind_more : (x : Answer) (f g : ℕ → ℕ) → behind x f + behind x g ≡ behind x (λ j. f j + g j)
behind_more (Ok x) f g = refl
behind_more (Err h) f g = refl

behind_both : (x : Answer) (f : ℕ → Answer) (g : ℕ → ℕ) → behind (both x f) g ≡ behind x (λ j. behind (f j) g)
behind_both (Err h) f g = refl
behind_both (Ok x) f g = go (f x.1)
  where
    go : (y : Answer) → behind (y >>= λ q. Ok (pair x.0 q.0, q.1)) g ≡ behind y g
    go (Ok y) = refl
    go (Err h) = refl

behind_turns : (x : Answer) (f : ℕ → Answer) (g : ℕ → ℕ) → behind (turns x f) g ≡ behind x (λ j. behind (f j) g)
behind_turns (Err h) f g = refl
behind_turns (Ok x) f g = go (f x.1)
  where
    go : (y : Answer) → behind (y >>= λ q. Ok (a_turn x.0 q.0, q.1)) g ≡ behind y g
    go (Ok y) = refl
    go (Err h) = refl

behind_left : (x : Answer) (g : ℕ → ℕ) → behind (with_left x) g ≡ behind x g
behind_left (Ok x) g = refl
behind_left (Err h) g = refl

behind_right : (x : Answer) (g : ℕ → ℕ) → behind (with_right x) g ≡ behind x g
behind_right (Ok x) g = refl
behind_right (Err h) g = refl

-- ---- a repetition without its fuel

module _ (ts : List Token) (p : Option Kind → Bool) (f : ℕ → Answer) (g : ℕ → ℕ) (past : p None ≡ false) (goes : (j : ℕ) → Forward (p (kind_at ts j)) j (f j)) where
  none_past : (i : ℕ) → length ts ≤ i → p (kind_at ts i) ≡ false
  none_past i h = rw (kind_past ts i h) past

  same_steps : (n m i : ℕ) → length ts ≤ n + i → length ts ≤ m + i → repeat_steps ts p f g n i ≡ repeat_steps ts p f g m i
  unfolding repeat_steps
  same_steps zero zero i h k = refl
  same_steps zero (suc m) i h k = rw (none_past i (omega arith)) refl
  same_steps (suc n) zero i h k = rw (none_past i (omega arith)) refl
  same_steps (suc n) (suc m) i h k = ap suc (by_test (p (kind_at ts i)) (f i) (goes i) (λ j. same_steps n m j))
    where
      by_test : (b : Bool) (x : Answer) → Forward b i x → ((j : ℕ) → length ts ≤ n + j → length ts ≤ m + j → repeat_steps ts p f g n j ≡ repeat_steps ts p f g m j)
          → cond b (g i + behind x (repeat_steps ts p f g n)) 0 ≡ cond b (g i + behind x (repeat_steps ts p f g m)) 0
      by_test false x w same = refl
      by_test true (Err h) w same = refl
      by_test true (Ok x) w same = ap (λ (y : ℕ). g i + y) (same x.1 (omega (arith, w.1 refl)) (omega (arith, w.1 refl)))

  pub repeat_steps_goes : (n i : ℕ) → length ts ≤ n + i → repeat_steps ts p f g n i ≡ suc (cond (p (kind_at ts i)) (g i + behind (f i) (λ j. repeat_steps ts p f g (length ts - j) j)) 0)
  unfolding repeat_steps
  repeat_steps_goes zero i h = rw (none_past i (omega arith)) refl
  repeat_steps_goes (suc n) i h = ap suc (by_test (p (kind_at ts i)) (f i) (goes i))
    where
      by_test : (b : Bool) (x : Answer) → Forward b i x → cond b (g i + behind x (repeat_steps ts p f g n)) 0 ≡ cond b (g i + behind x (λ j. repeat_steps ts p f g (length ts - j) j)) 0
      by_test false x w = refl
      by_test true (Err h) w = refl
      by_test true (Ok x) w = ap (λ (y : ℕ). g i + y) (same_steps n (length ts - x.1) x.1 (omega (arith, w.1 refl)) (omega arith))

-- ---- one step

module _ (ts : List Token) (d : ℕ) (within : d ≤ 512) (rest : List Cell) (i : ℕ) (ms : List Move) where
  abbrev pub FellBy : Rule → Type 0
  FellBy r = Fell ts rest (remaining ts (cell r d ∷ rest) i) (turn ts r d rest i ms)

  token_fell : (k : _) → FellBy (tok k)
  unfolding token
  token_fell k = by_test (has_kind (kind_at ts i) k)
    where
      by_test : (b : Bool) → Fell ts rest (1 + behind (cond b (Ok (leaf i, i + 1)) (halt i false)) (remaining ts rest)) (cond b (go rest (i + 1) ms) (stops i false))
      by_test true = (omega arith, λ s. s)
      by_test false = tt

  then_fell : (a b : Rule) → FellBy (a ∙ b)
  then_fell a b =
      let x = reads ts (symbol ts (512 - d)) a i in
      let e : behind (both x (reads ts (symbol ts (512 - d)) b)) (remaining ts rest) ≡ behind x (λ j. behind (reads ts (symbol ts (512 - d)) b j) (remaining ts rest)) = behind_both x (reads ts (symbol ts (512 - d)) b) (remaining ts rest) in
      let s : behind x (steps_at ts d b) + behind x (λ j. behind (reads ts (symbol ts (512 - d)) b j) (remaining ts rest)) ≡ behind x (remaining ts (cell b d ∷ rest)) = behind_more x (steps_at ts d b) (λ j. behind (reads ts (symbol ts (512 - d)) b j) (remaining ts rest)) in
      (omega arith, λ s. (within, (within, s)))

  alt_fell : (a b : Rule) → FellBy (a ∣ b)
  alt_fell a b = by_test (starts a (kind_at ts i)) (starts b (kind_at ts i)) (empties a) (empties b)
    where
      x : Answer
      x = reads ts (symbol ts (512 - d)) a i

      y : Answer
      y = reads ts (symbol ts (512 - d)) b i

      by_test : (sa sb ea eb : Bool) → Fell ts rest
          (suc (cond sa (steps_at ts d a i) (cond sb (steps_at ts d b i) (cond ea (steps_at ts d a i) (cond eb (steps_at ts d b i) 0))))
          + behind (cond sa (with_left (reads ts (symbol ts (512 - d)) a i)) (cond sb (with_right (reads ts (symbol ts (512 - d)) b i)) (cond ea (with_left (reads ts (symbol ts (512 - d)) a i)) (cond eb (with_right (reads ts (symbol ts (512 - d)) b i)) (halt i false))))) (remaining ts rest))
          (cond sa (go (cell a d ∷ rest) i (ms ++ first ∷ [])) (cond sb (go (cell b d ∷ rest) i (ms ++ second ∷ [])) (cond ea (go (cell a d ∷ rest) i (ms ++ first ∷ [])) (cond eb (go (cell b d ∷ rest) i (ms ++ second ∷ [])) (stops i false)))))
      by_test true sb ea eb = (rw (behind_left (reads ts (symbol ts (512 - d)) a i) (remaining ts rest)) (omega arith), λ s. (within, s))
      by_test false true ea eb = (rw (behind_right (reads ts (symbol ts (512 - d)) b i) (remaining ts rest)) (omega arith), λ s. (within, s))
      by_test false false true eb = (rw (behind_left (reads ts (symbol ts (512 - d)) a i) (remaining ts rest)) (omega arith), λ s. (within, s))
      by_test false false false true = (rw (behind_right (reads ts (symbol ts (512 - d)) b i) (remaining ts rest)) (omega arith), λ s. (within, s))
      by_test false false false false = tt

  many_fell : (a : Rule) → FellBy (many a)
  many_fell a =
      rw (read_once, counted_once) (by_test (starts a (kind_at ts i)))
    where
      f : ℕ → Answer
      f = reads ts (symbol ts (512 - d)) a

      all : ℕ → Answer
      all = reads ts (symbol ts (512 - d)) (many a)

      forward : (j : ℕ) → Forward (starts a (kind_at ts j)) j (f j)
      forward j = reads_forward ts (symbol ts (512 - d)) (symbol_forward ts (512 - d)) a j

      read_once : repeat ts (starts a) (reads ts (symbol ts (512 - d)) a) (length ts - i) i ≡ cond (starts a (kind_at ts i)) (turns (f i) all) (Ok (ended, i))
      read_once = repeat_goes ts (starts a) f (starts-none a) forward (length ts - i) i (omega arith)

      counted_once : repeat_steps ts (starts a) (reads ts (symbol ts (512 - d)) a) (steps_at ts d a) (length ts - i) i ≡ suc (cond (starts a (kind_at ts i)) (steps_at ts d a i + behind (f i) (steps_at ts d (many a))) 0)
      counted_once = repeat_steps_goes ts (starts a) f (steps_at ts d a) (starts-none a) forward (length ts - i) i (omega arith)

      by_test : (b : Bool) → Fell ts rest
          (suc (cond b (steps_at ts d a i + behind (f i) (steps_at ts d (many a))) 0) + behind (cond b (turns (f i) all) (Ok (ended, i))) (remaining ts rest))
          (cond b (go (cell a d ∷ cell (many a) d ∷ rest) i (ms ++ more ∷ [])) (go rest i (ms ++ enough ∷ [])))
      by_test false = (omega arith, λ s. s)
      by_test true =
          let e : behind (turns (f i) all) (remaining ts rest) ≡ behind (f i) (λ j. behind (all j) (remaining ts rest)) = behind_turns (f i) all (remaining ts rest) in
          let s : behind (f i) (steps_at ts d (many a)) + behind (f i) (λ j. behind (all j) (remaining ts rest)) ≡ behind (f i) (remaining ts (cell (many a) d ∷ rest)) = behind_more (f i) (steps_at ts d (many a)) (λ j. behind (all j) (remaining ts rest)) in
          (omega arith, λ h. (within, (within, h)))

  symbol_fell : (s : Symbol) → FellBy (sym s)
  unfolding symbol symbol_steps
  symbol_fell s = by_depth (d == 512) refl
    where
      by_depth : (b : Bool) → (d == 512) ≡ b → Fell ts rest (remaining ts (cell (sym s) d ∷ rest) i) (cond (opens s (kind_at ts i)) (cond b (stops i true) (go (cell (rule s) (d + 1) ∷ rest) i ms)) (stops i false))
      by_depth true e = by_test (opens s (kind_at ts i))
        where
          by_test : (o : Bool) → Fell ts rest (remaining ts (cell (sym s) d ∷ rest) i) (cond o (stops i true) (stops i false))
          by_test true = tt
          by_test false = tt
      by_depth false e = opened (512 - d) (512 - (d + 1)) (omega (arith, different)) refl refl
        where
          different : d ≡ 512 → ⊥
          different q = absurd (let k : (d == 512) ≡ true = rw q refl in cc)

          opened : (m n : ℕ) → m ≡ suc n → 512 - d ≡ m → 512 - (d + 1) ≡ n → Fell ts rest (remaining ts (cell (sym s) d ∷ rest) i) (cond (opens s (kind_at ts i)) (go (cell (rule s) (d + 1) ∷ rest) i ms) (stops i false))
          opened m n q u v = rw (u, q) (by_test (opens s (kind_at ts i)))
            where
              by_test : (o : Bool) → Fell ts rest
                  (suc (cond o (steps ts (symbol ts n) (symbol_steps ts n) (rule s) i) 0) + behind (cond o (reads ts (symbol ts n) (rule s) i) (halt i false)) (remaining ts rest))
                  (cond o (go (cell (rule s) (d + 1) ∷ rest) i ms) (stops i false))
              by_test true = (rw v (omega arith), λ h. (omega (arith, different), h))
              by_test false = tt

  pub fell : (r : Rule) → FellBy r
  fell (tok k) = token_fell k
  fell (sym s) = symbol_fell s
  fell (a ∙ b) = then_fell a b
  fell (a ∣ b) = alt_fell a b
  fell nothing = (omega arith, λ s. s)
  fell (many a) = many_fell a

-- the machine's step, on any stack that is not too deep
pub falls : (ts : List Token) (s next : State) → Shallow s.stack → step ts s ≡ on next → (remaining ts s.stack s.index ≡ suc (remaining ts next.stack next.index)) × Shallow next.stack
falls ts s next h e = go s.stack s.index s.moves h e
  where
    go_on : (rest : List Cell) (n : ℕ) (t : Turn) → Shallow rest → Fell ts rest n t → t ≡ on next → (n ≡ suc (remaining ts next.stack next.index)) × Shallow next.stack
    go_on rest n (on t) k w q = let same : t ≡ next = cc in rw (← same) (w.0, w.1 k)
    go_on rest n (stop h) k w q = absurd cc
    go_on rest n done k w q = absurd cc

    go : (stack : List Cell) (i : ℕ) (ms : List Move) → Shallow stack → step ts (state stack i ms) ≡ on next → (remaining ts stack i ≡ suc (remaining ts next.stack next.index)) × Shallow next.stack
    go [] i ms k q = absurd cc
    go (c ∷ rest) i ms k q = go_on rest (remaining ts (c ∷ rest) i) (turn ts c.what c.depth rest i ms) k.1 (fell ts c.depth k.0 rest i ms c.what) q
