-- The machine does what reading says, for every rule, above any stack.
use Rattle.std.proofs.Common.{◌≡◌, ℕ, zero, suc, ◌+◌, ◌-◌, ◌<◌, ◌≤◌, Bool, true, false, cond, eqb, List, [], ◌∷◌, ◌++◌, length, Ok, Err, refl, arith, append_assoc}
use Rattle.std.proofs.lemmas.List.{append-nil}
use Rattle.std.proofs.lemmas.Bool.{eq-eqb, eqb-true}
use Rattle.sve_grammar.specs.declared.symbol.Symbol.{Symbol}
use Rattle.sve_token.specs.declared.token.Token.{Token}
use Rattle.sve_grammar.specs.Token.{kind_at, has_kind}
use Rattle.sve_grammar.specs.Rule.{Rule, tok, sym, ◌∙◌, ◌∣◌, nothing, many, starts, empties, opens}
use Rattle.sve_grammar.specs.Grammar.{rule}
use Rattle.sve_grammar.specs.Machine.{Cell, cell, Move, first, second, more, enough, State, state, Halt, on, step, Comes, here, then, Stops, now, later}
use Rattle.sve_grammar.specs.Reading.{Tree, leaf, pair, turn as a_turn, ended, moves, Answer, ◌>>=◌, halt, with_left, with_right, both, turns, repeat, token, reads, symbol, at_depth}
use Rattle.sve_grammar.specs.Meaning.{Arrives, Runs}
use Rattle.sve_grammar.proofs.Forward.{kind_past, starts-none, Forward, reads_forward, symbol_forward}

comes_comes : (ts : List Token) {s t u : State} → Comes ts s t → Comes ts t u → Comes ts s u
comes_comes ts here q = q
comes_comes ts (then s next t e p) q = then s next _ e (comes_comes ts p q)

comes_stops : (ts : List Token) {s t : State} {h : Halt} → Comes ts s t → Stops ts t h → Stops ts s h
comes_stops ts here q = q
comes_stops ts (then s next t e p) q = later s next _ e (comes_stops ts p q)

-- a step in front
stepped : (ts : List Token) (rest : List Cell) (i : ℕ) (ms : List Move) (s next : State) (x : Answer) → step ts s ≡ on next → Arrives ts rest ms x next → Arrives ts rest ms x s
stepped ts rest i ms s next (Ok x) e b = then s next _ e b
stepped ts rest i ms s next (Err h) e b = later s next h e b

module _ (ts : List Token) (d : ℕ) (below : Symbol → ℕ → Answer) where
  abbrev pub RunsAll : Rule → Type 0
  RunsAll r = (rest : List Cell) (i : ℕ) (ms : List Move) → Runs ts d r rest i ms (reads ts below r i)

  token_runs : (k : _) → RunsAll (tok k)
  unfolding token
  token_runs k rest i ms = by_test (has_kind (kind_at ts i) k) refl
    where
      by_test : (b : Bool) → has_kind (kind_at ts i) k ≡ b → Runs ts d (tok k) rest i ms (cond b (Ok (leaf i, i + 1)) (halt i false))
      by_test true e = rw (append-nil ms) (then (state (cell (tok k) d ∷ rest) i ms) (state rest (i + 1) ms) (state rest (i + 1) ms) (rw e refl) here)
      by_test false e = now (state (cell (tok k) d ∷ rest) i ms) (record { index = i; deep = false }) (rw e refl)

  then_runs : (b : Rule) (rest : List Cell) (i : ℕ) (ms : List Move) (s : State) (t : Tree) (j : ℕ) (y : Answer) → Comes ts s (state (cell b d ∷ rest) j (ms ++ moves t)) → Runs ts d b rest j (ms ++ moves t) y
      → Arrives ts rest ms (y >>= λ q. Ok (pair t q.0, q.1)) s
  then_runs b rest i ms s t j (Ok y) p q = rw (← append_assoc ms (moves t) (moves y.0)) (comes_comes ts p q)
  then_runs b rest i ms s t j (Err h) p q = comes_stops ts p q

  both_runs : (a b : Rule) → RunsAll a → RunsAll b → RunsAll (a ∙ b)
  both_runs a b p q rest i ms = stepped ts rest i ms (state (cell (a ∙ b) d ∷ rest) i ms) (state (cell a d ∷ cell b d ∷ rest) i ms) (reads ts below (a ∙ b) i) refl (go_on (reads ts below a i) (p (cell b d ∷ rest) i ms))
    where
      go_on : (x : Answer) → Runs ts d a (cell b d ∷ rest) i ms x → Arrives ts rest ms (both x (reads ts below b)) (state (cell a d ∷ cell b d ∷ rest) i ms)
      go_on (Err h) w = w
      go_on (Ok x) w = then_runs b rest i ms _ x.0 x.1 (reads ts below b x.1) w (q rest x.1 (ms ++ moves x.0))

  left_runs : (a : Rule) (rest : List Cell) (i : ℕ) (ms : List Move) (x : Answer) → Runs ts d a rest i (ms ++ first ∷ []) x → Arrives ts rest ms (with_left x) (state (cell a d ∷ rest) i (ms ++ first ∷ []))
  left_runs a rest i ms (Ok x) w = rw (append_assoc ms (first ∷ []) (moves x.0)) at w
  left_runs a rest i ms (Err h) w = w

  right_runs : (a : Rule) (rest : List Cell) (i : ℕ) (ms : List Move) (x : Answer) → Runs ts d a rest i (ms ++ second ∷ []) x → Arrives ts rest ms (with_right x) (state (cell a d ∷ rest) i (ms ++ second ∷ []))
  right_runs a rest i ms (Ok x) w = rw (append_assoc ms (second ∷ []) (moves x.0)) at w
  right_runs a rest i ms (Err h) w = w

  alt_runs : (a b : Rule) → RunsAll a → RunsAll b → RunsAll (a ∣ b)
  alt_runs a b p q rest i ms = by_test (starts a (kind_at ts i)) (starts b (kind_at ts i)) (empties a) (empties b) refl refl refl refl
    where
      by_test : (sa sb ea eb : Bool) → starts a (kind_at ts i) ≡ sa → starts b (kind_at ts i) ≡ sb → empties a ≡ ea → empties b ≡ eb
          → Arrives ts rest ms (cond sa (with_left (reads ts below a i)) (cond sb (with_right (reads ts below b i)) (cond ea (with_left (reads ts below a i)) (cond eb (with_right (reads ts below b i)) (halt i false))))) (state (cell (a ∣ b) d ∷ rest) i ms)
      by_test true sb ea eb e f g h = stepped ts rest i ms (state (cell (a ∣ b) d ∷ rest) i ms) (state (cell a d ∷ rest) i (ms ++ first ∷ [])) (with_left (reads ts below a i)) (rw e refl) (left_runs a rest i ms (reads ts below a i) (p rest i (ms ++ first ∷ [])))
      by_test false true ea eb e f g h = stepped ts rest i ms (state (cell (a ∣ b) d ∷ rest) i ms) (state (cell b d ∷ rest) i (ms ++ second ∷ [])) (with_right (reads ts below b i)) (rw (e, f) refl) (right_runs b rest i ms (reads ts below b i) (q rest i (ms ++ second ∷ [])))
      by_test false false true eb e f g h = stepped ts rest i ms (state (cell (a ∣ b) d ∷ rest) i ms) (state (cell a d ∷ rest) i (ms ++ first ∷ [])) (with_left (reads ts below a i)) (rw (e, f, g) refl) (left_runs a rest i ms (reads ts below a i) (p rest i (ms ++ first ∷ [])))
      by_test false false false true e f g h = stepped ts rest i ms (state (cell (a ∣ b) d ∷ rest) i ms) (state (cell b d ∷ rest) i (ms ++ second ∷ [])) (with_right (reads ts below b i)) (rw (e, f, g, h) refl) (right_runs b rest i ms (reads ts below b i) (q rest i (ms ++ second ∷ [])))
      by_test false false false false e f g h = now (state (cell (a ∣ b) d ∷ rest) i ms) (record { index = i; deep = false }) (rw (e, f, g, h) refl)

  module _ (a : Rule) (p : RunsAll a) (goes : (j : ℕ) → Forward (starts a (kind_at ts j)) j (reads ts below a j)) where
    enough_runs : (rest : List Cell) (i : ℕ) (ms : List Move) → starts a (kind_at ts i) ≡ false → Comes ts (state (cell (many a) d ∷ rest) i ms) (state rest i (ms ++ enough ∷ []))
    enough_runs rest i ms e = then (state (cell (many a) d ∷ rest) i ms) (state rest i (ms ++ enough ∷ [])) (state rest i (ms ++ enough ∷ [])) (rw e refl) here

    more_runs : (rest : List Cell) (i : ℕ) (ms : List Move) (s : State) (t : Tree) (j : ℕ) (y : Answer) → Comes ts s (state (cell (many a) d ∷ rest) j ((ms ++ more ∷ []) ++ moves t)) → Runs ts d (many a) rest j ((ms ++ more ∷ []) ++ moves t) y
        → Arrives ts rest ms (y >>= λ q. Ok (a_turn t q.0, q.1)) s
    more_runs rest i ms s t j (Ok y) v w =
        let e : ((ms ++ more ∷ []) ++ moves t) ++ moves y.0 ≡ ms ++ (more ∷ (moves t ++ moves y.0)) = simp append_assoc in
        rw (← e) (comes_comes ts v w)
    more_runs rest i ms s t j (Err h) v w = comes_stops ts v w

    repeat_runs : (n : ℕ) (rest : List Cell) (i : ℕ) (ms : List Move) → length ts ≤ n + i → Runs ts d (many a) rest i ms (repeat ts (starts a) (reads ts below a) n i)
    unfolding repeat
    repeat_runs zero rest i ms h = enough_runs rest i ms (rw (kind_past ts i (omega arith)) (starts-none a))
    repeat_runs (suc n) rest i ms h = by_test (starts a (kind_at ts i)) refl (goes i) (λ j le ns. repeat_runs n rest j ns)
      where
        go_on : (x : Answer) → Forward true i x → Runs ts d a (cell (many a) d ∷ rest) i (ms ++ more ∷ []) x
            → ((j : ℕ) → i < j → (ns : List Move) → length ts ≤ n + j → Runs ts d (many a) rest j ns (repeat ts (starts a) (reads ts below a) n j))
            → Arrives ts rest ms (turns x (repeat ts (starts a) (reads ts below a) n)) (state (cell a d ∷ cell (many a) d ∷ rest) i (ms ++ more ∷ []))
        go_on (Err e) f w more_of = w
        go_on (Ok x) f w more_of = more_runs rest i ms (state (cell a d ∷ cell (many a) d ∷ rest) i (ms ++ more ∷ [])) x.0 x.1 (repeat ts (starts a) (reads ts below a) n x.1) w (more_of x.1 (f.1 refl) ((ms ++ more ∷ []) ++ moves x.0) (omega (arith, f.1 refl)))

        by_test : (b : Bool) → starts a (kind_at ts i) ≡ b → Forward b i (reads ts below a i)
            → ((j : ℕ) → i < j → (ns : List Move) → length ts ≤ n + j → Runs ts d (many a) rest j ns (repeat ts (starts a) (reads ts below a) n j))
            → Arrives ts rest ms (cond b (turns (reads ts below a i) (repeat ts (starts a) (reads ts below a) n)) (Ok (ended, i))) (state (cell (many a) d ∷ rest) i ms)
        by_test false e f more_of = enough_runs rest i ms e
        by_test true e f more_of = stepped ts rest i ms (state (cell (many a) d ∷ rest) i ms) (state (cell a d ∷ cell (many a) d ∷ rest) i (ms ++ more ∷ [])) (turns (reads ts below a i) (repeat ts (starts a) (reads ts below a) n)) (rw e refl) (go_on (reads ts below a i) f (p (cell (many a) d ∷ rest) i (ms ++ more ∷ [])) more_of)

  reads_runs : ((s : Symbol) → RunsAll (sym s)) → ((j : ℕ) (r : Rule) → Forward (starts r (kind_at ts j)) j (reads ts below r j)) → (r : Rule) → RunsAll r
  reads_runs h f (tok k) = token_runs k
  reads_runs h f (sym s) = h s
  reads_runs h f (a ∙ b) = both_runs a b (reads_runs h f a) (reads_runs h f b)
  reads_runs h f (a ∣ b) = alt_runs a b (reads_runs h f a) (reads_runs h f b)
  reads_runs h f nothing = λ rest i ms. rw (append-nil ms) (then (state (cell nothing d ∷ rest) i ms) (state rest i ms) (state rest i ms) refl here)
  reads_runs h f (many a) = λ rest i ms. repeat_runs a (reads_runs h f a) (λ j. f j a) (length ts - i) rest i ms (omega arith)

ne-eqb : (a b : ℕ) → (a ≡ b → ⊥) → eqb a b ≡ false
ne-eqb a b f = by_test (eqb a b) refl
  where
    by_test : (c : Bool) → eqb a b ≡ c → c ≡ false
    by_test false e = refl
    by_test true e = absurd (f (eqb-true a b e))

symbol_runs : (ts : List Token) (n d : ℕ) → n + d ≡ 512 → (s : Symbol) → RunsAll ts d (symbol ts n) (sym s)
unfolding symbol
symbol_runs ts zero d e s rest i ms = by_test (opens s (kind_at ts i)) refl
  where
    at_512 : eqb d 512 ≡ true
    at_512 = eq-eqb d 512 (omega arith)

    by_test : (b : Bool) → opens s (kind_at ts i) ≡ b → Stops ts (state (cell (sym s) d ∷ rest) i ms) (record { index = i; deep = opens s (kind_at ts i) })
    by_test true o = now (state (cell (sym s) d ∷ rest) i ms) (record { index = i; deep = opens s (kind_at ts i) }) (rw (o, at_512) refl)
    by_test false o = now (state (cell (sym s) d ∷ rest) i ms) (record { index = i; deep = opens s (kind_at ts i) }) (rw o refl)
symbol_runs ts (suc n) d e s rest i ms = by_test (opens s (kind_at ts i)) refl (reads_runs ts (d + 1) (symbol ts n) (symbol_runs ts n (d + 1) (omega arith)) (λ j r. reads_forward ts (symbol ts n) (symbol_forward ts n) r j) (rule s) rest i ms)
  where
    below_512 : eqb d 512 ≡ false
    below_512 = ne-eqb d 512 (λ q. omega arith)

    by_test : (b : Bool) → opens s (kind_at ts i) ≡ b → Runs ts (d + 1) (rule s) rest i ms (reads ts (symbol ts n) (rule s) i)
        → Arrives ts rest ms (cond b (reads ts (symbol ts n) (rule s) i) (halt i false)) (state (cell (sym s) d ∷ rest) i ms)
    by_test false o w = now (state (cell (sym s) d ∷ rest) i ms) (record { index = i; deep = false }) (rw o refl)
    by_test true o w = stepped ts rest i ms (state (cell (sym s) d ∷ rest) i ms) (state (cell (rule s) (d + 1) ∷ rest) i ms) (reads ts (symbol ts n) (rule s) i) (rw (o, below_512) refl) (kept (reads ts (symbol ts n) (rule s) i) w)
      where
        kept : (x : Answer) → Runs ts (d + 1) (rule s) rest i ms x → Arrives ts rest ms x (state (cell (rule s) (d + 1) ∷ rest) i ms)
        kept (Ok x) v = v
        kept (Err x) v = v

-- at every depth that the machine reaches
pub runs : (ts : List Token) (d : ℕ) → d ≤ 512 → (r : Rule) (rest : List Cell) (i : ℕ) (ms : List Move) → Runs ts d r rest i ms (at_depth ts d r i)
runs ts d h r rest i ms =
    let e : 512 - d + d ≡ 512 = omega arith in
    reads_runs ts d (symbol ts (512 - d)) (symbol_runs ts (512 - d) d e) (λ j q. reads_forward ts (symbol ts (512 - d)) (symbol_forward ts (512 - d)) q j) r rest i ms
