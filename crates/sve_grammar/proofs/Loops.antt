-- A repetition turn by turn, and what a loop that reads it keeps.
use Rattle.std.proofs.Common.{◌≡◌, ℕ, ◌-◌, ◌≤◌, true, false, cond, List, length, Ok, Err, refl, sym as flip, ap, ◌∙◌ as ◌∘◌, arith}
use Rattle.sve_token.specs.declared.token.Token.{Token}
use Rattle.sve_grammar.specs.declared.stop.Stop.{Stop}
use Rattle.sve_grammar.specs.declared.stop.Stop.TheVariants.{At, NoMemory}
use Rattle.sve_grammar.specs.Token.{kind_at}
use Rattle.sve_grammar.specs.Rule.{Rule, many, starts}
use Rattle.sve_grammar.specs.Reading.{Tree, leaf, none, pair, left, right, turn, ended, joined, Answer, ◌>>=◌, both, turns, reads, symbol}
use Rattle.sve_grammar.specs.Gives.{Fails}
use Rattle.sve_grammar.proofs.Forward.{starts-none, reads_forward, symbol_forward, repeat_goes}

-- without a count: one turn and the repetition again, while the rule begins
pub many_goes : (ts : List Token) (d : ℕ) (a : Rule) (i : ℕ) → reads ts (symbol ts d) (many a) i
    ≡ cond (starts a (kind_at ts i)) (turns (reads ts (symbol ts d) a i) (reads ts (symbol ts d) (many a))) (Ok (ended, i))
many_goes ts d a i = repeat_goes ts (starts a) (reads ts (symbol ts d) a) (starts-none a) (reads_forward ts (symbol ts d) (symbol_forward ts d) a) (length ts - i) i (omega arith)

-- a reading in front of which some turns were taken already
unfoldable pub extend : Tree → Answer → Answer
extend front read = read >>= λ x. Ok (joined front x.0, x.1)

pub joined_assoc : (t u v : Tree) → joined (joined t u) v ≡ joined t (joined u v)
joined_assoc (leaf i) u v = refl
joined_assoc none u v = refl
joined_assoc (pair a t) u v = ap (λ (x : Tree). pair a x) (joined_assoc t u v)
joined_assoc (left t) u v = refl
joined_assoc (right t) u v = refl
joined_assoc (turn a t) u v = ap (λ (x : Tree). turn a x) (joined_assoc t u v)
joined_assoc ended u v = refl

pub extend_none : (read : Answer) → extend ended read ≡ read
unfolding extend
extend_none (Ok x) = refl
extend_none (Err e) = refl

extend_turns : (front x : Tree) (j : ℕ) (f : ℕ → Answer) → extend front (turns (Ok (x, j)) f) ≡ extend (joined front (turn x ended)) (f j)
unfolding extend
extend_turns front x j f = rest (f j)
  where
    rest : (y : Answer) → extend front (y >>= λ q. Ok (turn x q.0, q.1)) ≡ extend (joined front (turn x ended)) y
    rest (Ok y) = ap (λ (t : Tree). let r : Answer = Ok (t, y.1) in r) (flip (joined_assoc front (turn x ended) y.0))
    rest (Err e) = refl

extend_ok : (front : Tree) (i : ℕ) → joined front ended ≡ front → extend front (Ok (ended, i)) ≡ Ok (front, i)
unfolding extend
extend_ok front i e = ap (λ (t : Tree). let r : Answer = Ok (t, i) in r) e

module _ (ts : List Token) (d : ℕ) (a : Rule) (front : Tree) (i : ℕ) (total : Answer) (kept : extend front (reads ts (symbol ts d) (many a) i) ≡ total) where
  pub loop_goes_on : (x : Tree) (j : ℕ) → starts a (kind_at ts i) ≡ true → reads ts (symbol ts d) a i ≡ Ok (x, j)
      → extend (joined front (turn x ended)) (reads ts (symbol ts d) (many a) j) ≡ total
  loop_goes_on x j s r =
      let one : extend front (reads ts (symbol ts d) (many a) i) ≡ extend (joined front (turn x ended)) (reads ts (symbol ts d) (many a) j) = rw (many_goes ts d a i, s, r) (extend_turns front x j (reads ts (symbol ts d) (many a))) in
      flip one ∘ kept

  pub loop_ends : starts a (kind_at ts i) ≡ false → joined front ended ≡ front → total ≡ Ok (front, i)
  loop_ends s e =
      let one : extend front (reads ts (symbol ts d) (many a) i) ≡ Ok (front, i) = rw (many_goes ts d a i, s) (extend_ok front i e) in
      flip kept ∘ one

  pub loop_fails : (e : Stop) → starts a (kind_at ts i) ≡ true → Fails e (reads ts (symbol ts d) a i) → Fails e total
  unfolding extend
  loop_fails NoMemory s r = tt
  loop_fails (At index deep) s r =
      let one : extend front (reads ts (symbol ts d) (many a) i) ≡ Err (record { index = index; deep = deep }) = rw (many_goes ts d a i, s, r) refl in
      flip kept ∘ one

-- What a loop over the turns of a repetition keeps: the turns that it took, and the reading from its place on, are the reading of the whole.
pub record Keeps (ts : List Token) (d : ℕ) (a : Rule) (front : Tree) (i : ℕ) (total : Answer) : Type 0 where
  pub kept : extend front (reads ts (symbol ts (512 - d)) (many a) i) ≡ total
  pub within : i ≤ length ts

-- at first no turn was taken
pub keeps_init : (ts : List Token) (d : ℕ) (a : Rule) (front : Tree) (i : ℕ) → front ≡ ended → i ≤ length ts → Keeps ts d a front i (reads ts (symbol ts (512 - d)) (many a) i)
keeps_init ts d a front i e w = record { kept = rw e (extend_none (reads ts (symbol ts (512 - d)) (many a) i)); within = w }

-- one turn more
pub keeps_on : (ts : List Token) (d : ℕ) (a : Rule) (front : Tree) (i : ℕ) (total : Answer) (x : Tree) (j : ℕ) (front' : Tree) → Keeps ts d a front i total
    → starts a (kind_at ts i) ≡ true → reads ts (symbol ts (512 - d)) a i ≡ Ok (x, j) → front' ≡ joined front (turn x ended) → j ≤ length ts → Keeps ts d a front' j total
keeps_on ts d a front i total x j front' k s r e w = record { kept = rw e (loop_goes_on ts (512 - d) a front i total k.kept x j s r); within = w }

-- the repetition ends
pub keeps_end : (ts : List Token) (d : ℕ) (a : Rule) (front : Tree) (i : ℕ) (total : Answer) → Keeps ts d a front i total → starts a (kind_at ts i) ≡ false → joined front ended ≡ front → total ≡ Ok (front, i)
keeps_end ts d a front i total k s e = loop_ends ts (512 - d) a front i total k.kept s e

-- the machine stops in a turn
pub keeps_fails : (ts : List Token) (d : ℕ) (a : Rule) (front : Tree) (i : ℕ) (total : Answer) → Keeps ts d a front i total → (e : Stop) → starts a (kind_at ts i) ≡ true → Fails e (reads ts (symbol ts (512 - d)) a i) → Fails e total
keeps_fails ts d a front i total k e s r = loop_fails ts (512 - d) a front i total k.kept e s r

-- an operand that was read, in front of the repetition
pub chain_begins : (ts : List Token) (d : ℕ) (a : Rule) (front x : Tree) (j : ℕ) → front ≡ pair x ended → j ≤ length ts
    → Keeps ts d a front j (both (Ok (x, j)) (λ i. reads ts (symbol ts (512 - d)) (many a) i))
unfolding extend
chain_begins ts d a front x j e w = record { kept = rw e (same (reads ts (symbol ts (512 - d)) (many a) j)); within = w }
  where
    same : (y : Answer) → extend (pair x ended) y ≡ (y >>= λ q. Ok (pair x q.0, q.1))
    same (Ok y) = refl
    same (Err e) = refl
