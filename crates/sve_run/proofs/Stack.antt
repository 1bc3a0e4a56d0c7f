-- What the loop over the machine's steps keeps, and that each turn leaves less to do.
use Rattle.std.proofs.Common.{◌≡◌, ℕ, ◌+◌, ◌≤◌, ◌<◌, Bool, false, List, [], ◌∷◌, ◌++◌, length, refl, subst, arith, inl, inr}
use Rattle.sve_token.specs.declared.token.Token.{Token}
use Rattle.sve_grammar.specs.Machine.{Cell, Move, State, state, Halt, Turn, on, stop, step, turn, go, Comes, here, then, Stops, now, later}
use Rattle.sve_grammar.specs.Items.{chunk}
use Rattle.sve_run.specs.declared.entry.Entry.{Entry}
use Rattle.sve_run.specs.declared.entry.Step.TheVariants as steps
use Rattle.sve_run.specs.declared.verdict.Verdict.TheVariants.{Accept, Stop}
use Rattle.sve_run.specs.Meaning.{meaning}
use Rattle.sve_run.specs.Step.{cell_of, Takes, cells_on}
use Rattle.sve_run.specs.Verdict.{start, Says}
use Rattle.sve_run.proofs.Steps.{remaining, fell, Fell}

cells_on-push : (rest : List Cell) (es : List Entry) (e : Entry) → cells_on rest (es ++ e ∷ []) ≡ cell_of e ∷ cells_on rest es
cells_on-push rest [] e = refl
cells_on-push rest (x ∷ xs) e = cells_on-push (cell_of x ∷ rest) xs e

comes_on : (ts : List Token) (s t u : State) → Comes ts s t → step ts t ≡ on u → Comes ts s u
comes_on ts s t u here e = then _ u u e here
comes_on ts s t u (then a next b q p) e = then _ next u q (comes_on ts next t u p e)

comes_stop : (ts : List Token) (s t : State) (h : Halt) → Comes ts s t → step ts t ≡ stop h → Stops ts s h
comes_stop ts s t h here e = now _ h e
comes_stop ts s t h (then a next b q p) e = later _ next h q (comes_stop ts next t h p e)

-- what is left to do of a stack
abbrev pub left_of : List Token → List Entry → ℕ → ℕ
left_of ts stack i = remaining ts (cells_on [] stack) i

-- the machine comes from its start to this stack and this place
pub record Reached (ts : List Token) (stack : List Entry) (i : ℕ) : Type 0 where
  pub moves : List Move
  pub comes : Comes ts start (state (cells_on [] stack) i moves)
  pub within : i ≤ length ts

-- and there is less to do than there was
pub record Nearer (ts : List Token) (stack : List Entry) (i : ℕ) (before : ℕ) : Type 0 where
  pub reached : Reached ts stack i
  pub less : left_of ts stack i < before

pub reached_start : (ts : List Token) (e : Entry) → cell_of e ≡ record { what = chunk; depth = 0 } → Reached ts (e ∷ []) 0
reached_start ts e q = record { moves = []; comes = rw q here; within = omega arith }

module _ (ts : List Token) (stack below : List Entry) (e : Entry) (i : ℕ) (k : Reached ts stack i) (popped : stack ≡ below ++ e ∷ []) where
  opened : Comes ts start (state (cell_of e ∷ cells_on [] below) i k.moves)
  opened = rw (← cells_on-push [] below e, ← popped) k.comes

  all_left : left_of ts stack i ≡ remaining ts (cell_of e ∷ cells_on [] below) i
  all_left = rw (popped, cells_on-push [] below e) refl

  gone : (cells : List Cell) (j : ℕ) (ms : List Move) → turn ts (meaning e.part) e.depth (cells_on [] below) i k.moves ≡ go cells j ms → Comes ts start (state cells j ms) × (remaining ts cells j < left_of ts stack i)
  gone cells j ms q =
      let w : Fell ts (cells_on [] below) (remaining ts (cell_of e ∷ cells_on [] below) i) (go cells j ms) = subst (λ (t : Turn). Fell ts (cells_on [] below) (remaining ts (cell_of e ∷ cells_on [] below) i) t) q (fell ts e.depth e.shallow (cells_on [] below) i k.moves (meaning e.part)) in
      (comes_on ts _ _ (state cells j ms) opened q, omega (arith, w.0, all_left))

  pub after_token : Takes ts e i steps.Token → Nearer ts below (i + 1) (left_of ts stack i)
  after_token t =
      let g = gone (cells_on [] below) (i + 1) k.moves (t.1 (cells_on [] below) k.moves) in
      record { reached = record { moves = k.moves; comes = g.0; within = omega (arith, t.0) }; less = g.1 }

  pub after_nothing : Takes ts e i steps.Nothing → Nearer ts below i (left_of ts stack i)
  after_nothing t =
      let a = t (cells_on [] below) k.moves in
      let g = gone (cells_on [] below) i a.0 a.1 in
      record { reached = record { moves = a.0; comes = g.0; within = k.within }; less = g.1 }

  pub after_one : (x : Entry) → Takes ts e i (steps.One x) → Nearer ts (below ++ x ∷ []) i (left_of ts stack i)
  after_one x t =
      let a = t (cells_on [] below) k.moves in
      let g = gone (cell_of x ∷ cells_on [] below) i a.0 a.1 in
      record { reached = record { moves = a.0; comes = rw (cells_on-push [] below x) g.0; within = k.within }; less = rw (cells_on-push [] below x) g.1 }

  pub after_two : (x y : Entry) → Takes ts e i (steps.Two x y) → Nearer ts ((below ++ y ∷ []) ++ x ∷ []) i (left_of ts stack i)
  after_two x y t =
      let a = t (cells_on [] below) k.moves in
      let g = gone (cell_of x ∷ cell_of y ∷ cells_on [] below) i a.0 a.1 in
      record {
        reached = record { moves = a.0; comes = rw (cells_on-push [] (below ++ y ∷ []) x, cells_on-push [] below y) g.0; within = k.within };
        less = rw (cells_on-push [] (below ++ y ∷ []) x, cells_on-push [] below y) g.1;
      }

  pub after_stop : (deep : Bool) → Takes ts e i (steps.Stop deep) → Says ts (Stop i deep)
  after_stop deep t = inl (comes_stop ts _ _ _ opened (t (cells_on [] below) k.moves))

pub ended_all : (ts : List Token) (stack : List Entry) (i : ℕ) → Reached ts stack i → stack ≡ [] → i ≡ length ts → Says ts Accept
ended_all ts stack i k e q = (k.moves, rw (← q) (rw e at k.comes))

pub ended_early : (ts : List Token) (stack : List Entry) (i : ℕ) → Reached ts stack i → stack ≡ [] → (i ≡ length ts → ⊥) → Says ts (Stop i false)
ended_early ts stack i k e q = inr (refl, omega (arith, k.within, q), (k.moves, rw e at k.comes))
