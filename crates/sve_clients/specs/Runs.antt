-- What clients leave of a session, and the order in which they run (own).
use Rattle.std.specs.Prelude.{ℕ, ◌≡◌, ◌+◌, ◌≤◌, ◌⊎◌, List, [], ◌∷◌, ◌++◌, length}
use Rattle.sve_board.specs.Log.{largest}
use Rattle.sve_board.specs.Values.{PassValue, TableId}
use Rattle.sve_history.specs.Histories.{HistoryValue}
use Rattle.sve_session.specs.Passes.{IsReady, HasGoneOn}
use Rattle.sve_session.specs.Ends.{EndsPass}
use Rattle.sve_clients.specs.declared.client.Ran.{Ran}
use Rattle.sve_clients.specs.declared.runs.Order.{Order}
use Rattle.sve_clients.specs.declared.runs.Order.TheVariants.{AtOnce, InTurn}

abbrev pub pass_of : {X : Type 0} → Ran X → PassValue
pass_of ran = ran.pass

abbrev pub left_of : {X : Type 0} → Ran X → X
left_of ran = ran.left

-- A front is a length of the history that a client was told of: it begins at one, and is told of none below it. The client that comes next begins at that
-- with which the one before it ended where they run one after another, else at 0.
abbrev pub next_front : Order → ℕ → ℕ
next_front AtOnce front = 0
next_front InTurn front = front

module _ {X : Type 0} (leaves : ℕ → ℕ → PassValue → X → Type 0) where
  -- a client ran to its end, from a pass that knew this: it did so at each front that this pass reached
  pub record HasRun (board : TableId) (before : PassValue) (ran : Ran X) : Type 0 where
    pub ready : IsReady board ran.pass
    pub who : ran.pass.number ≡ before.number
    pub does : (front : ℕ) → front ≤ largest before.looks → leaves before.number front ran.pass ran.left

  -- the client of this number ran to its end from this front, and its pass may have met more since
  pub record HasDone (board : TableId) (number front : ℕ) (ran : Ran X) : Type 0 where
    pub pass : PassValue
    pub who : pass.number ≡ number
    pub since : HasGoneOn board pass ran.pass
    pub does : (from : ℕ) → from ≤ front → leaves number from pass ran.left

  -- so did those from this one on, in this order
  abbrev pub HaveDone : Order → TableId → ℕ → ℕ → List (Ran X) → Type 0
  HaveDone order board number front [] = Unit {0}
  HaveDone order board number front (ran ∷ rans) = (one : HasDone board number front ran) × HaveDone order board (number + 1) (next_front order (largest one.pass.looks)) rans

  -- clients ran in turn up to this one, behind these
  pub record IsTurn (board : TableId) (rans : List (Ran X)) (last : Ran X) : Type 0 where
    pub front : ℕ
    pub one : HasDone board (length rans + 1) front last
    pub before : (more : List (Ran X)) → HaveDone InTurn board (length rans + 1) front more → HaveDone InTurn board 1 0 (rans ++ more)

  -- these clients ran in turn
  abbrev pub AreTurns : TableId → List (Ran X) → Type 0
  AreTurns board rans = (rans ≡ []) ⊎ ((before : List (Ran X)) × (last : Ran X) × (rans ≡ before ++ last ∷ []) × IsTurn board before last)

  -- this is what the client of this number left, which began at this front, beside a pass that ends with the history
  pub record HasLeft (history : HistoryValue) (number front : ℕ) (left : X) : Type 0 where
    pub pass : PassValue
    pub who : pass.number ≡ number
    pub ends : EndsPass history pass
    pub does : (from : ℕ) → from ≤ front → leaves number from pass left

  -- and this is what those from this one on left, in this order
  abbrev pub HaveLeft : Order → HistoryValue → ℕ → ℕ → List X → Type 0
  HaveLeft order history number front [] = Unit {0}
  HaveLeft order history number front (left ∷ lefts) = (one : HasLeft history number front left) × HaveLeft order history (number + 1) (next_front order (largest one.pass.looks)) lefts
