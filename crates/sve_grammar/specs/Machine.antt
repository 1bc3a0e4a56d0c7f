-- The machine of the grammar: a stack of rules, each with its depth, over the tokens (own).
use Rattle.std.specs.Prelude.{ℕ, ◌+◌, Bool, true, false, List, [], ◌∷◌, ◌++◌, ◌==◌, if◌then◌else◌, ◌≡◌}
use Rattle.sve_token.specs.declared.token.Token.{Token}
use Rattle.sve_grammar.specs.Token.{kind_at, has_kind}
use Rattle.sve_grammar.specs.Rule.{Rule, tok, sym, ◌∙◌, ◌∣◌, nothing, many, starts, empties, opens}
use Rattle.sve_grammar.specs.Grammar.{rule}

-- a rule on the stack, and how deep it is
pub record Cell : Type 0 where
  pub what : Rule
  pub depth : ℕ

-- what was chosen: of two rules the first or the second, of a repetition one more turn or its end
pub data Move : Type 0 where
  first : Move
  second : Move
  more : Move
  enough : Move

-- the stack with its top in front, the number of the next token, and the moves up to here
pub record State : Type 0 where
  pub stack : List Cell
  pub index : ℕ
  pub moves : List Move

-- where the machine stops: the number of the next token, and whether only the depth stands against going on
pub record Halt : Type 0 where
  pub index : ℕ
  pub deep : Bool

-- what one step does
pub data Turn : Type 0 where
  on : State → Turn
  stop : Halt → Turn
  -- the stack is empty
  done : Turn

abbrev pub cell : Rule → ℕ → Cell
cell r d = record { what = r; depth = d }

abbrev pub state : List Cell → ℕ → List Move → State
state stack index moves = record { stack = stack; index = index; moves = moves }

abbrev pub go : List Cell → ℕ → List Move → Turn
go stack index moves = on (state stack index moves)

abbrev pub stops : ℕ → Bool → Turn
stops index deep = stop (record { index = index; deep = deep })

-- The step with a rule on top, at depth d, above the rest of the stack. A token is taken where it agrees. Of two rules the one that can begin with
-- the next token is taken, else the one that can be empty, the first before the second. What stands for a symbol is one deeper, and no depth is
-- above 512.
abbrev pub turn : List Token → Rule → ℕ → List Cell → ℕ → List Move → Turn
turn ts (tok k) d rest i ms = if has_kind (kind_at ts i) k then go rest (i + 1) ms else stops i false
turn ts (sym s) d rest i ms =
    if opens s (kind_at ts i)
    then (if d == 512 then stops i true else go (cell (rule s) (d + 1) ∷ rest) i ms)
    else stops i false
turn ts (a ∙ b) d rest i ms = go (cell a d ∷ cell b d ∷ rest) i ms
turn ts (a ∣ b) d rest i ms =
    if starts a (kind_at ts i) then go (cell a d ∷ rest) i (ms ++ first ∷ []) else
    if starts b (kind_at ts i) then go (cell b d ∷ rest) i (ms ++ second ∷ []) else
    if empties a then go (cell a d ∷ rest) i (ms ++ first ∷ []) else
    if empties b then go (cell b d ∷ rest) i (ms ++ second ∷ []) else
    stops i false
turn ts nothing d rest i ms = go rest i ms
turn ts (many a) d rest i ms =
    if starts a (kind_at ts i) then go (cell a d ∷ cell (many a) d ∷ rest) i (ms ++ more ∷ [])
    else go rest i (ms ++ enough ∷ [])

abbrev pub step : List Token → State → Turn
step ts s = next ts s.stack s.index s.moves
  where
    next : List Token → List Cell → ℕ → List Move → Turn
    next ts [] i ms = done
    next ts (c ∷ rest) i ms = turn ts c.what c.depth rest i ms

-- by some steps, or by none, the machine comes from one state to another
pub data Comes (ts : List Token) : State → State → Type 0 where
  here : {s : State} → Comes ts s s
  then : (s next t : State) → step ts s ≡ on next → Comes ts next t → Comes ts s t

-- begun in this state, the machine stops so
pub data Stops (ts : List Token) : State → Halt → Type 0 where
  now : (s : State) (h : Halt) → step ts s ≡ stop h → Stops ts s h
  later : (s next : State) (h : Halt) → step ts s ≡ on next → Stops ts next h → Stops ts s h
