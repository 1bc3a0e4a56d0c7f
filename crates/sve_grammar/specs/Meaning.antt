-- What reading says of the machine (own).
use Rattle.std.specs.Prelude.{ℕ, List, ◌∷◌, ◌++◌, Ok, Err}
use Rattle.sve_token.specs.declared.token.Token.{Token}
use Rattle.sve_grammar.specs.Rule.{Rule}
use Rattle.sve_grammar.specs.Machine.{Cell, cell, Move, State, state, Comes, Stops}
use Rattle.sve_grammar.specs.Reading.{moves, Answer}

-- From this state the machine comes to what lies below, behind the tree's tokens and by its moves; or it stops.
abbrev pub Arrives : List Token → List Cell → List Move → Answer → State → Type 0
Arrives ts rest ms (Ok x) s = Comes ts s (state rest x.1 (ms ++ moves x.0))
Arrives ts rest ms (Err h) s = Stops ts s h

-- So it does from a rule on top of the stack, at a depth.
abbrev pub Runs : List Token → ℕ → Rule → List Cell → ℕ → List Move → Answer → Type 0
Runs ts d r rest i ms read = Arrives ts rest ms read (state (cell r d ∷ rest) i ms)
