-- What the machine says of the tokens of a chunk.
use Rattle.std.specs.Prelude.{ℕ, ◌<◌, false, List, [], ◌∷◌, length, Ok, Err, ◌==◌, ◌≡◌, ◌⊎◌, if◌then◌else◌}
use Rattle.sve_token.specs.declared.token.Token.{Token}
use Rattle.sve_grammar.specs.Items.{chunk}
use Rattle.sve_grammar.specs.Machine.{cell, Move, State, state, Comes, Stops}
use Rattle.sve_grammar.specs.Reading.{Answer}
use Rattle.sve_run.specs.declared.verdict.Verdict.{Verdict}
use Rattle.sve_run.specs.declared.verdict.Verdict.TheVariants.{Accept, Stop}

-- at first the stack holds a chunk, at depth 0, and the next token is the first
abbrev pub start : State
start = state (cell chunk 0 ∷ []) 0 []

-- Accept: the machine comes to the empty stack behind the last token. Stop: it stops there; or it comes to the empty stack in front of a token.
abbrev pub Says : List Token → Verdict → Type 0
Says ts Accept = (ms : List Move) × Comes ts start (state [] (length ts) ms)
Says ts (Stop i deep) = Stops ts start (record { index = i; deep = deep }) ⊎ ((deep ≡ false) × (i < length ts) × ((ms : List Move) × Comes ts start (state [] i ms)))

-- this and nothing else
abbrev pub SaysOnly : List Token → Verdict → Type 0
SaysOnly ts v = Says ts v × ((w : Verdict) → Says ts w → w ≡ v)

-- what follows from what a chunk is read as, of so many tokens
abbrev pub judged : ℕ → Answer → Verdict
judged n (Ok x) = if x.1 == n then Accept else Stop x.1 false
judged n (Err h) = Stop h.index h.deep
