-- What a step does with the entry on top, whatever lies below it.
use Rattle.std.specs.Prelude.{ℕ, ◌+◌, ◌<◌, List, [], ◌∷◌, length, ◌≡◌}
use Rattle.sve_token.specs.declared.token.Token.{Token}
use Rattle.sve_grammar.specs.Machine.{Cell, cell, Move, turn, go, stops}
use Rattle.sve_run.specs.declared.entry.Entry.{Entry}
use Rattle.sve_run.specs.declared.entry.Step.{Step}
use Rattle.sve_run.specs.declared.entry.Step.TheVariants as steps
use Rattle.sve_run.specs.Meaning.{meaning}

-- the rule that an entry stands for, at its depth
abbrev pub cell_of : Entry → Cell
cell_of e = cell (meaning e.part) e.depth

-- the step is the machine's turn
abbrev pub Takes : List Token → Entry → ℕ → Step → Type 0
Takes ts e i steps.Token = (i < length ts) × ((rest : List Cell) (ms : List Move) → turn ts (meaning e.part) e.depth rest i ms ≡ go rest (i + 1) ms)
Takes ts e i steps.Nothing = (rest : List Cell) (ms : List Move) → (after : List Move) × (turn ts (meaning e.part) e.depth rest i ms ≡ go rest i after)
Takes ts e i (steps.One a) = (rest : List Cell) (ms : List Move) → (after : List Move) × (turn ts (meaning e.part) e.depth rest i ms ≡ go (cell_of a ∷ rest) i after)
Takes ts e i (steps.Two a b) = (rest : List Cell) (ms : List Move) → (after : List Move) × (turn ts (meaning e.part) e.depth rest i ms ≡ go (cell_of a ∷ cell_of b ∷ rest) i after)
Takes ts e i (steps.Stop deep) = (rest : List Cell) (ms : List Move) → turn ts (meaning e.part) e.depth rest i ms ≡ stops i deep

-- the cells of a stack, whose top is the last entry
abbrev pub cells_on : List Cell → List Entry → List Cell
cells_on rest [] = rest
cells_on rest (e ∷ es) = cells_on (cell_of e ∷ rest) es
