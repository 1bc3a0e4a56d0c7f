-- What the first chunk has so far, and what goes on, are all of it.
use Rattle.std.proofs.Common.{◌≡◌, ◌+◌, drop}
use Rattle.sve_unit.specs.Chunks.{first_size}
use Rattle.sve_unit.proofs.chunk.chunk_end.Given as goal

abbrev pub invariant-loop-at : goal.invariant-loop-at
invariant-loop-at l = l.from + first_size (drop l.from l.tokens) ≡ l.at + first_size (drop l.at l.tokens)
