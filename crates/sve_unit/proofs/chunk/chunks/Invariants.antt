-- The chunks so far, then those of the tokens that are left, are all chunks.
use Rattle.std.proofs.Common.{◌≡◌, ◌-◌, ◌++◌, ◌≤◌, drop, length}
use Rattle.sve_unit.specs.Chunks.{parts, spans, chunks_of}
use Rattle.sve_unit.proofs.chunk.chunks.Given as goal

abbrev pub invariant-cut : goal.invariant-cut
invariant-cut l = (l.chunks.items ++ spans l.from (parts (drop l.from l.tokens)) ≡ chunks_of l.tokens) × (l.from ≤ length l.tokens)

abbrev pub decreases-cut : goal.decreases-cut
decreases-cut l = length l.tokens - l.from
