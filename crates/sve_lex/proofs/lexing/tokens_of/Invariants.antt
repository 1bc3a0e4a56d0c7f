use Rattle.std.proofs.Common.{◌≡◌, ◌+◌, ◌-◌, ◌<◌, ◌≤◌, ◌^◌, ◌++◌, drop, length}
use Rattle.std.specs.List.{All}
use Rattle.sve_origin.specs.Origins.{cells, cells_from, HasOffset}
use Rattle.sve_lex.specs.Pieces.{pieces}
use Rattle.sve_lex.specs.Tokens.{tokens, starts_from}
use Rattle.sve_lex.specs.Spots.{spot_of}
use Rattle.sve_lex.proofs.lexing.tokens_of.Given as goal

abbrev pub invariant-pieces : goal.invariant-pieces
invariant-pieces l = record {
  same : l.out.items ++ tokens (cells_from (spot_of l.cursor l.segments) (drop l.cursor.at l.bytes)) ≡ tokens (cells l.segments l.bytes);
  begun : l.begins.items ++ starts_from l.cursor.at (pieces (drop l.cursor.at l.bytes)) ≡ starts_from 0 (pieces l.bytes);
  within : l.cursor.at ≤ length l.bytes;
  segment : 0 < length l.bytes → l.cursor.segment < length l.segments;
  offset : l.cursor.offset < 2 ^ 32 + l.cursor.at + 1;
  offsets : All HasOffset (cells_from (spot_of l.cursor l.segments) (drop l.cursor.at l.bytes));
}

abbrev pub decreases-pieces : goal.decreases-pieces
decreases-pieces l = length l.initial.bytes - l.cursor.at
