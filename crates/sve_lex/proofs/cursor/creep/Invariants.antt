use Rattle.std.proofs.Common.{◌≡◌, ◌+◌, ◌<◌, ◌^◌, ◌&&◌, length}
use Rattle.sve_lex.specs.Spots.{spot_of, steps, goes_on_for}
use Rattle.sve_lex.proofs.cursor.creep.Given as goal

abbrev pub invariant-bytes : goal.invariant-bytes
invariant-bytes l = record {
  spot : steps l.left (spot_of l.cursor l.segments) ≡ steps l.n (spot_of l.fn.from l.segments);
  copied : (l.copied && goes_on_for l.left (spot_of l.cursor l.segments)) ≡ (l.fn.from.copied && goes_on_for l.n (spot_of l.fn.from l.segments));
  at : l.cursor.at + l.left ≡ l.fn.from.at + l.n;
  segment : l.cursor.segment < length l.segments;
  offset : l.cursor.offset < 2 ^ 32 + l.cursor.at + 1;
}

abbrev pub decreases-bytes : goal.decreases-bytes
decreases-bytes l = l.left
