use Rattle.std.proofs.Common.{◌≡◌, ◌+◌, ◌*◌, drop, length}
use Rattle.sve_literal.specs.Strings.{joined}
use Rattle.sve_literal.proofs.text.joined.Given as goal

abbrev pub invariant-bytes : goal.invariant-bytes
invariant-bytes l = record {
  rest_is_whole : joined l.value (drop l.byte-index l.bytes) ≡ joined l.fn.value l.bytes;
  fits : length l.value.bits ≡ length l.fn.value.bits + 8 * l.byte-index;
}
