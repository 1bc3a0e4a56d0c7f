use Rattle.std.proofs.Common.{◌≡◌, length, drop}
use Rattle.sve_operand.specs.Pending.{links_applied}
use Rattle.sve_operand.proofs.evaluation.+evaluation.Given as goal

abbrev pub invariant-chain-links : goal.invariant-chain-links
invariant-chain-links l = record {
  rest_is_whole : links_applied l.width l.signed (drop l.next-index l.links) l.total ≡ links_applied l.width l.signed l.links l.fn.first;
  width : length l.total.bits ≡ l.width;
  sign : l.total.signed ≡ l.signed;
}
