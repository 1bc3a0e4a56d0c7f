-- The net types at the starts so far, then those at the others, are those at all; and what is left of the directives.
use Rattle.std.proofs.Common.{◌≡◌, ◌++◌, drop}
use Rattle.sve_front.specs.Nets.{nets_at}
use Rattle.sve_front.proofs.Directives.{IsLeft}
use Rattle.sve_front.proofs.nets.nets_at.Given as goal

abbrev pub invariant-starts : goal.invariant-starts
invariant-starts l = record {
  nets : l.nets.items ++ nets_at l.named (drop l.start-index l.starts) ≡ nets_at l.named l.starts;
  left : IsLeft l.named (drop l.start-index l.starts) l.reached.net l.reached.next;
}
