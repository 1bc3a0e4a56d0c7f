-- From the start on the same is in force by the directives that are left as by those that were left at first.
use Rattle.std.proofs.Common.{◌≡◌, ◌≤◌, ◌-◌, ℕ, drop, length}
use Rattle.sve_front.specs.Nets.{net_from}
use Rattle.sve_front.proofs.nets.advance.Given as goal

abbrev pub invariant-named : goal.invariant-named
invariant-named l = (at : ℕ) → l.start ≤ at → net_from l.reached.net (drop l.reached.next l.named) at ≡ net_from l.initial.reached.net (drop l.initial.reached.next l.named) at

abbrev pub decreases-named : goal.decreases-named
decreases-named l = length l.named - l.reached.next
