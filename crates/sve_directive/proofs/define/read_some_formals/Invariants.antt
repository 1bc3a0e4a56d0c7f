use Rattle.std.proofs.Common.{◌≡◌, ◌-◌, ◌≤◌, length, drop}
use Rattle.sve_directive.proofs.FormalLemmas.{all_formals, with_front}
use Rattle.sve_directive.proofs.define.read_some_formals.Given as goal

abbrev pub invariant-formals : goal.invariant-formals
invariant-formals l = record {
  within : l.at ≤ length l.text;
  same : with_front l.found.items l.at (all_formals (drop l.at l.text)) ≡ all_formals l.text;
}

abbrev pub decreases-formals : goal.decreases-formals
decreases-formals l = length l.text - l.at
