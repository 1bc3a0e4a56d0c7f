use Rattle.std.proofs.Common.{◌≡◌, ◌+◌, ◌≤◌, length, drop}
use Rattle.sve_macro.specs.Template.{needed_of}
use Rattle.sve_macro.proofs.definition.needed.Given as goal

abbrev pub invariant-loop-left : goal.invariant-loop-left
invariant-loop-left l = record {
  within : l.count + l.left ≤ length l.formals;
  same : l.count ≡ needed_of (drop l.left l.formals);
}

abbrev pub decreases-loop-left : goal.decreases-loop-left
decreases-loop-left l = l.left
