use Rattle.std.proofs.Common.{◌≡◌, ◌++◌, drop}
use Rattle.sve_directive.specs.Define.{joined}
use Rattle.sve_directive.proofs.define.join_lines.Given as goal

abbrev pub invariant-loop-i : goal.invariant-loop-i
invariant-loop-i l = l.out.items ++ joined (drop l.i l.text) ≡ joined l.text
