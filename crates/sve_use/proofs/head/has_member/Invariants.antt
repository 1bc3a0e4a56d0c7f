-- Selects alone so far.
use Rattle.std.proofs.Common.{◌≡◌, drop}
use Rattle.sve_use.specs.Use.{has_member}
use Rattle.sve_use.proofs.head.has_member.Given as goal

abbrev pub invariant-loop-postfix : goal.invariant-loop-postfix
invariant-loop-postfix l = has_member l.postfixes ≡ has_member (drop l.postfix-index l.postfixes)
