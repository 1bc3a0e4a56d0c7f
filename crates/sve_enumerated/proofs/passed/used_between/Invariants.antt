-- The scope so far, and behind it the tokens that are left, is what all of them leave.
use Rattle.std.proofs.Common.{◌≡◌, ◌+◌, ◌-◌}
use Rattle.sve_enumerated.specs.Passing.{used_from}
use Rattle.sve_enumerated.proofs.passed.used_between.Given as goal

abbrev pub invariant-tokens : goal.invariant-tokens
invariant-tokens l = used_from l.words l.contents l.token (l.until - l.token) ≡ used_from l.words l.fn.contents (l.after + 1) (l.until - (l.after + 1))
