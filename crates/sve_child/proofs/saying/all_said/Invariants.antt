-- Those so far are said.
use Rattle.std.proofs.Common.{◌≡◌, take}
use Rattle.sve_child.specs.Saying.{all_said}
use Rattle.sve_child.proofs.saying.all_said.Given as goal

abbrev pub invariant-tokens : goal.invariant-tokens
invariant-tokens l = l.contents ≡ all_said l.words l.code l.fn.contents (take l.token-index l.tokens)
