-- The tokens so far, and those of the nets that are left, are all of them.
use Rattle.std.proofs.Common.{◌≡◌, ◌++◌, drop, map}
use Rattle.sve_instance.specs.Around.{token_of_net}
use Rattle.sve_instance.proofs.known.tokens_of.Given as goal

abbrev pub invariant-loop-net : goal.invariant-loop-net
invariant-loop-net l = l.tokens.items ++ map token_of_net (drop l.net-index l.nets) ≡ map token_of_net l.nets
