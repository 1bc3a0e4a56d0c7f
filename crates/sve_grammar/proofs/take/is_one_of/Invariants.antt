use Rattle.std.proofs.Common.{◌≡◌, drop}
use Rattle.sve_grammar.specs.Token.{kind_at}
use Rattle.sve_grammar.specs.Rule.{is_among}
use Rattle.sve_grammar.proofs.take.is_one_of.Given as goal

abbrev pub invariant-loop-kind : goal.invariant-loop-kind
invariant-loop-kind l = is_among l.kinds (kind_at l.tokens l.at) ≡ is_among (drop l.kind-index l.kinds) (kind_at l.tokens l.at)
