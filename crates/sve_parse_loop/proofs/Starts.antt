-- What steps begin with, as the code asks for it.
use Rattle.std.proofs.Common.{◌≡◌, [], ◌∷◌, Option}
use Rattle.sve_token.specs.declared.kind.Kind.{Kind}
use Rattle.sve_token.specs.declared.kind.Kind.TheVariants.{PlusPlus, MinusMinus, Identifier}
use Rattle.sve_grammar.specs.Token.{has_kind}
use Rattle.sve_grammar.specs.Rule.{starts, is_among}
use Rattle.sve_grammar.specs.Statements.{for_steps}
use Rattle.sve_grammar.proofs.Begins.{or_none}
use Rattle.sve_grammar.proofs.StartsOfStatements.{for_steps_starts}

pub for_steps_begins : (k : Option Kind) → starts for_steps k ≡ is_among (PlusPlus ∷ MinusMinus ∷ Identifier ∷ []) k
for_steps_begins k = rw (or_none (has_kind k Identifier)) (for_steps_starts k)
