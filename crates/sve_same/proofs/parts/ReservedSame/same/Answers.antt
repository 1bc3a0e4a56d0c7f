use Rattle.std.proofs.Common.{sym, ◌∙◌, rules}
use denote.Enum.Bare.{same_true, true_same}
use Rattle.sve_token.specs.contracts.reserved.Reserved.{the_type}
use Rattle.sve_same.proofs.parts.ReservedSame.same.Goals as goal

pub returns : goal.returns
returns c = (λ is. same_true the_type (search rules) _ _ (sym c.eq.ensures ∙ is), λ e. c.eq.ensures ∙ true_same the_type _ _ e)
