use Rattle.std.proofs.Common.{ℕ, ◌<◌, ◌^◌, ◌∙◌, ap, subst, arith}
use Rattle.sve_value.specs.Numbers.{known_natural}
use Rattle.sve_value.proofs.Views.{width_of, natural_is, natural_none}
use Rattle.sve_value.proofs.bits.Bits.natural.Goals as goal

pub returns-then-self-eq0-clause-natural : goal.returns-then-self-eq0-clause-natural
returns-then-self-eq0-clause-natural c = natural_is c.self.inside.width c.self.inside.signed _ _ c.self.invariant.2 (omega arith) ∙ ap known_natural c.self.view_is

pub returns-then-self-eq0-clause-fits : goal.returns-then-self-eq0-clause-fits
returns-then-self-eq0-clause-fits c = let P : ℕ → Type 0 = λ n. c.self.inside.ones < 2 ^ n in subst P (width_of c.self.inside _ c.self.view_is) c.self.invariant.2

pub returns-else-self-eq0-clause-natural : goal.returns-else-self-eq0-clause-natural
returns-else-self-eq0-clause-natural c = natural_none c.self.inside.width c.self.inside.signed _ _ c.self.invariant.3 (omega arith) ∙ ap known_natural c.self.view_is
