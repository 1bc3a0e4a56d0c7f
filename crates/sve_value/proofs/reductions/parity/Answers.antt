use Rattle.std.proofs.Common.{◌∙◌, ap, sym, arith}
use Rattle.sve_value.specs.Vector.{Vector}
use Rattle.sve_value.specs.Truths.{parity}
use Rattle.sve_value.proofs.Folds.{parity-unknown, parity-odd, parity-even}
use Rattle.sve_value.proofs.reductions.parity.Goals as goal

pub returns-then-a-ne0 : goal.returns-then-a-ne0
returns-then-a-ne0 c = sym (parity-unknown _ c.a.inside.ones c.a.inside.unknowns c.a.invariant.3 (omega arith)) ∙ ap (λ (v : Vector). parity v.bits) c.a.view_is

pub returns-then-a-eq1 : goal.returns-then-a-eq1
returns-then-a-eq1 c = parity-odd _ c.a.inside.ones c.a.inside.unknowns c.a.invariant.2 (omega arith) c.if-a-eq1.true ∙ ap (λ (v : Vector). parity v.bits) c.a.view_is

pub returns-else-a-eq1 : goal.returns-else-a-eq1
returns-else-a-eq1 c = parity-even _ c.a.inside.ones c.a.inside.unknowns c.a.invariant.2 (omega arith) (omega arith) ∙ ap (λ (v : Vector). parity v.bits) c.a.view_is
