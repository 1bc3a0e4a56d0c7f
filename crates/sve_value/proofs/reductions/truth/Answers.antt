use Rattle.std.proofs.Common.{◌∙◌, ap, arith}
use Rattle.sve_value.specs.Truths.{truth_of}
use Rattle.sve_value.proofs.Folds.{is_true, is_false, is_neither}
use Rattle.sve_value.proofs.reductions.truth.Goals as goal

pub returns-then-a-ne0 : goal.returns-then-a-ne0
returns-then-a-ne0 c = is_true _ c.a.inside.ones c.a.inside.unknowns c.a.invariant.1 c.a.invariant.2 c.a.invariant.3 (omega arith) ∙ ap truth_of c.a.view_is

pub returns-then-a-eq0 : goal.returns-then-a-eq0
returns-then-a-eq0 c = is_false _ c.a.inside.ones c.a.inside.unknowns c.a.invariant.1 c.a.invariant.2 (omega arith) (omega arith) ∙ ap truth_of c.a.view_is

pub returns-else-a-eq0 : goal.returns-else-a-eq0
returns-else-a-eq0 c = is_neither _ c.a.inside.ones c.a.inside.unknowns c.a.invariant.1 c.a.invariant.2 c.a.invariant.3 (omega arith) (omega arith) ∙ ap truth_of c.a.view_is
