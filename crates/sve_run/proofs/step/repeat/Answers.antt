use Rattle.std.proofs.Common.{◌++◌, ◌∷◌, [], refl}
use Rattle.sve_grammar.specs.Machine.{more, enough}
use Rattle.sve_run.proofs.step.repeat.Goals as goal

pub returns-then-can_start : goal.returns-then-can_start
returns-then-can_start c = λ rest ms. (ms ++ more ∷ [], rw (c.requires, ← c.if-can_start.ensures, c.of.ensures.part, c.of.ensures.depth) refl)

pub returns-else-can_start : goal.returns-else-can_start
returns-else-can_start c = λ rest ms. (ms ++ enough ∷ [], rw (c.requires, ← c.if-can_start.ensures) refl)
