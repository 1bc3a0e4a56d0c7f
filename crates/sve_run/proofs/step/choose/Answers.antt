-- The move behind a choice is named; the tests of the turn are the answers of the calls.
use Rattle.std.proofs.Common.{◌++◌, ◌∷◌, [], refl}
use Rattle.sve_grammar.specs.Machine.{first, second}
use Rattle.sve_run.proofs.step.choose.Goals as goal

pub returns-then-can_start : goal.returns-then-can_start
returns-then-can_start c = λ rest ms. (ms ++ first ∷ [], rw (c.requires, ← c.if-can_start.ensures, c.of.ensures.part, c.of.ensures.depth) refl)

pub returns-then-can_start-2 : goal.returns-then-can_start-2
returns-then-can_start-2 c = λ rest ms. (ms ++ second ∷ [], rw (c.requires, ← c.if-can_start.ensures, ← c.if-can_start-2.ensures, c.of-then-can_start-2.ensures.part, c.of-then-can_start-2.ensures.depth) refl)

pub returns-then-can_be_empty : goal.returns-then-can_be_empty
returns-then-can_be_empty c = λ rest ms. (ms ++ first ∷ [], rw (c.requires, ← c.if-can_start.ensures, ← c.if-can_start-2.ensures, ← c.if-can_be_empty.ensures, c.of-then-can_be_empty.ensures.part, c.of-then-can_be_empty.ensures.depth) refl)

pub returns-then-can_be_empty-2 : goal.returns-then-can_be_empty-2
returns-then-can_be_empty-2 c = λ rest ms. (ms ++ second ∷ [], rw (c.requires, ← c.if-can_start.ensures, ← c.if-can_start-2.ensures, ← c.if-can_be_empty.ensures, ← c.if-can_be_empty-2.ensures, c.of-then-can_be_empty-2.ensures.part, c.of-then-can_be_empty-2.ensures.depth) refl)
