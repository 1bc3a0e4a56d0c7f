use Rattle.std.proofs.Common.{arith}
use Rattle.sve_ask.specs.Sound.{Defined}
use Rattle.sve_ask.proofs.Watching.{no_more, watched_from, ok_never, spare_from}
use Rattle.sve_ask.proofs.Replacing.{makes_of}
use Rattle.sve_ask.proofs.top.brought.Given as given
use Rattle.sve_ask.proofs.top.brought.Goals as goal

abbrev D : (g : given.Over) → Defined g.row.K-Key.Denot g.row.K-Value.Denot
D g = record { cmp = g.K.Key.Ord.cmp; given = g.K.Keyed.given; make = g.K.Kinds.make; ranked = g.K.Keyed.ranked; serves = g.K.Keyed.serves }

pub returns-in_err-value-clause-watch : goal.returns-in_err-value-clause-watch
returns-in_err-value-clause-watch g c = watched_from c.from_residual.result c.in_err-value.field-0.0 c.args.lent.now.snapshot.revision _ _ _ c.from_residual.ensures.1 (no_more _) c.in_err-value.ensures.watch

pub returns-clause-value : goal.returns-clause-value
returns-clause-value g c = (c.in_ok-value.ensures.value.2, c.in_ok-value.ensures.serves)

pub returns-in_err-value-clause-current : goal.returns-in_err-value-clause-current
returns-in_err-value-clause-current g c = λ is. (c.in_err-value.ensures.current is.0.0 is.0.1).0

pub returns-clause-current : goal.returns-clause-current
returns-clause-current g c = λ is. (c.in_ok-value.ensures.current is.0.0 is.0.1).0

pub returns-in_err-value-clause-makes : goal.returns-in_err-value-clause-makes
returns-in_err-value-clause-makes g c = λ set.
    let b = c.in_err-value.ensures.gains set in
    let lose = spare_from c.from_residual.result c.in_err-value.field-0.0 c.from_residual.ensures.1 in
    (b.0, makes_of (D g) _ _ _ _ c.args.fuel _ b.1 (λ k x. x), (let q = b.2 in omega (arith, q, lose)), ok_never _ _ c.from_residual.ensures.0)

pub returns-clause-makes : goal.returns-clause-makes
returns-clause-makes g c = λ set.
    let b = c.in_ok-value.ensures.gains set in
    (b.0, makes_of (D g) _ _ _ _ c.args.fuel _ b.1 (λ k x. x), (let q = b.2 in omega (arith, q)), ((_, b.3), c.in_ok-value.ensures.serving))
