use Rattle.std.proofs.Common.{◌/◌}
use Rattle.sve_told.specs.Made.{Done}
use Rattle.sve_toy.specs.declared.kinds.Key.TheVariants.{Length, Pairs}
use Rattle.sve_toy.proofs.Halting.{halts_at}
use Rattle.sve_toy.proofs.kinds.ToyKinds.compute.Goals as goal

pub returns-in_err-value-in-Pairs-clause-halted : goal.returns-in_err-value-in-Pairs-clause-halted
returns-in_err-value-in-Pairs-clause-halted g c = λ told same none j halted. (
  c.from_residual.ensures.0,
  rw c.in-Pairs.is (halts_at (g.F.Fetch.tells c.args.from.now) told _ Length c.fetch.result j (λ n. Done (n / 2)) same none (c.fetch.ensures.halted j halted)),
)

pub returns-in_err-value-in-Quads-clause-halted : goal.returns-in_err-value-in-Quads-clause-halted
returns-in_err-value-in-Quads-clause-halted g c = λ told same none j halted. (
  c.from_residual-in_err-value-in-Quads.ensures.0,
  rw c.in-Quads.is (halts_at (g.F.Fetch.tells c.args.from.now) told _ Pairs c.fetch-in-Quads.result j (λ n. Done (n / 2)) same none (c.fetch-in-Quads.ensures.halted j halted)),
)
