-- Where the next parameter halts, all halt: what is left counts at least its nodes.
use Rattle.std.specs.Result.{IsErrAnd}
use Rattle.std.proofs.Common.{◌≡◌, ◌<◌, ℕ, ◌+◌, Ok, Err, Result, arith}
use Rattle.sve_fault.specs.declared.fuel.Fuel.{Fuel}
use Rattle.sve_fault.specs.declared.fuel.Halted.{Halted}
use Rattle.sve_fault.specs.Counts.{Counts, counted_on, excused}
use Rattle.sve_resolve.proofs.Rows.{parameter_counted}
use Rattle.sve_resolve.proofs.resolving.with_parameters.Goals as goal

halts_on : {X : Type 0} (r : Result X Halted) (h : Halted) (old here new : Fuel) (all left now later : ℕ) → IsErrAnd r (λ e. e ≡ h) → here.most ≡ old.most → left ≡ now + later → counted_on here.used left ≡ counted_on old.used all →
    here.most < counted_on here.used now + excused h → Counts r old new all
halts_on (Ok x) h old here new all left now later is most parts same halts = absurd is
halts_on (Err e) h old here new all left now later is most parts same halts = rw is (omega arith)

pub returns-in_err-resolving-clause-count : goal.returns-in_err-resolving-clause-count
returns-in_err-resolving-clause-count g c =
    halts_on c.from_residual.result c.in_err-resolving.field-0.0 c.args.fuel.now c.ports.fuel _ _ _ _ _ c.from_residual.ensures.1 c.ports.invariant.most
    (parameter_counted (g.E.Env.told c.args.env.now) c.args.given.now c.args.ports.now c.ports.port-index c.port-item.result c.ports.resolving c.ports-test.true c.port-item.is)
    c.ports.invariant.counts c.in_err-resolving.ensures.count
