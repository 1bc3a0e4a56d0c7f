use Rattle.std.proofs.Common.{◌+◌, ◌≤◌, ℕ, length, Err, sym, ap, subst, arith}
use Rattle.sve_board.specs.Log.{largest}
use Rattle.sve_runner.specs.declared.stop.Stop.TheVariants.{Full}
use Rattle.sve_runner.specs.Told.{answers_by, IsTold}
use Rattle.sve_runner.proofs.Walking.{IsSoFar, command_at, same_stop, told_more, few_so_far, few_then, few_still}
use Rattle.sve_runner.proofs.commands.run_commands.Goals as goal

pub returns-in_err-step-clause-few : goal.returns-in_err-step-clause-few
returns-in_err-step-clause-few g c =
    let answers = answers_by g.K.Key.Ord.cmp g.K.Keyed.given g.K.Kinds.make g.K.Kinds.answers_over in
    let fewer = few_still answers c.args.terms g.P.Plan.opening g.P.Plan.table g.P.Plan.board.table c.args.pass.now.number (largest c.args.pass.now.looks) c.args.commands.now c.loop-j.j c.loop-j.pass c.run_command.new.pass c.loop-j.records.items c.loop-j.invariant c.loop-j-test.true
    c.in_err-step.ensures.unchanged in
    omega (arith, fewer)

pub returns-in_err-step-clause-full : goal.returns-in_err-step-clause-full
returns-in_err-step-clause-full g c = λ is.
    let answers = answers_by g.K.Key.Ord.cmp g.K.Keyed.given g.K.Kinds.make g.K.Kinds.answers_over in
    let fewer = few_still answers c.args.terms g.P.Plan.opening g.P.Plan.table g.P.Plan.board.table c.args.pass.now.number (largest c.args.pass.now.looks) c.args.commands.now c.loop-j.j c.loop-j.pass c.run_command.new.pass c.loop-j.records.items c.loop-j.invariant c.loop-j-test.true
    c.in_err-step.ensures.unchanged in
    let stop = same_stop c.from_residual.result c.in_err-step.field-0.0 Full c.from_residual.ensures.1 is in
    (fewer, c.in_err-step.ensures.full (ap Err stop))

pub returns-in_err-keep-clause-few : goal.returns-in_err-keep-clause-few
returns-in_err-keep-clause-few g c =
    let answers = answers_by g.K.Key.Ord.cmp g.K.Keyed.given g.K.Kinds.make g.K.Kinds.answers_over in
    let so_far = c.loop-j.invariant in
    let command = c.index-commands-j.result in
    let told = subst (λ (n : ℕ). IsTold answers c.args.terms g.P.Plan.opening g.P.Plan.table n (c.loop-j.j + 1) command c.loop-j.pass c.run_command.new.pass c.in_ok-step.step.told) so_far.number c.in_ok-step.ensures.told in
    few_then answers c.args.terms g.P.Plan.opening g.P.Plan.table g.P.Plan.board.table c.args.pass.now.number (largest c.args.pass.now.looks) c.args.commands.now c.loop-j.j c.loop-j.pass c.run_command.new.pass c.loop-j.records.items command c.in_ok-step.step.told so_far c.loop-j-test.true told

pub loop-j-preserved : goal.loop-j-preserved
loop-j-preserved g c =
    let answers = answers_by g.K.Key.Ord.cmp g.K.Keyed.given g.K.Kinds.make g.K.Kinds.answers_over in
    let i : ℕ = c.args.pass.now.number in
    let so_far = c.loop-j.invariant in
    let lt = c.loop-j-test.true in
    let command = c.index-commands-j.result in
    let at = command_at c.args.commands.now c.loop-j.j command lt c.index-commands-j.is in
    let told = subst (λ (n : ℕ). IsTold answers c.args.terms g.P.Plan.opening g.P.Plan.table n (c.loop-j.j + 1) command c.loop-j.pass c.run_command.new.pass c.in_ok-step.step.told) so_far.number c.in_ok-step.ensures.told in
    let next = told_more answers c.args.terms g.P.Plan.opening g.P.Plan.table g.P.Plan.board.table i (largest c.args.pass.now.looks) c.args.commands.now c.loop-j.j c.loop-j.pass c.run_command.new.pass c.loop-j.records.items command c.in_ok-step.step.told so_far lt at
    c.in_ok-step.ensures.later c.in_ok-step.ensures.ready told in
    subst (IsSoFar answers c.args.terms g.P.Plan.opening g.P.Plan.table g.P.Plan.board.table i (largest c.args.pass.now.looks) c.args.commands.now (c.loop-j.j + 1) c.run_command.new.pass) (sym c.in_ok-keep.ensures.records) next

pub returns-clause-few : goal.returns-clause-few
returns-clause-few g c =
    let answers = answers_by g.K.Key.Ord.cmp g.K.Keyed.given g.K.Kinds.make g.K.Kinds.answers_over in
    let within : c.loop-j.j ≤ length c.args.commands.now = omega (arith, c.loop-j.auto) in
    let few = few_so_far answers c.args.terms g.P.Plan.opening g.P.Plan.table g.P.Plan.board.table c.args.pass.now.number (largest c.args.pass.now.looks) c.args.commands.now c.loop-j.j c.loop-j.pass c.loop-j.records.items c.loop-j.invariant within in
    omega (arith, few, within)
