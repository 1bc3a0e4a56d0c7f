use Rattle.std.proofs.Common.{◌≡◌, ◌<◌, ◌≤◌, ap, arith}
use Rattle.sve_store.specs.Snapshots.{SnapshotValue}
use Rattle.sve_watch.proofs.Seen.{stopped_last, saw_nothing, is_stopped, first_above}
use Rattle.sve_watch.proofs.latest.latest_answer.Goals as goal

pub returns-then-newest-revision-clause-looks : goal.returns-then-newest-revision-clause-looks
returns-then-newest-revision-clause-looks g c =
    let at : c.snapshot.result.now.revision ≡ c.args.lent.now.snapshot.revision = ap (λ (s : SnapshotValue). s.revision) c.snapshot.ensures in
    let lt : c.args.lent.now.snapshot.revision < c.look-newest.result = omega (arith, at) in
    stopped_last c.args.pass.now c.looking_answer.new.pass c.look-newest.new.pass c.look-newest.result c.in-Ok.ensures.pass c.look-newest.ensures.looks c.args.lent.now.snapshot.revision lt

pub returns-then-newest-revision-clause-first : goal.returns-then-newest-revision-clause-first
returns-then-newest-revision-clause-first g c =
    let at : c.snapshot.result.now.revision ≡ c.args.lent.now.snapshot.revision = ap (λ (s : SnapshotValue). s.revision) c.snapshot.ensures in
    let lt : c.args.lent.now.snapshot.revision < c.look-newest.result = omega (arith, at) in
    first_above c.args.pass.now c.looking_answer.new.pass c.look-newest.new.pass c.look-newest.result c.in-Ok.ensures.pass c.look-newest.ensures.looks c.args.lent.now.snapshot.revision c.in-Ok.ensures.went lt

pub returns-else-newest-revision-clause-looks : goal.returns-else-newest-revision-clause-looks
returns-else-newest-revision-clause-looks g c =
    let at : c.snapshot.result.now.revision ≡ c.args.lent.now.snapshot.revision = ap (λ (s : SnapshotValue). s.revision) c.snapshot.ensures in
    let le : c.look-newest.result ≤ c.args.lent.now.snapshot.revision = omega (arith, at) in
    saw_nothing c.args.pass.now c.looking_answer.new.pass c.look-newest.new.pass c.look-newest.result c.in-Ok.ensures.pass c.look-newest.ensures.looks c.args.lent.now.snapshot.revision c.in-Ok.ensures.went le

pub returns-in-Err-clause-looks : goal.returns-in-Err-clause-looks
returns-in-Err-clause-looks g c = is_stopped c.args.lent.now.snapshot.revision c.args.pass.now c.looking_answer.new.pass c.in-Err.halt c.in-Err.ensures.pass c.in-Err.ensures.stopped
