use Rattle.std.proofs.Common.{◌≡◌, ◌+◌, ◌<◌, ℕ, List, length, get_or, ◌∙◌, ap, subst, arith}
use Rattle.std.proofs.Crossing.{crosses}
use denote.Param.Send.{sendable}
use Rattle.sve_board.proofs.board.Board.TheSendSync as board
use Rattle.sve_board.proofs.seats.WriterSeat.TheSendSync as writer
use Rattle.sve_board.specs.Values.{PassValue}
use Rattle.sve_memo.proofs.memo.Found.TheSendSync as found
use Rattle.sve_memo.proofs.memo.Memo.TheSendSync as memo
use Rattle.sve_memo.proofs.tree.Tree.TheLaws.TheKnot as memos
use Rattle.sve_clients.proofs.Crossing.{history_send}
use Rattle.sve_clients.specs.Runs.{HasRun, HasDone}
use Rattle.sve_clients.proofs.Places.{passes-length, pass_at, new_ready, new_none, get_read, done, all_done}
use Rattle.sve_clients.proofs.runs.run_at_once.Goals as goal

pub map_vec-requires-after_bounds : goal.map_vec-requires-after_bounds
map_vec-requires-after_bounds g c κs within = λ i x lt at.
    let table = g.P.Plan.board.table in
    let clients : ℕ = g.P.Plan.board.clients in
    let is = pass_at table clients i c.args.passes.items x c.requires.passes lt at in
    let number : x.number ≡ i + 1 = ap (λ (p : PassValue). p.number) is in
    (c.requires.plan, new_ready table (i + 1) x is, new_none table (i + 1) x is, (omega (arith, number), omega (arith, number, lt, ap length c.requires.passes, passes-length table clients)))

-- a client's call shares the session and the client, whatever they are made of
pub map_vec-requires-sync-F : goal.map_vec-requires-sync-F
map_vec-requires-sync-F g c κs within =
    let bounds = c.type_bounds in
    let send-K = bounds.send-K in
    let send-P = bounds.send-P in
    let sync-K = bounds.sync-K in
    let send-Key = bounds.send-K-Key in
    let sync-Key = bounds.sync-K-Key in
    let send-Value = bounds.send-K-Value in
    let sync-Value = bounds.sync-K-Value in
    let sync-P = bounds.sync-P in
    let sync-C = bounds.sync-C in
    let sync-R = bounds.sync-R in
    search (sendable, crosses, board.the_sync, writer.the_send, history_send, found.the_send, found.the_sync, memo.the_send, memo.the_sync, memos.crosses, memos.crosses_both) depth 40 fits 200000

pub returns-clause-count : goal.returns-clause-count
returns-clause-count g c =
    let table = g.P.Plan.board.table in
    let clients : ℕ = g.P.Plan.board.clients in
    omega (arith, c.in_ok-rans.ensures.len, c.in_ok-rans.rans.ok, c.args.passes.ok, ap length c.requires.passes, passes-length table clients)

pub returns-clause-done : goal.returns-clause-done
returns-clause-done g c =
    let table = g.P.Plan.board.table in
    let clients : ℕ = g.P.Plan.board.clients in
    let passes : List PassValue = c.args.passes.items in
    let size : length c.in_ok-rans.rans.items ≡ length passes = omega (arith, c.in_ok-rans.ensures.len, c.in_ok-rans.rans.ok, c.args.passes.ok) in
    let leaves = g.C.Client.leaves c.args.client.now g.P.Plan.opening g.P.Plan.most in
    all_done leaves table 1 c.in_ok-rans.rans.items (λ i ran at.
    let read = get_read c.in_ok-rans.rans.items i ran at in
    let lt : i < length passes = omega (arith, read.0, size) in
    let job = (c.in_ok-rans.ensures.each i ran lt).1 in
    let number : job.job.number ≡ 1 + i = ap (λ (p : PassValue). p.number) (pass_at table clients i passes job.job c.requires.passes lt job.job_read) ∙ omega arith in
    let met : HasRun leaves table job.job (get_or c.in_ok-rans.rans.items i ran) = job.call.met in
    subst (HasDone leaves table (1 + i) 0) read.1 (done leaves table (1 + i) 0 job.job (get_or c.in_ok-rans.rans.items i ran) number (omega arith) met))
