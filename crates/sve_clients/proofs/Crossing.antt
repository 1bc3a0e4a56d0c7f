-- What clients share may cross threads. A history holds trees, and a `search` that goes down through them beside what is known of type parameters runs
-- out of steps; so it is said here once.
use denote.Param.Send.{IsSend, sendable}
use Rattle.std.proofs.Crossing.{crosses}
use Rattle.sve_bytes.proofs.list.List.TheSendSync as list
use Rattle.sve_bytes.proofs.name.Name.TheSendSync as name
use Rattle.sve_rope.proofs.run.Run.TheSendSync as run
use Rattle.sve_rope.proofs.tree.Tree.TheLaws.TheKnot as rope
use Rattle.sve_text.proofs.tree.Tree.TheLaws.TheKnot as tree
use Rattle.sve_history.specs.contracts.history.History as History

pub history_send : IsSend History.the_row
history_send = search (sendable, crosses, list.the_send, name.the_send, name.the_sync, run.the_send, run.the_sync, rope.crosses, rope.crosses_both, tree.crosses, tree.crosses_both) depth 40 fits 200000
