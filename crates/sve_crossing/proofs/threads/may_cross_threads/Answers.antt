use denote.Param.Send.{sendable}
use Rattle.sve_crossing.proofs.Crossing.{value_send, value_sync}
use Rattle.sve_crossing.proofs.threads.may_cross_threads.Goals as goal

pub may_be_shared-requires-send-T : goal.may_be_shared-requires-send-T
may_be_shared-requires-send-T c = search (sendable, value_send) depth 20

pub may_be_shared-requires-sync-T : goal.may_be_shared-requires-sync-T
may_be_shared-requires-sync-T c = search (sendable, value_sync) depth 20
