use Rattle.std.proofs.Common.{length, ◌-◌, ◌≡◌, ◌≤◌, vec_len}
use Rattle.sve_io.specs.Moves.{Loses}
use Rattle.sve_serve.proofs.transfer.read_session.Given as goal

-- the bytes so far are those that the source lost, and no fault was counted
abbrev pub invariant-reading : goal.invariant-reading
invariant-reading g l = (vec_len l.bytes ≤ 16777217) × Loses (g.S.Source.left l.initial.source) (g.S.Source.left l.source) l.bytes.items
    × (g.S.Source.faults l.source ≡ g.S.Source.faults l.initial.source) × (length l.buffer ≡ 4096)

abbrev pub decreases-reading : goal.decreases-reading
decreases-reading g l = 16777217 - vec_len l.bytes
