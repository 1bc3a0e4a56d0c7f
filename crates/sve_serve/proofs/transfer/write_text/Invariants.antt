use Rattle.std.proofs.Common.{length, ◌-◌, ◌≡◌, ◌≤◌, take}
use Rattle.sve_io.specs.Moves.{Gains}
use Rattle.sve_serve.proofs.transfer.write_text.Given as goal

-- what is written is the front of the text, and no fault was counted
abbrev pub invariant-writing : goal.invariant-writing
invariant-writing g l = (l.written ≤ length l.text) × Gains (g.K.Sink.held l.initial.sink) (g.K.Sink.held l.sink) (take l.written l.text)
    × (g.K.Sink.faults l.sink ≡ g.K.Sink.faults l.initial.sink)

abbrev pub decreases-writing : goal.decreases-writing
decreases-writing g l = length l.text - l.written
