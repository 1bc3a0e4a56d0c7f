use Rattle.std.proofs.Common.{◌≡◌, ◌+◌, []}
use Rattle.sve_board.specs.Knowledge.{opening_view}
use Rattle.sve_board.specs.Values.{new_passes}
use Rattle.sve_board.proofs.board.Board.open.Given as goal

-- so many passes were dealt, behind the writer's seat
abbrev pub invariant-loop-dealt : goal.invariant-loop-dealt
invariant-loop-dealt l = (l.writer.table_id ≡ l.table.shared.table_id) × (l.writer.me ≡ (opening_view l.clients (l.dealt + 1), [])) × (l.passes.items ≡ new_passes l.table.shared.table_id l.dealt)
