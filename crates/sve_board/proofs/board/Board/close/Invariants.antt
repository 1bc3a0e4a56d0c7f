use Rattle.std.proofs.Common.{◌≡◌, ◌++◌, [], ℕ, List, vec_len}
use Rattle.sve_board.specs.declared.knowledge.ClientView.{ClientView}
use Rattle.sve_board.specs.Knowledge.{writer_view}
use Rattle.sve_board.specs.Values.{PassValue}
use Rattle.sve_board.proofs.EachStep.{AreReturned}
use Rattle.sve_board.proofs.board.Board.close.Given as goal

-- the last passes are with the writer's seat, and the others are left
abbrev pub invariant-loop-pass : goal.invariant-loop-pass
invariant-loop-pass l = (seats : ℕ) × (returned : List ClientView) × (last : List PassValue) × (l.seat.table_id ≡ l.table.shared.table_id) × (l.seat.me ≡ (writer_view seats returned l.fn.writer, []))
    × (l.fn.passes.items ≡ l.passes.items ++ last) × AreReturned last returned

abbrev pub decreases-loop-pass : goal.decreases-loop-pass
decreases-loop-pass l = vec_len l.passes
