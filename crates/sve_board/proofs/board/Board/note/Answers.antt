use Rattle.std.proofs.Common.{ap, arith}
use Rattle.sve_board.specs.Knowledge.{writer_of}
use Rattle.sve_board.proofs.EachStep.{one_table, notes}
use Rattle.sve_board.proofs.board.Board.note.Goals as goal

pub split_seat-seat-requires : goal.split_seat-seat-requires
split_seat-seat-requires c = (
  one_table (ap (λ v. v.table) c.writer.view_is) c.requires.board c.self.view_is,
  omega (arith, c.self.invariant.1),
  notes _ _ _ _ (writer_of c.writer.inside.seat.table_id c.writer.inside.seat.me.0) (ap (λ me. me.0) c.writer.invariant),
)
