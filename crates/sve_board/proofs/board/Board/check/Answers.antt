use Rattle.std.proofs.Common.{ap, arith, ◌≤◌}
use Rattle.sve_board.specs.Knowledge.{writer_of}
use Rattle.sve_board.proofs.EachStep.{one_table, checks}
use Rattle.sve_board.proofs.board.Board.check.Goals as goal

pub load-requires : goal.load-requires
load-requires c =
    let within : c.args.client ≤ c.self.inside.clients = omega (arith, c.requires.client.1, ap (λ v. v.clients) c.self.view_is) in (
      one_table (ap (λ v. v.table) c.writer.view_is) c.requires.board c.self.view_is,
      omega (arith, c.self.invariant.1, within),
      checks _ _ _ _ _ _ (writer_of c.writer.inside.seat.table_id c.writer.inside.seat.me.0) c.writer.invariant (omega (arith, c.self.invariant.0, within)),
    )
