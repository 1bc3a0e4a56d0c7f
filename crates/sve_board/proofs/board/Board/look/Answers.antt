use Rattle.std.proofs.Common.{ap, arith}
use Rattle.sve_board.specs.Knowledge.{pass_in}
use Rattle.sve_board.proofs.EachStep.{one_table, looks_up}
use Rattle.sve_board.proofs.board.Board.look.Goals as goal

pub load-requires : goal.load-requires
load-requires c = (
  one_table (ap (λ v. v.table) c.pass.view_is) c.requires.board c.self.view_is,
  omega (arith, c.self.invariant.1),
  looks_up _ _ _ _ (pass_in c.pass.inside.seat.table_id c.pass.inside.seat.me.0) c.pass.invariant.0,
)
