use Rattle.std.proofs.Common.{ap, sym, subst, ◌<◌}
use Rattle.sve_board.specs.Knowledge.{pass_in}
use Rattle.sve_board.specs.Values.{TableId, PassValue}
use Rattle.sve_board.proofs.EachStep.{one_table, raises}
use Rattle.sve_board.proofs.board.Board.raise.Goals as goal

pub fetch_add-requires : goal.fetch_add-requires
fetch_add-requires c =
    let table = one_table (ap (λ v. v.table) c.pass.view_is) c.requires.board c.self.view_is in
    let known = c.pass.invariant in (
      table,
      subst (λ (t : TableId). c.pass.inside.number < t.words) table known.3,
      raises _ _ _ _ _ (pass_in c.pass.inside.seat.table_id c.pass.inside.seat.me.0) known.0 known.1
          (subst (λ (v : PassValue). v.raises < 9223372036854775808) (sym c.pass.view_is) c.requires.room),
    )
