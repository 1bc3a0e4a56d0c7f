use Rattle.std.proofs.Common.{ap, arith, ◌∙◌}
use Rattle.sve_board.specs.Knowledge.{pass_in, note_in}
use Rattle.sve_board.specs.Steps.{note_taken}
use Rattle.sve_board.proofs.EachStep.{one_table, takes_note, meets}
use Rattle.sve_board.proofs.board.Board.meet.Goals as goal

pub join_seat-requires : goal.join_seat-requires
join_seat-requires c = (
  one_table (ap (λ v. v.table) c.pass.view_is) c.requires.board.0 c.self.view_is,
  one_table (ap (λ v. v.table) c.note.view_is) c.requires.board.1 c.self.view_is,
  ap (λ me. me.1) c.note.invariant,
  omega (arith, c.self.invariant.1),
  takes_note _ _ _ _ _ (pass_in c.pass.inside.seat.table_id c.pass.inside.seat.me.0) (note_in c.note.inside.seat.table_id c.note.inside.seat.me.0)
      (ap (λ me. me.0) c.pass.invariant.0) (ap (λ me. me.0) c.note.invariant),
)

pub load-requires : goal.load-requires
load-requires c =
    let joined = c.join_seat.ensures in (
      joined.0 ∙ one_table (ap (λ v. v.table) c.pass.view_is) c.requires.board.0 c.self.view_is,
      omega (arith, c.self.invariant.1),
      meets _ _ _ _ (pass_in c.pass.inside.seat.table_id c.pass.inside.seat.me.0) (note_in c.note.inside.seat.table_id c.note.inside.seat.me.0)
          (joined.2 ∙ (λ i. (note_taken (c.pass.invariant.0 i).0 (c.note.invariant i).0, (c.pass.invariant.0 i).1))),
    )
