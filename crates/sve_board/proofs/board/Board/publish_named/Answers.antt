use Rattle.std.proofs.Common.{ap, arith, sym, subst, length, ℕ, ◌<◌}
use Rattle.std.specs.Prelude.{slice_index}
use Rattle.sve_board.specs.declared.knowledge.Entry.{Entry}
use Rattle.sve_board.specs.Knowledge.{writer_of}
use Rattle.sve_board.specs.Log.{IsClient, entries_of}
use Rattle.sve_board.specs.Values.{BoardValue, WriterValue}
use Rattle.sve_board.proofs.EachStep.{one_table, publishes}
use Rattle.sve_board.proofs.board.Board.publish_named.Goals as goal

pub fetch_add-requires : goal.fetch_add-requires
fetch_add-requires g c =
    let x : WriterValue = writer_of c.writer.inside.seat.table_id c.writer.inside.seat.me.0 in
    let named = sym c.requires.entry in
    let client = subst (λ (n : ℕ). IsClient n c.args.client) (sym c.self.invariant.0) (subst (λ (b : BoardValue). IsClient b.clients c.args.client) (sym c.self.view_is) c.requires.client) in
    let announced = subst (λ (v : WriterValue). length (entries_of c.args.client v.log) < slice_index v.known c.args.client) (sym c.writer.view_is) c.requires.announced in (
      one_table (ap (λ v. v.table) c.writer.view_is) c.requires.board c.self.view_is,
      omega (arith, c.self.invariant.1),
      publishes _ _ _ _ _ x _ c.writer.invariant
          (subst (λ (e : Entry). IsClient c.self.inside.table.shared.key e.client) named client)
          (subst (λ (e : Entry). length (entries_of e.client x.log) < slice_index x.known e.client) named announced)
          (subst (λ (v : WriterValue). length v.log < 4611686018427387904) (sym c.writer.view_is) c.requires.room),
    )
