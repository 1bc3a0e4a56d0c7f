use Rattle.std.proofs.Common.{◌≡◌, List, length, ap, ◌∙◌, subst, arith}
use Rattle.sve_board.specs.declared.knowledge.Entry.{Entry}
use Rattle.sve_board.specs.Values.{WriterValue}
use Rattle.sve_session.proofs.Meets.{Meets, meets_all}
use Rattle.sve_session.proofs.shared.meet_log.Goals as goal

pub returns-then-look-total-clause-met : goal.returns-then-look-total-clause-met
returns-then-look-total-clause-met g c =
    let m = c.meet.ensures in
    let log : List Entry = c.args.writer.now.log in
    let told : c.note-note.result.seen ≡ log = c.note-note.ensures.note.1 ∙ ap (λ (w : WriterValue). w.log) c.loop.invariant.0 in
    let total : c.look.result ≡ length log = omega (arith, c.if-look-total.true, c.requires.total) in
    let met : Meets c.look.new.pass c.note-note.result.seen c.meet.new.pass = record {
      seen = m.seen;
      first = m.prefixes.0;
      second = m.prefixes.1;
      before = m.mine_before;
      mine = m.mine;
      few = m.announced;
      looks = m.looks;
      table = m.others.0;
      number = m.others.1;
      raises = m.others.2;
    } in
    meets_all c.args.pass.now c.loop.pass c.look.new.pass c.meet.new.pass log c.look.result c.loop.invariant.1 c.look.ensures.looks c.look.ensures.not_below_looks c.look.ensures.not_below_seen total c.requires.even
    (subst (λ (l : List Entry). Meets c.look.new.pass l c.meet.new.pass) told met)
