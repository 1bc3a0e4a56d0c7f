use Rattle.std.proofs.Common.{◌≡◌, ◌<◌, List, length, refl, ap, sym, ◌∙◌, subst, arith}
use Rattle.std.specs.Prelude.{All}
use Rattle.sve_board.specs.declared.knowledge.Entry.{Entry}
use Rattle.sve_board.specs.Log.{entries_of}
use Rattle.sve_board.specs.Values.{WriterValue}
use Rattle.sve_history.specs.Histories.{HistoryValue, commands_of, newest_files}
use Rattle.sve_text.specs.Refusals.{refusal_of}
use Rattle.sve_session.proofs.Meets.{with_entry}
use Rattle.sve_session.proofs.Entries.{commands_below}
use Rattle.sve_session.proofs.Tells.{told_accepted}
use Rattle.sve_session.proofs.shared.Shared.commit.Goals as goal

pub commit-requires-clause-rises : goal.commit-requires-clause-rises
commit-requires-clause-rises g c =
    let log : List Entry = c.args.self.now.writer.log in
    let met = c.meet_log.ensures.met in
    let own : c.args.pass.now.mine ≡ entries_of c.client.result log = sym met.mine ∙ met.own ∙ ap (λ n. entries_of n log) (sym c.client.ensures.number) in
    subst (λ (h : HistoryValue). All (λ earlier. earlier < c.args.command) (commands_of c.client.result h.entries)) (sym c.args.self.now.of_log)
    (commands_below g.P.Plan.table c.client.result c.args.command log (subst (λ (entries : List Entry). All (λ e. e.command < c.args.command) entries) own c.requires.next))

pub returns-in-Accepted-clause-told : goal.returns-in-Accepted-clause-told
returns-in-Accepted-clause-told g c =
    let history : HistoryValue = c.args.self.now.core.history in
    let room : length history.entries < g.P.Plan.most = omega (arith, c.if-total-most.false, c.requires.most.0, c.len-total.ensures, ap (λ (h : HistoryValue). length h.entries) c.history.ensures) in
    told_accepted c.args.pass.now c.meet_log.new.pass c.args.self.now.writer.log c.meet_log.ensures.met g.P.Plan.opening g.P.Plan.table history c.args.self.now.of_log g.P.Plan.most c.args.command
    c.args.edits.now c.requires.edits room c.add_entry.new.pass
    (c.add_entry.ensures.pass ∙ ap (λ (w : WriterValue). with_entry c.meet_log.new.pass w.log c.args.command) c.meet_log.ensures.writer)
    (refusal_of (newest_files history) c.args.edits.now) refl c.in-Accepted.r (sym c.in-Accepted.is ∙ c.in_ok-refused.ensures.told)
