use denote.Param.Send.{sendable}
use Rattle.std.proofs.Common.{sym, ◌∙◌, subst}
use Rattle.std.proofs.Crossing.{crosses}
use Rattle.sve_bytes.proofs.list.List.TheSendSync as list
use Rattle.sve_bytes.proofs.name.Name.TheSendSync as name
use Rattle.sve_rope.proofs.run.Run.TheSendSync as run
use Rattle.sve_rope.proofs.tree.Tree.TheLaws.TheKnot as rope
use Rattle.sve_runner.specs.Honest.{told_entries, AreHonest}
use Rattle.sve_runner.specs.Told.{answers_by}
use Rattle.sve_runner.proofs.Ends.{by_script, never_full, all_honest}
use Rattle.sve_runner.proofs.running.run_script.Goals as goal

-- the clients share the commands and the gate
pub run_clients-requires-sync-C : goal.run_clients-requires-sync-C
run_clients-requires-sync-C g c κs within =
    let bounds = c.type_bounds in
    let sync-G = bounds.sync-G in
    search (sendable, crosses, list.the_sync, name.the_sync, run.the_send, run.the_sync, rope.crosses, rope.crosses_both) depth 40 fits 200000

pub all_told-requires : goal.all_told-requires
all_told-requires g c =
    let answers = answers_by g.K.Key.Ord.cmp g.K.Keyed.given g.K.Kinds.make g.K.Kinds.answers_over in
    let ended = c.in_ok-ended.ended in
    let all = c.in_ok-ended.ensures in
    record {
      room = never_full answers c.args.terms c.args.files c.args.clients.now ended.history all.history c.command_count.result ended.left all.count all.left c.command_count.ensures;
    }

pub returns : goal.returns
returns g c =
    let answers = answers_by g.K.Key.Ord.cmp g.K.Keyed.given g.K.Kinds.make g.K.Kinds.answers_over in
    let ended = c.in_ok-ended.ended in
    let all = c.in_ok-ended.ensures in
    let honest = all_honest answers c.args.terms c.args.files c.args.clients.now ended.history all.history c.command_count.result ended.left all.count all.left c.in_ok-all.all.items c.in_ok-all.ensures in
    record {
      history = by_script answers c.args.terms c.args.files c.args.clients.now ended.history all.history;
      honest = subst (AreHonest answers c.args.terms c.args.files c.args.clients.now (told_entries ended.history)) (sym (c.of.ensures ∙ c.in_ok-records.ensures.0)) honest;
    }
