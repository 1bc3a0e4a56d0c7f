use Rattle.std.proofs.Common.{sym, ◌∙◌}
use Rattle.sve_watch.proofs.Looking.{gone, looked_through, stopped_through, went_through}
use Rattle.sve_watch.proofs.latest.looking_answer.Goals as goal

pub returns-clause-pass : goal.returns-clause-pass
returns-clause-pass g c =
    let first = c.new-looks.result in
    let second = c.read_into-looks.result in
    let went = gone first.pass.ghost_name first.pass.now.looks second.pass.ghost_name second.pass.now.looks c.read_into-looks.ensures.gave in
    let last = c.pass-1.given.1 (sym (went.same ∙ c.new-looks.ensures.same_pass)) ∙ c.end.ensures in
    looked_through g.B.Begun.pass c.args.pass.now first.pass.now second.pass.now _ first.pass.ghost_name second.pass.ghost_name c.new-looks.ensures.pass c.requires.begun second.looked went last

pub returns-clause-stopped : goal.returns-clause-stopped
returns-clause-stopped g c =
    let first = c.new-looks.result in
    let second = c.read_into-looks.result in
    let went = gone first.pass.ghost_name first.pass.now.looks second.pass.ghost_name second.pass.now.looks c.read_into-looks.ensures.gave in
    let last = c.pass-1.given.1 (sym (went.same ∙ c.new-looks.ensures.same_pass)) ∙ c.end.ensures in
    stopped_through g.B.Begun.pass c.args.pass.now first.pass.now second.pass.now _ first.pass.ghost_name second.pass.ghost_name c.new-looks.ensures.pass c.requires.begun second.looked went last c.args.lent.now.snapshot.revision c.read_into-looks.new.answer c.read_into-looks.ensures.stopped

pub returns-clause-went : goal.returns-clause-went
returns-clause-went g c =
    let first = c.new-looks.result in
    let second = c.read_into-looks.result in
    let went = gone first.pass.ghost_name first.pass.now.looks second.pass.ghost_name second.pass.now.looks c.read_into-looks.ensures.gave in
    let last = c.pass-1.given.1 (sym (went.same ∙ c.new-looks.ensures.same_pass)) ∙ c.end.ensures in
    went_through g.B.Begun.pass c.args.pass.now first.pass.now second.pass.now _ first.pass.ghost_name second.pass.ghost_name c.new-looks.ensures.pass c.requires.begun second.looked went last c.args.lent.now.snapshot.revision c.read_into-looks.new.answer c.read_into-looks.ensures.went
