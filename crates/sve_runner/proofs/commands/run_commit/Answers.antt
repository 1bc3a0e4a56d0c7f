use Rattle.std.proofs.Common.{subst}
use Rattle.sve_session.specs.Commits.{IsTold as IsToldOf}
use Rattle.sve_runner.specs.Told.{answers_by}
use Rattle.sve_runner.proofs.Steps.{accepted_told, refused_told}
use Rattle.sve_runner.proofs.commands.run_commit.Goals as goal

pub returns-in-Accepted-clause-told : goal.returns-in-Accepted-clause-told
returns-in-Accepted-clause-told g c =
    let answers = answers_by g.K.Key.Ord.cmp g.K.Keyed.given g.K.Kinds.make g.K.Kinds.answers_over in
    let told = subst (IsToldOf g.P.Plan.opening g.P.Plan.table g.P.Plan.most c.args.number c.args.pass.now c.commit.new.pass) c.in-Accepted.is c.in_ok-r.ensures.told in
    accepted_told answers c.args._terms g.P.Plan.opening g.P.Plan.table g.P.Plan.most c.args.number c.in-Accepted.r c.args.edits.now c.args.pass.now c.commit.new.pass told c.in_ok-r.ensures.later

pub returns-in-Refused-clause-told : goal.returns-in-Refused-clause-told
returns-in-Refused-clause-told g c =
    let answers = answers_by g.K.Key.Ord.cmp g.K.Keyed.given g.K.Kinds.make g.K.Kinds.answers_over in
    let told = subst (IsToldOf g.P.Plan.opening g.P.Plan.table g.P.Plan.most c.args.number c.args.pass.now c.commit.new.pass) c.in-Refused.is c.in_ok-r.ensures.told in
    refused_told answers c.args._terms g.P.Plan.opening g.P.Plan.table g.P.Plan.most c.args.number c.in-Refused.r c.in-Refused.edit c.in-Refused.why c.args.edits.now c.args.pass.now c.commit.new.pass c.requires.edits told c.in_ok-r.ensures.later
