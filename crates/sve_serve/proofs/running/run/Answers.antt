use denote.Param.Send.{sendable}
use Rattle.std.proofs.Common.{◌≡◌, List, sym, subst}
use Rattle.sve_command.specs.declared.commands.Command.{Command}
use Rattle.sve_crossing.proofs.Crossing.{value_send, value_sync}
use Rattle.sve_runner.specs.declared.terms.Terms.{Terms}
use Rattle.sve_runner.specs.Honest.{history_by, told_entries, files_of, AreHonest}
use Rattle.sve_runner.specs.Told.{AreFew}
use Rattle.sve_serve.specs.Answers.{IsAnswerAt}
use Rattle.sve_serve.proofs.Answered.{are_honest_for}
use Rattle.sve_serve.proofs.Sessions.{are_few}
use Rattle.sve_serve.proofs.running.run.Goals as goal

-- threads share the values of keys
pub run_script-requires-send-K-Value : goal.run_script-requires-send-K-Value
run_script-requires-send-K-Value g c κs within = search (sendable, value_send) depth 20

pub run_script-requires-sync-K-Value : goal.run_script-requires-sync-K-Value
run_script-requires-sync-K-Value g c κs within = search (sendable, value_sync) depth 20

pub run_script-requires-clause-few : goal.run_script-requires-clause-few
run_script-requires-clause-few g c κs within = subst AreFew (sym c.items.ensures) (are_few c.args.script.clients c.requires.limits)

pub returns : goal.returns
returns g c =
    let law = c.answers_are_those_of_the_files.ensures in
    let files = c.args.script.files in
    let ran = c.in_ok-ran.ran in
    let told = are_honest_for _ IsAnswerAt c.terms_of.result files c.items.result.now (told_entries ran.history) ran.records (λ r query budget answer is. law (files_of IsAnswerAt c.terms_of.result files c.items.result.now (told_entries ran.history) r) query budget answer is) c.in_ok-ran.ensures.honest in
    record {
      history = subst (λ (clients : List (List Command)). ran.history ≡ history_by files clients (told_entries ran.history)) c.items.ensures c.in_ok-ran.ensures.history;
      honest = subst (λ (terms : Terms). AreHonest IsAnswerAt terms files c.args.script.clients (told_entries ran.history) ran.records) c.terms_of.ensures
          (subst (λ (clients : List (List Command)). AreHonest IsAnswerAt c.terms_of.result files clients (told_entries ran.history) ran.records) c.items.ensures told);
    }
