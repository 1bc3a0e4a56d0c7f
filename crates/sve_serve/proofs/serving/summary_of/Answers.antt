use Rattle.std.proofs.Common.{List, ap, ◌∙◌}
use Rattle.std.proofs.lemmas.Result.{IfOk-weaker}
use Rattle.sve_report.specs.declared.record.Record.{Record}
use Rattle.sve_serve.specs.Summary.{summary}
use Rattle.sve_serve.proofs.Sessions.{made_opening, summed_up}
use Rattle.sve_serve.proofs.serving.summary_of.Goals as goal

pub run-requires-clause-opening : goal.run-requires-clause-opening
run-requires-clause-opening g c κs within = made_opening c.args.n c.in_ok-script.script c.in_ok-script.ensures.session

pub returns : goal.returns
returns g c =
    let ran = c.in_ok-ran.ran in
    IfOk-weaker c.summary.result _ _ (λ text is. summed_up c.args.n c.in_ok-script.script _ ran.records _ c.in_ok-script.ensures.session c.in_ok-ran.ensures.honest (is ∙ ap (λ (records : List (List Record)). summary c.args.n records) c.items.ensures)) c.summary.ensures
