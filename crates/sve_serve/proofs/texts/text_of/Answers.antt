use Rattle.std.proofs.Common.{refl}
use Rattle.std.proofs.lemmas.Result.{IfOk-weaker}
use Rattle.sve_serve.specs.Honest.{run_budget}
use Rattle.sve_serve.proofs.Reported.{plain_text, linted_text}
use Rattle.sve_serve.proofs.texts.text_of.Goals as goal

pub returns-in_ok-section : goal.returns-in_ok-section
returns-in_ok-section g c =
    IfOk-weaker c.report_text_with_lint.result _ _ (λ text is.
    linted_text c.args.options.lint (run_budget c.args.options) _ _ c.args.entries.now c.args.records.now text.items c.in_ok-section.section c.newest.result.now _ c.run_budget.result c.if-options.true c.newest.ensures refl c.run_budget.ensures c.in_ok-section.ensures is) c.report_text_with_lint.ensures

pub returns-else-options : goal.returns-else-options
returns-else-options g c =
    IfOk-weaker c.report_text.result _ _ (λ text is.
    plain_text c.args.options.lint (run_budget c.args.options) _ _ c.args.entries.now c.args.records.now text.items c.if-options.false is) c.report_text.ensures
