use Rattle.std.proofs.Common.{◌∙◌}
use Rattle.sve_runner.specs.Honest.{told_entries}
use Rattle.sve_serve.proofs.Reported.{text_told}
use Rattle.sve_serve.proofs.serving.report_of.Goals as goal

pub returns-clause-text : goal.returns-clause-text
returns-clause-text g c =
    let ran = c.in_ok-ran.ran in
    let told = c.in_ok-text_of.ensures in (
      told_entries ran.history,
      ran.records,
      c.in_ok-ran.ensures.honest,
      text_told c.args.options _ c.args.script ran.history _ ran.records _ _ c.in_ok-ran.ensures.history (c.deref.ensures.value ∙ c.in_ok-entries.ensures) c.items.ensures told,
    )
