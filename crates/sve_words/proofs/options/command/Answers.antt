use Rattle.std.proofs.Common.{◌≡◌, false, codes, rules, ap₂, ◌∙◌}
use Rattle.std.proofs.lemmas.Result.{IfOk-weaker}
use Rattle.clap.specs.Words.{app_of, rule_of, with_rule}
use Rattle.sve_words.specs.Command.{bare_app, budget_rule, flag_rule}
use Rattle.sve_words.proofs.options.command.Goals as goal

-- one option behind the other
pub returns : goal.returns
returns c =
    let local : c.action-budget.result.global ≡ false = search rules in
    let bare : app_of c.args_override_self-command.result ≡ bare_app = search rules in
    let budget : rule_of c.action-budget.result ≡ budget_rule = search rules in
    let first : app_of c.in_ok-arg.field-0 ≡ with_rule bare_app budget_rule = c.in_ok-arg.ensures.shape local ∙ ap₂ with_rule bare budget in
    let second : app_of c.in_ok-arg-2.field-0 ≡ with_rule (with_rule bare_app budget_rule) (flag_rule (codes "serial")) =
    c.in_ok-arg-2.ensures.shape c.flag.ensures.local ∙ ap₂ with_rule first c.flag.ensures.rule in
    IfOk-weaker c.arg-3.result _ _ (λ command adds. adds.shape c.flag-2.ensures.local ∙ ap₂ with_rule second c.flag-2.ensures.rule) c.arg-3.ensures
