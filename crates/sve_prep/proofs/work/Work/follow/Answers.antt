use Rattle.std.proofs.Common.{sym, ap, ◌∙◌, IfOk}
use Rattle.sve_directive.specs.declared.directive.LocalDirective.{LocalDirective}
use Rattle.sve_prep.specs.Uses.{Goes}
use Rattle.sve_prep.specs.Step.{follow}
use Rattle.sve_prep.specs.View.{view}
use Rattle.sve_prep.proofs.work.Work.follow.Goals as goal

pub returns-in_ok-follow_conditional-in-Conditional : goal.returns-in_ok-follow_conditional-in-Conditional
returns-in_ok-follow_conditional-in-Conditional c = λ asked.
    ap (λ (d : LocalDirective). follow d c.args.count (view c.args.self.now asked)) c.in-Conditional.is ∙ ap Goes (sym (c.in_ok-follow_conditional-in-Conditional.ensures asked))

pub returns-in_ok-change_macros-in-Macros : goal.returns-in_ok-change_macros-in-Macros
returns-in_ok-change_macros-in-Macros c = λ asked.
    ap (λ (d : LocalDirective). follow d c.args.count (view c.args.self.now asked)) c.in-Macros.is ∙ ap Goes (sym (c.in_ok-change_macros-in-Macros.ensures asked))

pub returns-in_ok-set_net_type-in-NetType : goal.returns-in_ok-set_net_type-in-NetType
returns-in_ok-set_net_type-in-NetType c = λ asked.
    ap (λ (d : LocalDirective). follow d c.args.count (view c.args.self.now asked)) c.in-NetType.is ∙ ap Goes (sym (c.in_ok-set_net_type-in-NetType.ensures asked))

pub returns-in_ok-write_source_text-in-Text : goal.returns-in_ok-write_source_text-in-Text
returns-in_ok-write_source_text-in-Text c = λ asked.
    ap (λ (d : LocalDirective). follow d c.args.count (view c.args.self.now asked)) c.in-Text.is ∙ ap Goes (sym (c.in_ok-write_source_text-in-Text.ensures asked))

pub returns-in_ok-refuse_directive-in-Refused : goal.returns-in_ok-refuse_directive-in-Refused
returns-in_ok-refuse_directive-in-Refused c = λ asked.
    ap (λ (d : LocalDirective). follow d c.args.count (view c.args.self.now asked)) c.in-Refused.is ∙ ap Goes (sym (c.in_ok-refuse_directive-in-Refused.ensures asked))
