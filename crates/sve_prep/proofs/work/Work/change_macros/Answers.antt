use Rattle.std.proofs.Common.{sym, ap, ◌∙◌}
use Rattle.std.proofs.lemmas.Result.{on_ok_weaker}
use Rattle.sve_directive.specs.declared.directive.MacroDirective.{MacroDirective}
use Rattle.sve_prep.specs.Step.{change_macros}
use Rattle.sve_prep.specs.View.{view}
use Rattle.sve_prep.proofs.work.Work.change_macros.Goals as goal

pub returns-in-Define : goal.returns-in-Define
returns-in-Define c = on_ok_weaker c.define.result (λ h. λ asked. h asked ∙ ap (λ (x : MacroDirective). change_macros x c.args.count (view c.args.self.now asked)) (sym c.in-Define.is)) c.define.ensures

pub returns-in-UndefineAll : goal.returns-in-UndefineAll
returns-in-UndefineAll c = λ asked. c.undefine_all.ensures asked ∙ ap (λ (x : MacroDirective). change_macros x c.args.count (view c.args.self.now asked)) (sym c.in-UndefineAll.is)
