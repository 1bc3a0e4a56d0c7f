use Rattle.std.proofs.Common.{Bool, sym, ap, ◌∙◌, ◌&&◌, not}
use Rattle.sve_prep.proofs.work.Work.may_have_group.Goals as goal

pub returns-then-is_own : goal.returns-then-is_own
returns-then-is_own c = λ asked. ap (λ (b : Bool). b && not c.args.condition.now.after_else) (sym c.if-is_own.true ∙ c.is_own.ensures asked)

pub returns-else-is_own : goal.returns-else-is_own
returns-else-is_own c = λ asked. c.if-is_own.false ∙ ap (λ (b : Bool). b && not c.args.condition.now.after_else) (sym c.if-is_own.false ∙ c.is_own.ensures asked)
