use Rattle.std.proofs.Common.{Bool, false, ap, ◌∙◌, codes}
use Rattle.std.proofs.lemmas.Result.{on_ok_weaker}
use Rattle.sve_prep.specs.Conditionals.{next_group}
use Rattle.sve_prep.specs.View.{view}
use Rattle.sve_prep.proofs.work.Work.else_if.Goals as goal

pub returns : goal.returns
returns c =
    on_ok_weaker c.next_group.result (λ h. λ asked. h asked
    ∙ ap (λ (b : Bool). next_group (codes "elsif") b false (view c.args.self.now asked).conditions c.args.count (view c.args.self.now asked)) (c.is_defined-holds.ensures asked)) c.next_group.ensures
