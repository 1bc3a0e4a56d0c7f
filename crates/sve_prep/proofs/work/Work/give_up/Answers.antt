use Rattle.std.proofs.Common.{List, [], ap, ◌∙◌, reverse}
use Rattle.sve_unread.specs.Bytes.{Byte}
use Rattle.sve_prep.specs.declared.condition.Condition.{Condition}
use Rattle.sve_prep.specs.State.{State}
use Rattle.sve_prep.specs.View.{view}
use Rattle.sve_prep.proofs.work.Work.give_up.Goals as goal

pub returns : goal.returns
returns c = λ asked.
    ap (λ (r : List Byte). record (view c.report.new.self asked) { rest = r; conditions = reverse c.clear.new.self.items }) c.new.ensures
    ∙ ap (λ (k : List Condition). record (view c.report.new.self asked) { rest = []; conditions = reverse k }) c.clear.ensures.items
    ∙ ap (λ (s : State). record s { rest = []; conditions = [] }) (c.in_ok-report.ensures asked)
