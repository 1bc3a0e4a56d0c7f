use Rattle.std.proofs.Common.{List, ℕ, ap, ◌∙◌, length}
use Rattle.std.proofs.lemmas.Result.{on_ok_weaker}
use Rattle.std.specs.Fmt.{decimal}
use Rattle.sve_prep.specs.State.{stand_for}
use Rattle.sve_prep.specs.View.{view}
use Rattle.sve_prep.proofs.Written.{line_room, line_some}
use Rattle.sve_prep.proofs.work.Work.write_line.Goals as goal

pub stand_for-requires-clause-some : goal.stand_for-requires-clause-some
stand_for-requires-clause-some c = line_some c.as_bytes.result.now c.line-line.result (c.as_bytes.ensures.value ∙ c.in_ok-text.ensures.ok) c.line-line.type_inv

pub stand_for-requires-clause-room : goal.stand_for-requires-clause-room
stand_for-requires-clause-room c = line_room c.as_bytes.result.now c.line-line.result (length c.args.self.now.out) (c.as_bytes.ensures.value ∙ c.in_ok-text.ensures.ok) c.line-line.type_inv c.requires.room

pub returns : goal.returns
returns c =
    on_ok_weaker c.stand_for.result (λ h. λ asked. h asked
    ∙ ap (λ (t : List ℕ). stand_for c.args.count t (view c.args.self.now asked)) (c.as_bytes.ensures.value ∙ c.in_ok-text.ensures.ok ∙ ap decimal c.line-line.ensures)) c.stand_for.ensures
