use Rattle.std.proofs.Common.{ℕ, List, ap, ◌∙◌, arith, length}
use Rattle.std.proofs.lemmas.Result.{on_ok_weaker}
use Rattle.sve_prep.specs.State.{stand_for}
use Rattle.sve_prep.specs.View.{view}
use Rattle.sve_prep.proofs.Written.{file_is, file_some}
use Rattle.sve_prep.proofs.work.Work.write_file.Goals as goal

pub stand_for-requires-clause-some : goal.stand_for-requires-clause-some
stand_for-requires-clause-some c = file_some c.as_slice.result.now c.file.result.now (c.as_slice.ensures.value ∙ c.in_ok-text.ensures.text)

pub stand_for-requires-clause-room : goal.stand_for-requires-clause-room
stand_for-requires-clause-room c = let r = c.requires.room in let s = c.in_ok-text.ensures.short in omega (arith, ap length c.as_slice.ensures.value)

pub returns : goal.returns
returns c =
    on_ok_weaker c.stand_for.result (λ h. λ asked. h asked ∙ ap (λ (t : List ℕ). stand_for c.args.count t (view c.args.self.now asked)) (file_is c.as_slice.result.now c.file.result.now (view c.args.self.now asked) (c.as_slice.ensures.value ∙ c.in_ok-text.ensures.text) c.file.ensures)) c.stand_for.ensures
