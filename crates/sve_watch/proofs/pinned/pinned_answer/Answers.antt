use Rattle.sve_watch.proofs.Looking.{told_ok}
use Rattle.sve_watch.proofs.pinned.pinned_answer.Goals as goal

pub returns-in-Ok-clause-done : goal.returns-in-Ok-clause-done
returns-in-Ok-clause-done g c = λ table is. told_ok c.read_answer-answer.result.0 c.in-Ok.answer _ c.in-Ok.is (c.read_answer-answer.ensures.done table is)
