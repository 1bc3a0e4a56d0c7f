use Rattle.std.proofs.Common.{List, sym, ap, ◌∙◌, ◌≤◌, length, subst}
use Rattle.sve_unread.specs.Bytes.{Byte, ahead}
use Rattle.sve_prep.specs.State.{forward}
use Rattle.sve_prep.specs.View.{view}
use Rattle.sve_prep.proofs.Parts.{rest_of}
use Rattle.sve_prep.proofs.work.Work.refuse.Goals as goal

pub skip-requires : goal.skip-requires
skip-requires c = subst (λ (bs : List Byte). c.args.count ≤ length (ahead bs)) (sym (rest_of c.args.self.now c.report.new.self _ _ c.in_ok-report.ensures)) c.requires.within

pub returns : goal.returns
returns c = λ asked.
    ap (λ (r : List Byte). record (view c.report.new.self asked) { rest = r }) c.skip.ensures.rest
    ∙ ap (forward c.args.count) (c.in_ok-report.ensures asked)
