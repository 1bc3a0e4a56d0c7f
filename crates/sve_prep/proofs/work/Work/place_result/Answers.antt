use Rattle.std.proofs.Common.{List, ℕ, false, ap, ◌∙◌, ◌∷◌}
use Rattle.std.proofs.lemmas.Result.{on_ok_weaker}
use Rattle.sve_prep.specs.State.{replace, use_origin}
use Rattle.sve_unread.specs.Head.{head_origin, head_line, head_macros, head_level}
use Rattle.sve_prep.specs.View.{view}
use Rattle.sve_prep.proofs.Cases.{same_place}
use Rattle.sve_prep.proofs.work.Work.place_result.Goals as goal

pub returns : goal.returns
returns c =
    on_ok_weaker c.replace.result (λ h. λ asked. h asked
    ∙ same_place c.args.count c.in_ok-shared.shared.value false (view c.args.self.now asked) (c.in_ok-copy.ensures ∙ c.file.ensures) c.offset.ensures c.line-line.ensures (c.in_ok-macros.ensures ∙ ap (λ (ms : List (List ℕ)). c.args.name ∷ ms) c.macros.ensures) c.level-level.ensures
    ∙ ap (λ (t : List ℕ). replace c.args.count t (use_origin (head_origin c.args.self.now.rest)) (head_line c.args.self.now.rest) (c.args.name ∷ head_macros c.args.self.now.rest) (head_level c.args.self.now.rest) (view c.args.self.now asked)) c.in_ok-shared.ensures.ok) c.replace.ensures
