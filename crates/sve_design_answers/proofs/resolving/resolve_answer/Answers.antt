-- Whether `$root` stands in front of the name is what its text says.
use Rattle.std.proofs.Common.{◌∙◌, ap, Bool}
use Rattle.sve_design_answers.specs.Resolving.{IsResolveAnswer, resolve_answer}
use Rattle.sve_design_answers.proofs.resolving.resolve_answer.Goals as goal

pub returns : goal.returns
unfolding IsResolveAnswer
returns c =
    let by_text = ap (λ (rooted : Bool). resolve_answer c.args.files.now.rows c.args.project.now c.in_ok-at.at rooted c.in_ok-called.called.path c.args.budget) c.in_ok-called.ensures.rooted in
    (c.in_ok-at.at, c.in_ok-called.called.path, c.in_ok-at.ensures, c.in_ok-called.ensures.path, c.in_ok-about_name.ensures ∙ by_text)
