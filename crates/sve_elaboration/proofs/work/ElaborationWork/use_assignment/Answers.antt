use Rattle.std.proofs.Common.{ap, ◌∙◌}
use Rattle.std.specs.List.{fold}
use Rattle.sve_body.specs.Items.{assignment_uses}
use Rattle.sve_used.specs.Used.{name_used}
use Rattle.sve_elaboration.specs.State.{Found}
use Rattle.sve_elaboration.specs.Scopes.{contents_of, packages_of, with_contents, words_of}
use Rattle.sve_elaboration.proofs.Folds.{used_behind}
use Rattle.sve_elaboration.proofs.work.ElaborationWork.use_assignment.Goals as goal

pub returns : goal.returns
returns c =
    let names = assignment_uses c.args.assignment.now in
    let taken = c.in_ok-contents.contents in
    let left = c.in_ok-self-inside.field-0 in
    ap (λ (s : Found). with_contents s left) c.self.view_is
    ∙ used_behind c.args.self.now names taken left (c.in_ok-contents.ensures ∙ ap contents_of c.self.view_is)
    (c.in_ok-self-inside.ensures ∙ ap (λ (s : Found). fold (name_used (packages_of s) (words_of s)) taken names) c.self.view_is)
