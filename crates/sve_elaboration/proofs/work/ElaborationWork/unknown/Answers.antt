-- What is left is left in what was found.
use Rattle.std.proofs.Common.{ap, ◌∙◌}
use Rattle.sve_contents.specs.declared.contents.Contents.{Contents}
use Rattle.sve_child.specs.Children.{with_no_child}
use Rattle.sve_elaboration.specs.State.{Found}
use Rattle.sve_elaboration.specs.Scopes.{contents_of, interfaces_of, packages_of, with_contents, words_of}
use Rattle.sve_elaboration.proofs.work.ElaborationWork.unknown.Goals as goal

pub returns : goal.returns
returns c =
    let now = c.args.self.now in
    let i = c.args.instance.now in
    let taken = c.in_ok-contents.contents in
    let left = c.in_ok-self-inside.field-0 in
    ap (λ (s : Found). with_contents s left) c.self.view_is
    ∙ ap (with_contents now) (
    c.in_ok-self-inside.ensures
    ∙ ap (λ (s : Found). with_no_child (packages_of s) (words_of s) (interfaces_of s) taken i) c.self.view_is
    ∙ ap (λ (d : Contents). with_no_child (packages_of now) (words_of now) (interfaces_of now) d i) (c.in_ok-contents.ensures ∙ ap contents_of c.self.view_is))
