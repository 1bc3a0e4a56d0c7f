-- What is given stands in the child's specialization, and what is said in the scope.
use Rattle.std.proofs.Common.{◌≡◌, List, IfOk, ap, subst, ◌∙◌}
use Rattle.sve_connect.specs.declared.connecting.Pair.{Pair}
use Rattle.sve_child.specs.declared.children.Placed.{Placed}
use Rattle.sve_child.specs.Children.{placed_as, placed_in, with_faces}
use Rattle.sve_child.specs.Faces.{faces_given, pairs_said}
use Rattle.sve_child.proofs.children.placed_in.Goals as goal

pub returns : goal.returns
returns g c =
    let packages = c.args.text.packages.now in
    let ws = c.args.text.words.now in
    let modports = g.I.Instances.modports c.args.instances.now in
    let ports = c.args.ports.now in
    let i = c.args.instance.now in
    let left = c.args.left in
    let spec = c.with_faces-spec.ensures ∙ ap (with_faces c.args.spec) (c.in_ok-faces.ensures ∙ ap (λ (pairs : List Pair). faces_given ws modports left.contents ports i pairs) c.items-given.ensures) in
    let said = c.in_ok-contents.ensures ∙ ap (λ (pairs : List Pair). pairs_said packages ws modports ports i left.contents pairs) c.items-given.ensures in
    let placed : placed_as ws c.args.path.now c.with_faces-spec.result i.name (record { contents = c.in_ok-contents.contents; pairs = left.pairs; unconnected = left.unconnected }) ≡ placed_in packages ws modports c.args.path.now c.args.spec ports i left =
    λ k. placed_as ws c.args.path.now (spec k) i.name (record { contents = said k; pairs = left.pairs; unconnected = left.unconnected }) in
    subst (λ (p : Placed). IfOk c.placed_as.result (λ q. q ≡ p)) placed c.placed_as.ensures
