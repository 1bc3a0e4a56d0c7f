-- The child behind what its connections leave, and these behind the names that they use.
use Rattle.std.proofs.Common.{◌≡◌, IfOk, subst}
use Rattle.sve_contents.specs.declared.contents.Contents.{Contents}
use Rattle.sve_instance.specs.declared.connections.Connections.{Connections}
use Rattle.sve_instance.specs.Around.{seen_in}
use Rattle.sve_instance.specs.Connections.{with_connections}
use Rattle.sve_child.specs.Children.{placed_in}
use Rattle.sve_child.proofs.children.with_child.Goals as goal

pub returns : goal.returns
returns g c =
    let packages = c.args.text.packages.now in
    let ws = c.args.text.words.now in
    let i = c.args.instance.now in
    let seen = seen_in packages ws (g.I.Instances.interfaces c.args.instances.now) i.name in
    let modports = g.I.Instances.modports c.args.instances.now in
    let behind = subst (λ (left : Connections). IfOk c.placed_in.result (λ p. p ≡ placed_in packages ws modports c.args.path.now c.args.spec c.args.ports.now i left)) c.in_ok-left.ensures c.placed_in.ensures in
    subst (λ (d : Contents). IfOk c.placed_in.result (λ p. p ≡ placed_in packages ws modports c.args.path.now c.args.spec c.args.ports.now i (with_connections seen ws d c.args.ports.now i))) c.in_ok-contents.ensures behind
