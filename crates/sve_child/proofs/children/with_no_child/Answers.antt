-- What an instance without a specialization leaves behind the names that its connections use.
use Rattle.std.proofs.Common.{◌≡◌, IfOk, subst}
use Rattle.sve_contents.specs.declared.contents.Contents.{Contents}
use Rattle.sve_instance.specs.Around.{seen_in}
use Rattle.sve_instance.specs.Unknown.{with_unknown}
use Rattle.sve_child.proofs.children.with_no_child.Goals as goal

pub returns : goal.returns
returns g c =
    let packages = c.args.text.packages.now in
    let ws = c.args.text.words.now in
    let i = c.args.instance.now in
    let seen = seen_in packages ws (g.I.Instances.interfaces c.args.instances.now) i.name in
    subst (λ (d : Contents). IfOk c.with_unknown.result (λ e. e ≡ with_unknown seen ws d i)) c.in_ok-contents.ensures c.with_unknown.ensures
