-- The names are used, and those that would make nets are said.
use Rattle.std.proofs.Common.{ℕ, ◌≡◌, List, IfOk, ap, subst, ◌∙◌}
use Rattle.std.specs.List.{fold}
use Rattle.sve_diag.specs.declared.code.Code.TheVariants.{N01}
use Rattle.sve_tree.specs.declared.expression.Arg.{Arg}
use Rattle.sve_contents.specs.declared.contents.Contents.{Contents}
use Rattle.sve_child.specs.Saying.{all_said}
use Rattle.sve_child.specs.Connecting.{argument_used}
use Rattle.sve_child.specs.Nets.{net_tokens}
use Rattle.sve_child.proofs.connecting.names_connected.Goals as goal

pub returns : goal.returns
returns g c =
    let packages = c.args.text.packages.now in
    let ws = c.args.text.words.now in
    let tokens = net_tokens packages ws (g.I.Instances.interfaces c.args.instances.now) c.args.contents c.args.ports.now c.args.instance.now in
    let used = c.in_ok-contents.ensures ∙ ap (λ (arguments : List Arg). fold (argument_used packages ws) c.args.contents arguments) c.as_slice-arguments.ensures in
    let said = subst (λ (ts : List ℕ). IfOk c.all_said.result (λ d. d ≡ all_said ws N01 c.in_ok-contents.contents ts)) (c.as_slice.ensures.value ∙ c.in_ok-tokens.ensures) c.all_said.ensures in
    subst (λ (d : Contents). IfOk c.all_said.result (λ e. e ≡ all_said ws N01 d tokens)) used said
