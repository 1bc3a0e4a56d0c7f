use Rattle.std.proofs.Common.{◌≡◌, ℕ, length, subst, arith}
use Rattle.sve_grammar.specs.Items.{chunk}
use Rattle.sve_grammar.specs.Reading.{leaves, Numbered}
use Rattle.sve_grammar.proofs.Spelled.{spelled}
use Rattle.sve_tree.specs.Elements.{element_tree}
use Rattle.sve_tree.proofs.Numbers.{numbered_one, numbered_push}
use Rattle.sve_tree.proofs.spelling.spell.Goals as goal

pub numbers-preserved : goal.numbers-preserved
numbers-preserved c = rw c.in_ok-push.ensures.items (numbered_push 0 c.numbers.i c.numbers.numbers.items c.numbers.invariant)

pub returns : goal.returns
returns c =
    let n = length c.args.tokens.now in
    let tree = element_tree c.args.element.now in
    let e : c.numbers.i ≡ n = omega (arith, c.numbers-test.false, c.numbers.auto.i-end) in
    numbered_one 0 n c.numbers.numbers.items (leaves tree) (subst (λ (k : ℕ). Numbered 0 k c.numbers.numbers.items) e c.numbers.invariant) (spelled c.args.tokens.now 0 chunk 0 tree n c.requires.read)
