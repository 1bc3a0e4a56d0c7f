use Rattle.std.proofs.Common.{◌≡◌, ◌∙◌, sym, rules}
use base.Stored.{gnum, gcons}
use Rattle.sve_bytes.specs.TreeOrder.{tree_cmp}
use Rattle.sve_spec.specs.Trees.{bool_tree}
use Rattle.sve_spec.proofs.TreeOrders.{bits_tree_is}
use Rattle.sve_spec.proofs.value_order.bits_order.Goals as goal

pub returns : goal.returns
returns c =
    let a = c.bits.inside in
    let b = c.other.inside in
    let first = bits_tree_is a.signed a.width a.ones a.unknowns c.args.bits c.bits.view_is c.bits.invariant.2 c.bits.invariant.3 in
    let second = bits_tree_is b.signed b.width b.ones b.unknowns c.args.other c.other.view_is c.other.invariant.2 c.other.invariant.3 in
    let words : c.then-2.result
    ≡ tree_cmp (gcons (bool_tree a.signed) (gcons (gnum a.width) (gcons (gnum a.ones) (gnum a.unknowns)))) (gcons (bool_tree b.signed) (gcons (gnum b.width) (gcons (gnum b.ones) (gnum b.unknowns)))) =
    first_of (search rules, cc) in
    words ∙ (λ i. tree_cmp (sym first i) (sym second i))
