-- Sorting keeps what there is.
use Rattle.std.proofs.Common.{nat_eq, sym, ◌∙◌}
use Rattle.std.proofs.lemmas.List.Sorted.{IsNonDecreasingBy-from_sort, list_any-IsPermutation}
use Rattle.std.specs.Cmp.{nat_cmp_total}
use Rattle.std.specs.FinSet.{contains-from_list_nat, from_list, nat_cmp-IsAntisymmetric, same_set}
use Rattle.sve_design_kinds.proofs.beginnings.Beginnings.at.Goals as goal

pub invariant_of-result : goal.invariant_of-result
invariant_of-result c = IsNonDecreasingBy-from_sort (λ x. x) c.sort_unstable.new.self.items c.sort_unstable.ensures.sorted

pub returns : goal.returns
returns c =
    let old = c.args.tokens.items in
    let new = c.sort_unstable.new.self.items in
    same_set nat_cmp_total nat_cmp-IsAntisymmetric (from_list new) (from_list old) (λ q.
    contains-from_list_nat new q ∙ sym (list_any-IsPermutation (λ y. nat_eq y q) old new c.sort_unstable.ensures.permutation) ∙ sym (contains-from_list_nat old q))
