use Rattle.std.proofs.Common.{List, ℕ, ap, sym, ◌∙◌}
use Rattle.std.specs.List.{list_any}
use Rattle.std.specs.BTreeMap.{is_at}
use Rattle.std.specs.Ordering.{nat_cmp}
use Rattle.std.specs.Cmp.Lexicographic.{slice_cmp}
use Rattle.std.specs.BTreeSet.{contains}
use Rattle.sve_directive.proofs.DistinctFormals.{distinct_from-none, distinct_from-next}
use Rattle.sve_directive.proofs.define.are_distinct.Goals as goal

pub loop-formal-init : goal.loop-formal-init
loop-formal-init c = distinct_from-none (λ name. contains (slice_cmp nat_cmp) c.new-seen.result name) c.args.formals.now (λ name. ap (λ (names : List (List ℕ)). list_any (is_at (slice_cmp nat_cmp name)) names) c.new-seen.ensures.empty)

pub loop-formal-preserved : goal.loop-formal-preserved
loop-formal-preserved c =
    distinct_from-next (λ name. contains (slice_cmp nat_cmp) c.loop-formal.seen name) (λ name. contains (slice_cmp nat_cmp) c.insert.new.self name)
    c.in_ok-copy.field-0 c.args.formals.now c.loop-formal.formal-index c.formal-item.result _ c.loop-formal-test.true c.formal-item.is c.in_ok-copy.ensures (sym c.if-not-branch.false ∙ c.in_ok-insert.ensures.added) c.in_ok-insert.ensures.updates.0 c.loop-formal.invariant
