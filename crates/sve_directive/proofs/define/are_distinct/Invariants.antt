use Rattle.std.proofs.Common.{◌≡◌, drop}
use Rattle.std.specs.Ordering.{nat_cmp}
use Rattle.std.specs.Cmp.Lexicographic.{slice_cmp}
use Rattle.std.specs.BTreeSet.{contains}
use Rattle.sve_directive.specs.Define.{have_distinct_names}
use Rattle.sve_directive.proofs.DistinctFormals.{distinct_from}
use Rattle.sve_directive.proofs.define.are_distinct.Given as goal

-- whether the formals that are left have names that are new and distinct is whether all formals have distinct names
abbrev pub invariant-loop-formal : goal.invariant-loop-formal
invariant-loop-formal l = distinct_from (λ name. contains (slice_cmp nat_cmp) l.seen name) (drop l.formal-index l.formals) ≡ have_distinct_names l.formals
