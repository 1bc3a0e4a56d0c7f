use Rattle.std.proofs.Common.{List, ℕ, ◌||◌, ap, sym, arith}
use Rattle.std.specs.List.{list_any}
use Rattle.std.specs.BTreeMap.{is_at}
use Rattle.std.specs.Ordering.{nat_cmp}
use Rattle.std.specs.Cmp.Lexicographic.{slice_cmp}
use Rattle.std.specs.BTreeSet.{contains}
use Rattle.sve_survey.specs.Lint.{is_among}
use Rattle.sve_survey.proofs.Among.{one_more, all_in}
use Rattle.sve_survey.proofs.unconnections.set_of.Goals as goal

pub names-init : goal.names-init
names-init c = λ q. sym (ap (λ (keys : List (List ℕ)). list_any (is_at (slice_cmp nat_cmp q)) keys || is_among c.args.names.now q) c.new-set.ensures.empty)

pub names-preserved : goal.names-preserved
names-preserved c =
    one_more (contains (slice_cmp nat_cmp) c.names.set) (contains (slice_cmp nat_cmp) c.insert.new.self) c.args.names.now c.names.name-index c.name-item.result c.in_ok-copy.field-0 c.names-test.true c.name-item.is c.in_ok-copy.ensures c.in_ok-insert.ensures.updates.0 c.names.invariant

pub returns : goal.returns
returns c = λ q. all_in (contains (slice_cmp nat_cmp) c.names.set) c.args.names.now c.names.name-index q (omega arith) (c.names.invariant q)
