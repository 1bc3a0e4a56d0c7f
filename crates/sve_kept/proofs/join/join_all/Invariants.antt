-- With the memos that are left, those so far are those with all.
use Rattle.std.proofs.Common.{◌≡◌, drop}
use Rattle.sve_kept.specs.Kept.{joined}
use Rattle.sve_kept.proofs.join.join_all.Given as goal

abbrev pub invariant-joins : goal.invariant-joins
invariant-joins g l = joined g.Q.Ord.cmp l.memos (drop l.memo-index l.fresh) ≡ joined g.Q.Ord.cmp l.held l.fresh
