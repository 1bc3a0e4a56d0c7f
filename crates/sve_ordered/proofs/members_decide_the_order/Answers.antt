use Rattle.sve_ordered.proofs.Rising.{members_decide}
use Rattle.sve_ordered.proofs.members_decide_the_order.Goals as goal

pub returns : goal.returns
returns g c = λ exact items others same. members_decide g.T.Ord.cmp g.met.T.Ord.total exact items others same
