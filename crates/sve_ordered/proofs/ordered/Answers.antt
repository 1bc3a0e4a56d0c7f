use Rattle.std.proofs.Common.{◌∙◌}
use Rattle.std.proofs.lemmas.List.Filters.{dedup_is}
use Rattle.sve_ordered.proofs.Rising.{is_ordered}
use Rattle.sve_ordered.proofs.ordered.Goals as goal

pub returns : goal.returns
returns g c = is_ordered g.T.Ord.cmp g.met.T.Ord.total c.requires g.T.PartialEq.eq g.met.T.Ord.matches_eq c.args.items.items c.sort.new.self.items _ c.sort.ensures.permutation c.in_ok-sort.ensures.sorted (c.of.ensures ∙ dedup_is g.T.PartialEq.eq c.sort.new.self.items c.dedup.new.self.items c.dedup.ensures.filtered)
