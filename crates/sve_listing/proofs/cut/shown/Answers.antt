use Rattle.std.proofs.Common.{sym, arith}
use Rattle.std.proofs.lemmas.List.{length-take-le}
use Rattle.sve_listing.proofs.cut.shown.Goals as goal

pub slice_bounds-result-end : goal.slice_bounds-result-end
slice_bounds-result-end g c = sym (length-take-le 1000 c.args.items.now (omega (arith, c.if-items-le-MAX_LISTED.false)))
