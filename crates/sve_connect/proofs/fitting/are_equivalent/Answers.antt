use Rattle.sve_connect.proofs.Agreement.{equivalence_is}
use Rattle.sve_connect.proofs.fitting.are_equivalent.Goals as goal

pub returns : goal.returns
returns c = equivalence_is c.args.ty.now c.args.other.now c.equivalent.result c.equivalent.ensures
