use Rattle.sve_index.proofs.Tops.{tops_told}
use Rattle.sve_index.proofs.laws.tops_are_told.Goals as goal

pub returns : goal.returns
returns c = tops_told
