use Rattle.sve_design.proofs.Depths as law
use Rattle.sve_design.proofs.laws.depths_are_within.Goals as goal

pub returns : goal.returns
returns c = law.depth_within
