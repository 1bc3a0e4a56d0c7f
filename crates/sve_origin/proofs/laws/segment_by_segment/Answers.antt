use Rattle.sve_origin.proofs.Spots.{same_cells}
use Rattle.sve_origin.proofs.laws.segment_by_segment.Goals as goal

pub returns : goal.returns
returns c = same_cells
