use Rattle.sve_bytes.proofs.TreesAreOrdered.{trees_are_ordered}
use Rattle.sve_bytes.proofs.laws.trees_are_ordered.Goals as goal

pub returns : goal.returns
returns c = trees_are_ordered
