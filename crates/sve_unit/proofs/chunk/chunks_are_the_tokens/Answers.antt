use Rattle.sve_unit.proofs.Parts.{joined_parts}
use Rattle.sve_unit.proofs.chunk.chunks_are_the_tokens.Goals as goal

pub returns : goal.returns
returns c = joined_parts
