use Rattle.sve_enough.proofs.Bodies.{is_within}
use Rattle.sve_enough.proofs.bodies_within_their_tokens.Goals as goal

pub returns : goal.returns
returns c = λ spec told fuel enough over. is_within spec told fuel enough over
