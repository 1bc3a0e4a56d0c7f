use Rattle.sve_gist.proofs.Same.{same_index}
use Rattle.sve_gist.proofs.gists_decide_the_index.Goals as goal

pub returns : goal.returns
returns c = λ sources. same_index sources
