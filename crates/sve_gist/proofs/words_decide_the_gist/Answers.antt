use Rattle.sve_gist.proofs.Decided.{decided}
use Rattle.sve_gist.proofs.words_decide_the_gist.Goals as goal

pub returns : goal.returns
returns c = λ source n read. decided source n read
