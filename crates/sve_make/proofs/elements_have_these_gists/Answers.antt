use Rattle.sve_make.proofs.FrontAt.{units_gists}
use Rattle.sve_make.proofs.elements_have_these_gists.Goals as goal

pub returns : goal.returns
returns c = units_gists
