use Rattle.sve_query.proofs.InOrder.{tops_are}
use Rattle.sve_query.proofs.laws.the_front_finds_what_the_files_have.Goals as goal

pub returns : goal.returns
returns c = tops_are
