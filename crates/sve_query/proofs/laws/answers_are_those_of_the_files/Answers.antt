use Rattle.sve_query.proofs.LinesAt.{answers_at}
use Rattle.sve_query.proofs.laws.answers_are_those_of_the_files.Goals as goal

pub returns : goal.returns
returns c = answers_at
