use Rattle.sve_survey.proofs.Visits as law
use Rattle.sve_survey.proofs.laws.visits_are_the_instances.Goals as goal

pub returns : goal.returns
returns c = law.visits_of_all
