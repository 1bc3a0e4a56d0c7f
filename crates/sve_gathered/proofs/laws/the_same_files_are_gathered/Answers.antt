use Rattle.sve_gathered.proofs.AtFiles.{texts_are, names_are}
use Rattle.sve_gathered.proofs.laws.the_same_files_are_gathered.Goals as goal

pub returns-clause-texts : goal.returns-clause-texts
returns-clause-texts c = texts_are

pub returns-clause-names : goal.returns-clause-names
returns-clause-names c = names_are
