use Rattle.sve_table.proofs.Added as added
use Rattle.sve_table.proofs.table.first_of_its_name.Goals as goal

pub returns : goal.returns
returns g c = added.first_of_its_name g.T.Named.called
