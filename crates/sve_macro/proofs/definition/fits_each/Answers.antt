use Rattle.sve_macro.proofs.Formals.{by_count_enough, by_count_short}
use Rattle.sve_macro.proofs.definition.fits_each.Goals as goal

pub returns-then-needed-count : goal.returns-then-needed-count
returns-then-needed-count c = λ actuals e. by_count_enough c.args.formals.now actuals c.args.needed c.args.count c.requires e c.if-needed-count.true

pub returns-else-needed-count : goal.returns-else-needed-count
returns-else-needed-count c = λ actuals e. by_count_short c.args.formals.now actuals c.args.needed c.args.count c.requires e c.if-needed-count.false
