use Rattle.sve_grammar.specs.Rule.{opens}
use Rattle.sve_grammar.proofs.firsts.is_first_of.Goals as goal

pub returns-in-DataType : goal.returns-in-DataType
unfolding opens
returns-in-DataType c = rw (c.in-DataType.is) c.is_one_of-in-DataType.ensures

pub returns-in-Statement : goal.returns-in-Statement
unfolding opens
returns-in-Statement c = rw (c.in-Statement.is) c.is_one_of-in-Statement.ensures

pub returns-in-Item : goal.returns-in-Item
unfolding opens
returns-in-Item c = rw (c.in-Item.is) c.is_one_of-in-Item.ensures
