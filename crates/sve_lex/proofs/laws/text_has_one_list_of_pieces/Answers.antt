use Rattle.sve_lex.proofs.OneList.{one_list, nothing_lost}
use Rattle.sve_lex.proofs.laws.text_has_one_list_of_pieces.Goals as goal

pub returns-clause-one : goal.returns-clause-one
returns-clause-one c = one_list

pub returns-clause-all : goal.returns-clause-all
returns-clause-all c = nothing_lost
