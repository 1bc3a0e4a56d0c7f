use Rattle.sve_make.proofs.Values.{tokens_value, chunks_value}
use Rattle.sve_make.proofs.IndexValue.{index_value}
use Rattle.sve_make.proofs.values_are_those_of_the_files.Goals as goal

pub returns-clause-tokens : goal.returns-clause-tokens
returns-clause-tokens c = tokens_value

pub returns-clause-chunks : goal.returns-clause-chunks
returns-clause-chunks c = chunks_value

pub returns-clause-index : goal.returns-clause-index
returns-clause-index c = index_value
