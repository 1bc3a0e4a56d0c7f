use Rattle.sve_generate.proofs.FreeZeros.{is_block_name}
use Rattle.sve_generate.proofs.laws.block_names_are_the_first_free.Goals as goal

pub returns : goal.returns
returns c = λ taken number short. is_block_name taken number short
