use Rattle.sve_script.proofs.Readings.{read_somehow}
use Rattle.sve_script.proofs.one_reading.bytes_have_one_reading.Goals as goal

pub returns-clause-none_left_out : goal.returns-clause-none_left_out
returns-clause-none_left_out c = read_somehow
