use Rattle.sve_serve.proofs.OneReport.{one_report}
use Rattle.sve_serve.proofs.laws.clients_in_turn_have_one_report.Goals as goal

pub returns : goal.returns
returns c = one_report
