use Rattle.sve_report.proofs.ReadBack.{reports_read_back}
use Rattle.sve_report.proofs.reporting.reports_are_read_back.Goals as goal

pub returns : goal.returns
returns c = reports_read_back
