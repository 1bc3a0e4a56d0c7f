use Rattle.sve_report.proofs.Linted.{linted_reports_read_back}
use Rattle.sve_report.proofs.reporting.linted_reports_are_read_back.Goals as goal

pub returns : goal.returns
returns c = linted_reports_read_back
