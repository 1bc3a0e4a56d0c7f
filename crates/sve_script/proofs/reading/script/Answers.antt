use Rattle.serde_json.specs.View.{view}
use Rattle.sve_script.proofs.Fitting.{session_fits}
use Rattle.sve_script.proofs.reading.script.Goals as goal

pub returns-in-Ok-session-clause-limits_kept : goal.returns-in-Ok-session-clause-limits_kept
returns-in-Ok-session-clause-limits_kept c = session_fits (view c.in-Ok.value) c.in-Ok-session.read c.in-Ok-session.ensures
