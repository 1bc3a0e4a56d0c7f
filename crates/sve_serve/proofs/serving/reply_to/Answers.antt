use Rattle.std.proofs.Common.{ℕ, List, subst}
use Rattle.sve_script.specs.Session.{IsSession}
use Rattle.sve_serve.proofs.Sessions.{session_opening, reported_output}
use Rattle.sve_serve.proofs.serving.reply_to.Goals as goal

pub report_of-requires-clause-opening : goal.report_of-requires-clause-opening
report_of-requires-clause-opening g c κs within =
    session_opening c.args.bytes.items c.in-Ok.script (subst (λ (b : List ℕ). IsSession b c.in-Ok.script) c.deref.ensures.value c.in-Ok.ensures.session)

pub returns-in-Ok : goal.returns-in-Ok
returns-in-Ok g c =
    let session : IsSession c.args.bytes.items c.in-Ok.script = subst (λ (b : List ℕ). IsSession b c.in-Ok.script) c.deref.ensures.value c.in-Ok.ensures.session in
    reported_output c.args.options _ c.args.bytes.items c.in-Ok.script c.report_of.result session c.report_of.ensures.status c.report_of.ensures.text
