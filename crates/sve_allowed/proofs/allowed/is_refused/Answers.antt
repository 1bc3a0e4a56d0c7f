use Rattle.std.proofs.Common.{◌≡◌, ◌↔◌, Option, Some, ap, ◌∙◌, subst}
use Rattle.std.specs.Prelude.{IsTrue}
use Rattle.sve_text.specs.declared.why.Refusal.{Refusal}
use Rattle.sve_text.specs.Files.{FilesValue}
use Rattle.sve_text.specs.Refusals.{refusal_of}
use Rattle.sve_history.specs.Histories.{newest_files}
use Rattle.sve_allowed.proofs.MayCome.{has_reason}
use Rattle.sve_allowed.proofs.allowed.is_refused.Goals as goal

pub returns : goal.returns
returns g c =
    let found : c.refusal.result ≡ refusal_of (newest_files c.args.world.now.history) c.args.edits.now =
    c.refusal.ensures ∙ ap (λ (files : FilesValue). refusal_of files c.args.edits.now) (c.newest.ensures ∙ ap newest_files c.history.ensures) in
    subst (λ (r : Option Refusal). IsTrue c.is_some.result ↔ ((reason : Refusal) × (r ≡ Some reason))) found (has_reason c.refusal.result c.is_some.result c.is_some.ensures)
