use Rattle.std.proofs.Common.{◌≡◌, ◌+◌, ◌<◌, length, None, ap, sym, ◌∙◌, subst, arith}
use Rattle.std.specs.Prelude.{All}
use Rattle.sve_text.specs.Files.{files_after}
use Rattle.sve_text.specs.Refusals.{refusal_of}
use Rattle.sve_history.specs.declared.revision.Revision.{Revision}
use Rattle.sve_history.specs.Histories.{HistoryValue, newest_files, commands_of}
use Rattle.sve_history.specs.Revisions.{entries_in}
use Rattle.sve_history.proofs.Revisions.{history-push}
use Rattle.sve_history.proofs.history.History.push.Goals as goal

pub invariant_of-self-2 : goal.invariant_of-self-2
invariant_of-self-2 c =
    let opening = c.self.inside.opening in
    let revisions = c.self.inside.revisions.items in
    let made : Revision = record { entry = c.args.entry; files = c.in_ok-files.files } in
    let before : HistoryValue = record { opening = opening; entries = entries_in revisions } in
    let same : before ≡ c.args.self.now = c.self.view_is in
    let number : c.len-r.result + 1 ≡ length before.entries + 1 = omega (arith, c.len-r.ensures, ap (λ (h : HistoryValue). length h.entries) same) in
    let newest : c.newest.result.now ≡ newest_files before = c.newest.ensures ∙ sym (ap newest_files same) in
    let files : made.files ≡ files_after (length before.entries + 1) (newest_files before) made.entry.edits =
    c.in_ok-files.ensures.files ∙ (λ k. files_after (number k) (newest k) (c.items.ensures k)) in
    rw c.in_ok-push.ensures.items
    (history-push opening revisions made c.self.invariant files
    (subst (λ (h : HistoryValue). refusal_of (newest_files h) made.entry.edits ≡ None) (sym same) c.requires.not_refused)
    (subst (λ (h : HistoryValue). All (λ earlier. earlier < made.entry.command) (commands_of made.entry.client h.entries)) (sym same) c.requires.rises))
