use Rattle.std.proofs.Common.{◌≡◌, ◌+◌, ◌-◌, ◌∷◌, [], ◌++◌, List, map, slice_get, Some, ap, sym, ◌∙◌, arith}
use Rattle.std.proofs.lemmas.List.{take_all}
use Rattle.sve_report.specs.declared.entry.Entry.{Entry}
use Rattle.sve_runner.specs.Honest.{told_entry}
use Rattle.sve_runner.proofs.Ends.{told_next}
use Rattle.sve_runner.proofs.running.told_entries.Goals as goal

pub entries-preserved : goal.entries-preserved
entries-preserved c =
    let entries = c.args.history.now.entries in
    let e = c.entry-entry.result.now in
    let place : c.entries.r + 1 - 1 ≡ c.entries.r = omega arith in
    let there : slice_get entries c.entries.r ≡ Some e = ap (slice_get entries) (sym place) ∙ c.entry-entry.ensures.entry in
    c.in_ok-push.ensures.items ∙ ap (λ (l : List Entry). l ++ told_entry e ∷ []) c.entries.invariant ∙ sym (told_next entries c.entries.r e there)

pub returns : goal.returns
returns c = c.entries.invariant ∙ ap (map told_entry) (take_all c.entries.r c.args.history.now.entries (omega arith))
