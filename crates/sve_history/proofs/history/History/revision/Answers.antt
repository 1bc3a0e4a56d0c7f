use Rattle.std.proofs.Common.{◌≡◌, ℕ, suc, ◌-◌, ◌<◌, length, ap, ◌∙◌, arith}
use Rattle.sve_history.specs.declared.revision.Revision.{Revision}
use Rattle.sve_history.specs.Histories.{HistoryValue, files_at}
use Rattle.sve_history.specs.Revisions.{entries_in}
use Rattle.sve_history.proofs.Revisions.{length-entries_in, files_held}
use Rattle.sve_history.proofs.history.History.revision.Goals as goal

pub returns-else-r-eq0 : goal.returns-else-r-eq0
returns-else-r-eq0 c =
    let opening = c.self.inside.opening in
    let revisions = c.self.inside.revisions.items in
    let r = c.args.r in
    let long : length (entries_in revisions) ≡ length c.args.self.now.entries = ap (λ (h : HistoryValue). length h.entries) c.self.view_is in
    let within : r - 1 < length revisions = omega (arith, long, length-entries_in revisions, c.requires.made, c.if-r-eq0.false) in
    let number : suc (r - 1) ≡ r = omega (arith, c.if-r-eq0.false) in
    record {
      files =
          ap (λ (x : Revision). x.files) c.index.ensures
          ∙ files_held 0 opening revisions (r - 1) c.index.result.now c.self.invariant.files within
          ∙ ap (λ (n : ℕ). files_at opening (entries_in revisions) n) number
          ∙ ap (λ (h : HistoryValue). files_at h.opening h.entries r) c.self.view_is;
    }
