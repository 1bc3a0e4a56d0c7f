use Rattle.std.proofs.Common.{◌≡◌, ℕ, List, false, true, cond, sym, subst, ◌∙◌}
use Rattle.std.specs.Ordering.{nat_cmp, is_eq}
use Rattle.std.specs.Cmp.Lexicographic.{slice_cmp}
use Rattle.std.specs.BTreeSet.{contains}
use Rattle.serde_json.specs.View.{items_view}
use Rattle.sve_script.specs.Session.{files_as}
use Rattle.sve_script.proofs.NewNames.{one_more}
use Rattle.sve_script.proofs.opening.files_in.Goals as goal

pub loop-i-preserved : goal.loop-i-preserved
loop-i-preserved c =
    let updates = subst (λ (name : List ℕ). (q : List ℕ) → contains (slice_cmp nat_cmp) c.insert.new.self q ≡ cond (is_eq (slice_cmp nat_cmp name q)) true (contains (slice_cmp nat_cmp) c.loop-i.used q)) c.in_ok-copy-in-Ok.ensures c.in_ok-insert-in-Ok.ensures.updates.0 in
    rw c.in_ok-push-in-Ok.ensures.items
    (one_more (contains (slice_cmp nat_cmp) c.loop-i.used) (contains (slice_cmp nat_cmp) c.insert.new.self) c.args.items.now c.loop-i.files.items c.loop-i.i c.in-Ok.file c.index-items-i.result
    (files_as (λ name. false) 0 (items_view c.args.items.now)) c.loop-i-test.true c.index-items-i.is (sym c.in-Ok.is ∙ c.in_ok-file.ensures) updates c.loop-i.invariant)
