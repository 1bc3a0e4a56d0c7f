use Rattle.std.proofs.Common.{◌≡◌, ◌++◌, drop, false}
use Rattle.std.specs.Ordering.{nat_cmp}
use Rattle.std.specs.Cmp.Lexicographic.{slice_cmp}
use Rattle.std.specs.BTreeSet.{contains}
use Rattle.serde_json.specs.View.{items_view}
use Rattle.sve_shape.specs.Shapes.{shaped_map}
use Rattle.sve_script.specs.Session.{files_as}
use Rattle.sve_script.proofs.opening.files_in.Given as goal

-- all files are those so far, followed by what the rest is taken for where the names so far are used
abbrev pub invariant-loop-i : goal.invariant-loop-i
invariant-loop-i l = files_as (λ name. false) 0 (items_view l.items) ≡ shaped_map (λ rest. l.files.items ++ rest) (files_as (contains (slice_cmp nat_cmp) l.used) l.i (items_view (drop l.i l.items)))
