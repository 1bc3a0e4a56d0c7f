use Rattle.std.proofs.Common.{◌≡◌, ℕ, ◌||◌, List, drop}
use Rattle.std.specs.Ordering.{nat_cmp}
use Rattle.std.specs.Cmp.Lexicographic.{slice_cmp}
use Rattle.std.specs.BTreeSet.{contains}
use Rattle.sve_survey.specs.Lint.{is_among}
use Rattle.sve_survey.proofs.unconnections.set_of.Given as goal

-- a name is one of all where it is in the set or one of the rest
abbrev pub invariant-names : goal.invariant-names
invariant-names l = (q : List ℕ) → is_among l.names q ≡ (contains (slice_cmp nat_cmp) l.set q || is_among (drop l.name-index l.names) q)
