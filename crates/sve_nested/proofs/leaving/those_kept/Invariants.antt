-- With those that are left, the declarations so far that stay are all that stay.
use Rattle.std.proofs.Common.{◌≡◌, [], drop}
use Rattle.std.specs.List.{fold}
use Rattle.sve_nested.specs.Blocks.{with_kept}
use Rattle.sve_nested.proofs.leaving.those_kept.Given as goal

abbrev pub invariant-places : goal.invariant-places
invariant-places l = fold (with_kept l.entered) l.kept (drop l.place l.all) ≡ fold (with_kept l.entered) [] l.all
