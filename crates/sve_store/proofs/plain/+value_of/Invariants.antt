-- A key calls for keys of lower height, and each try tells one more of the keys that it reads.
use Rattle.std.proofs.Common.{◌≡◌}
use Rattle.sve_text.specs.Files.{FilesValue}
use Rattle.sve_store.specs.Made.{values_of, value_in, untold}
use Rattle.sve_store.specs.Values.{OnTheWay}
use Rattle.sve_store.proofs.plain.+value_of.Given as goal

abbrev pub decreases-value_of : goal.decreases-value_of
decreases-value_of g l = g.K.Ending.height l.files.now l.key.now

abbrev pub invariant-tries : goal.invariant-tries
invariant-tries g l = record {
  fit : (all : FilesValue) → g.K.Keyed.fits l.kinds all ≡ g.K.Keyed.fits l.initial.kinds all;
  way : OnTheWay g.K.Key.Ord.cmp (values_of (g.K.Keyed.given l.files)) g.K.Kinds.make l.key l.fuel l.known;
}

abbrev pub decreases-tries : goal.decreases-tries
decreases-tries g l = untold (value_in g.K.Key.Ord.cmp l.known) (g.K.Ending.reads l.files l.key l.fuel)
