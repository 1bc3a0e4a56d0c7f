-- What the names so far come to.
use Rattle.std.proofs.Common.{◌≡◌, take}
use Rattle.std.specs.List.{fold}
use Rattle.sve_ahead.specs.Ahead.{with_heading}
use Rattle.sve_ahead.proofs.gathering.of_headings.Given as goal

abbrev pub invariant-headings : goal.invariant-headings
invariant-headings l = l.gathered ≡ fold (with_heading l.words) l.fn.gathered (take l.heading-index l.headings)
