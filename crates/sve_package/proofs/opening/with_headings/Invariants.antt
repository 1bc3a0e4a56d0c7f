-- The scope so far is what the declarations so far make of the first.
use Rattle.std.proofs.Common.{◌≡◌, take}
use Rattle.std.specs.List.{fold}
use Rattle.sve_package.specs.Opening.{with_heading}
use Rattle.sve_package.proofs.opening.with_headings.Given as goal

abbrev pub invariant-headings : goal.invariant-headings
invariant-headings l = l.opening ≡ fold (with_heading l.words) l.fn.opening (take l.heading-index l.headings)
