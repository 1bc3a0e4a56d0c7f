-- What the parameters without a value that are left add is what all add.
use Rattle.std.proofs.Common.{◌≡◌, drop}
use Rattle.std.specs.List.{fold}
use Rattle.sve_param.specs.Places.{numbered}
use Rattle.sve_param.specs.Giving.{giving_over, missing}
use Rattle.sve_param.proofs.giving.give.Given as goal

abbrev pub invariant-required : goal.invariant-required
invariant-required l = fold (missing l.file l.chunk l.words l.at) l.giving (drop l.parameter-index (numbered l.element).required) ≡ giving_over l.file l.chunk l.element.words.items l.at (numbered l.element) l.fn.overrides.items
