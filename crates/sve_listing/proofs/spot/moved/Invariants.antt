-- The spot goes along with the offset.
use Rattle.std.proofs.Common.{◌≡◌}
use Rattle.sve_listing.specs.Places.{IsSpotIn}
use Rattle.sve_listing.proofs.spot.moved.Given as goal

abbrev pub invariant-bytes : goal.invariant-bytes
invariant-bytes l = IsSpotIn l.text l.spot × (l.spot.at ≡ l.at)
