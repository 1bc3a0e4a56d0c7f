-- How bytes move between a caller and a source or a sink.
use Rattle.std.specs.Prelude.{◌≡◌, ℕ, ◌<◌, ◌≤◌, List, ◌++◌, Option}
use Rattle.std.specs.Option.{option_map}

-- a call moves at most so many bytes, and at least one where it may move one (own)
abbrev pub Advances : ℕ → ℕ → Type 0
Advances count most = (count ≤ most) × (0 < most → 0 < count)

-- `moved` came off the front of the bytes that were left. A source that tells its bytes goes on telling
-- them, and one that does not goes on not telling (own)
abbrev pub Loses : Option (List ℕ) → Option (List ℕ) → List ℕ → Type 0
Loses before after moved = before ≡ option_map (λ left. moved ++ left) after

-- `moved` came behind the bytes that were held. A sink that tells its bytes goes on telling them, and
-- one that does not goes on not telling (own)
abbrev pub Gains : Option (List ℕ) → Option (List ℕ) → List ℕ → Type 0
Gains before after moved = after ≡ option_map (λ held. held ++ moved) before
