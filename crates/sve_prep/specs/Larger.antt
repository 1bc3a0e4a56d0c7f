-- What is done over one map of texts is done alike over every larger one (own).
use Rattle.std.specs.Prelude.{◌≡◌, ℕ, List, Option, Some}
use Rattle.sve_prep.specs.Told.{Told}
use Rattle.sve_prep.specs.State.{State}
use Rattle.sve_prep.specs.Expansion.{Start, Done, expand}

-- the second tells all that the first tells
abbrev pub IsLarger : Told → Told → Type 0
IsLarger told more = (name : List ℕ) (text : Option (List ℕ)) → told name ≡ Some text → more name ≡ Some text

abbrev pub DoneAlike : Type 0
DoneAlike =
    (told more : Told) (start : Start) (asked : Option (List (List ℕ))) (root : List ℕ) (last : State) →
    IsLarger told more → expand told start asked root ≡ Done last → expand more start asked root ≡ Done last
