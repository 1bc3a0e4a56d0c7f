-- What an expansion needs and what it asks for (own).
use Rattle.std.specs.Prelude.{◌≡◌, ◌≢◌, ℕ, List, Option, Some, None, Contains, IsSomeAnd}
use Rattle.sve_prep.specs.Told.{Told}
use Rattle.sve_prep.specs.State.{State}
use Rattle.sve_prep.specs.Expansion.{Start, Done, Wants, expand}
use Rattle.sve_prep.specs.Larger.{IsLarger}

-- the name is among those that were asked for, which are noted
abbrev pub IsAsked : List ℕ → Option (List (List ℕ)) → Type 0
IsAsked name asked = IsSomeAnd asked (λ names. Contains names name)

-- a name that is needed over some texts is asked for by the expansion that is done over these and more
abbrev pub NeedsAreAsked : Type 0
NeedsAreAsked =
    (told more : Told) (start : Start) (asked : Option (List (List ℕ))) (names : List (List ℕ)) (root name : List ℕ) (halt last : State) →
    IsLarger told more → expand told start asked root ≡ Wants name halt → expand more start (Some names) root ≡ Done last → IsAsked name last.asked

-- of a name that is needed nothing is told
abbrev pub NeedsAreUntold : Type 0
NeedsAreUntold =
    (told : Told) (start : Start) (asked : Option (List (List ℕ))) (root name : List ℕ) (halt : State) →
    expand told start asked root ≡ Wants name halt → told name ≡ None

-- where something is told of each name, an expansion is done
abbrev pub DoneOverAll : Type 0
DoneOverAll =
    (told : Told) (start : Start) (asked : Option (List (List ℕ))) (root : List ℕ) →
    ((name : List ℕ) → told name ≢ None) → (last : State) × (expand told start asked root ≡ Done last)
