-- What a step comes to over what an object tells, and where it is halted (own).
use Rattle.std.specs.Prelude.{◌≡◌, ℕ, List, Option, Some, None}
use Rattle.sve_prep.specs.Told.{Told, Tells, Holds, Matches}
use Rattle.sve_prep.specs.State.{State}
use Rattle.sve_prep.specs.Uses.{Next, Needs}
use Rattle.sve_prep.specs.Expansion.{Outcome, Wants}

-- the step needs the name, after asking for these
abbrev pub IsHalted : List ℕ → Option (List (List ℕ)) → Next → Type 0
IsHalted name asked next = (s : State) × (next ≡ Needs name s) × (s.asked ≡ asked)

-- and so does the whole
abbrev pub IsWanting : List ℕ → Option (List (List ℕ)) → Outcome → Type 0
IsWanting name asked outcome = (s : State) × (outcome ≡ Wants name s) × (s.asked ≡ asked)

-- f comes to this over whatever holds what the object tells, and over some such map
pub record StepsTo (tells : Tells) (f : Told → Next) (next : Next) : Type 0 where
  pub some : Told
  pub by_some : f some ≡ next
  pub by_all : (told : Told) → Holds told tells → f told ≡ next

-- where the object halts at a name in a call, the call fails, and f needs the name over what the object tells
abbrev pub HaltsAt : Tells → Option (List ℕ) → Option (List ℕ) → Option (List (List ℕ)) → Type 0 → (Told → Next) → Type 0
HaltsAt tells old new asked failed f =
    (told : Told) → Matches told tells → old ≡ None → (name : List ℕ) → new ≡ Some name → failed × IsHalted name asked (f told)
