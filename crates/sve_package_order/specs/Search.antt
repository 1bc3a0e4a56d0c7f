-- What is known of the rounds of packages while they are sought. A package is a place in the list of what each imports.
use Rattle.std.specs.Prelude.{◌≡◌, ◌<◌, ◌≤◌, ◌+◌, ℕ, suc, max, Bool, true, false, List, [], ◌∷◌, length, take, slice_get, count_by, Option, Some, None}
use Rattle.sve_package_order.specs.declared.progress.Progress.{Progress}
use Rattle.sve_package_order.specs.declared.progress.Progress.TheVariants.{Waits, Settled}

-- the round that is found
abbrev pub found : Progress → Option ℕ
found (Waits at round) = None
found (Settled round) = Some round

abbrev pub found_there : Option Progress → Option ℕ
found_there None = None
found_there (Some p) = found p

-- the round of the package at a place, where it is found
abbrev pub settled : List Progress → ℕ → Option ℕ
settled progress place = found_there (slice_get progress place)

abbrev pub is_waiting : Progress → Bool
is_waiting (Waits at round) = true
is_waiting (Settled round) = false

-- the first round that is above a round and not below another, where both are known
abbrev pub above : Option ℕ → Option ℕ → Option ℕ
above None m = None
above (Some r) None = None
above (Some r) (Some m) = Some (max (suc r) m)

-- the first round that is above those of all these, where all are known
unfoldable pub next_round : (ℕ → Option ℕ) → List ℕ → Option ℕ
next_round round [] = Some 0
next_round round (q ∷ qs) = above (round q) (next_round round qs)

-- What is so of a package that imports these: it has the next round of all of them, and there are so many packages without one;
-- or it waits for one of them, and this is the next round of those in front.
abbrev pub Stands : List Progress → ℕ → List ℕ → Option Progress → Type 0
Stands progress left qs None = Unit {0}
Stands progress left qs (Some (Waits at round)) = (at ≤ length qs) × (next_round (settled progress) (take at qs) ≡ Some round)
Stands progress left qs (Some (Settled round)) = (round + left < length progress) × (next_round (settled progress) qs ≡ Some round)

pub record Fits (graph : List (List ℕ)) (progress : List Progress) (left : ℕ) : Type 0 where
  pub sized : length progress ≡ length graph
  pub counted : left ≡ count_by is_waiting progress
  pub stands : (p : ℕ) (qs : List ℕ) → slice_get graph p ≡ Some qs → Stands progress left qs (slice_get progress p)

-- how far a package is that imports these
abbrev pub Leads : List Progress → List ℕ → Progress → Type 0
Leads progress qs (Waits at round) =
    (at < length qs) × (next_round (settled progress) (take at qs) ≡ Some round) × (next_round (settled progress) qs ≡ None)
Leads progress qs (Settled round) = next_round (settled progress) qs ≡ Some round

-- the packages in front of a place have the next round of what they import, or none where that has none
abbrev pub SolvesBelow : List (List ℕ) → List Progress → ℕ → Type 0
SolvesBelow graph progress k = (p : ℕ) (qs : List ℕ) → p < k → slice_get graph p ≡ Some qs → settled progress p ≡ next_round (settled progress) qs

abbrev pub Solves : List (List ℕ) → List Progress → Type 0
Solves graph progress = (p : ℕ) (qs : List ℕ) → slice_get graph p ≡ Some qs → settled progress p ≡ next_round (settled progress) qs

-- a package was tried: where none was settled, the same is known as before, and the package can have no round yet
abbrev pub Tried : List (List ℕ) → ℕ → List Progress → List Progress → Type 0
Tried graph place old new =
    (settled new ≡ settled old) × ((qs : List ℕ) → slice_get graph place ≡ Some qs → settled new place ≡ next_round (settled new) qs)
