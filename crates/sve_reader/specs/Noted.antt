-- What a watch gave in a call above a revision (own).
use Rattle.std.specs.Prelude.{ℕ, ◌≡◌, nat_lt, List, length, drop, Option, Some}
use Rattle.std.specs.List.{filter}
use Rattle.sve_io.specs.declared.halt.Halt.{Halt}
use Rattle.sve_io.specs.declared.halt.Halt.TheVariants.{Stopped, NoMemory}

-- the numbers above a revision
abbrev pub above : ℕ → List ℕ → List ℕ
above revision numbers = filter (nat_lt revision) numbers

-- what was given since the earlier numbers
abbrev pub since : List ℕ → List ℕ → List ℕ
since earlier now = drop (length earlier) now

-- where a call was stopped, it is by the number that was noted
abbrev pub TellsSeen : Option ℕ → Halt → Type 0
TellsSeen seen (Stopped number) = seen ≡ Some number
TellsSeen seen NoMemory = Unit {0}
