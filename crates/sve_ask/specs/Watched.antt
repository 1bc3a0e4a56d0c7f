-- What a watch gave in a call, and why the call was stopped (own).
use Rattle.std.specs.Prelude.{ℕ, ◌≡◌, ◌<◌, ◌++◌, List, [], ◌∷◌, Option, Some, None, Result, Ok, Err}
use Rattle.sve_io.specs.declared.halt.Halt.{Halt}
use Rattle.sve_io.specs.declared.halt.Halt.TheVariants.{Stopped, NoMemory}
use Rattle.sve_store.specs.Made.{IsOneOf}

-- the numbers that one look gives
abbrev pub look_gives : Option ℕ → List ℕ
look_gives None = []
look_gives (Some n) = n ∷ []

-- where it is a stop, its number is one of these, and above r
abbrev pub IsCaused : Halt → ℕ → List ℕ → Type 0
IsCaused NoMemory r gave = Unit {0}
IsCaused (Stopped n) r gave = (r < n) × IsOneOf gave n

-- so it is where the call halted
abbrev pub HasCause : {A : Type 0} → Result A Halt → ℕ → List ℕ → Type 0
HasCause (Ok x) r gave = Unit {0}
HasCause (Err e) r gave = IsCaused e r gave

-- the watch gave more numbers
abbrev pub GaveMore : List ℕ → List ℕ → Type 0
GaveMore before after = (more : List ℕ) × (after ≡ before ++ more)

-- the watch gave more numbers in the call, and where the call was stopped, its number is one of them and above r
abbrev pub IsWatched : {A : Type 0} → Result A Halt → ℕ → List ℕ → List ℕ → Type 0
IsWatched result r before after = (more : List ℕ) × (after ≡ before ++ more) × HasCause result r more

-- how many values a halt has lost: one where there was no memory to keep it
abbrev pub lost : Halt → ℕ
lost NoMemory = 1
lost (Stopped n) = 0

abbrev pub spare : {A : Type 0} → Result A Halt → ℕ
spare (Ok x) = 0
spare (Err e) = lost e

-- one value, or none where the call was stopped before
abbrev pub spent : {A : Type 0} → Result A Halt → ℕ
spent (Ok x) = 1
spent (Err e) = lost e
