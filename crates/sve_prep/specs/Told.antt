-- What an object that holds texts tells (own).
use Rattle.std.specs.Prelude.{◌≡◌, ℕ, ◌≤◌, ◌↔◌, length, List, [], ◌∷◌, ◌++◌, Option, Some, None, option_map, Result, IsErr}
use Rattle.std.specs.declared.sync.Arc.{Arc}
use Rattle.std.specs.declared.alloc.Global.{Global}
use Rattle.sve_io.specs.declared.halt.Halt.{Halt}
use Rattle.sve_io.specs.declared.halt.Halt.TheVariants.{Stopped, NoMemory}

-- what is told of each name: nothing, that no such text is there, or the text
abbrev pub Told : Type 0
Told = List ℕ → Option (Option (List ℕ))

-- what an object may tell of a name
abbrev pub Tells : Type 1
Tells = List ℕ → Option (List ℕ) → Type 0

-- all that the object tells is told
abbrev pub Holds : Told → Tells → Type 0
Holds told tells = (name : List ℕ) (text : Option (List ℕ)) → tells name text → told name ≡ Some text

-- and nothing else is
abbrev pub Matches : Told → Tells → Type 0
Matches told tells = (name : List ℕ) (text : Option (List ℕ)) → tells name text ↔ (told name ≡ Some text)

-- both tell the same
abbrev pub TellSame : Tells → Tells → Type 0
TellSame old new = (name : List ℕ) (text : Option (List ℕ)) → old name text ↔ new name text

-- the bytes of a text that is there
abbrev pub text_in : Option (Arc (List ℕ) Global) → Option (List ℕ)
text_in None = None
text_in (Some text) = Some text.value

-- the names asked for, where they are noted, with one more
abbrev pub noted : List ℕ → Option (List (List ℕ)) → Option (List (List ℕ))
noted name asked = option_map (λ names. names ++ name ∷ []) asked

-- no text is above a mebibyte
abbrev pub IsShort : Option (Arc (List ℕ) Global) → Type 0
IsShort None = Unit {0}
IsShort (Some text) = length text.value ≤ 1048576

-- a halt by a number is one more with which the object stopped
abbrev pub HasStopped : List ℕ → List ℕ → Halt → Type 0
HasStopped old new (Stopped number) = new ≡ old ++ number ∷ []
HasStopped old new NoMemory = Unit {0}

-- a name at which an object halted: it halted there before, or this call fails since nothing is told of the name, which was noted
abbrev pub IsMissing : {R E : Type 0} → Tells → Option (List (List ℕ)) → Option (List (List ℕ)) → List ℕ → Result R E → List ℕ → Type 0
IsMissing tells old new name result other = IsErr result × (other ≡ name) × ((text : Option (List ℕ)) → tells name text → ⊥) × (new ≡ noted name old)
