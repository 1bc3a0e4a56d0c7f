-- Which keys a call asks for, and what it gives (own).
use Rattle.std.specs.Prelude.{ℕ, ◌≡◌, ◌++◌, List, map, Option, Some, None}
use Rattle.sve_origin.specs.Expanded.{ExpandedValue}
use Rattle.sve_prep.specs.State.{State}
use Rattle.sve_index.specs.declared.source.FileElement.{FileElement}
use Rattle.sve_gist.specs.Gists.{Gist, gist_of}
use Rattle.sve_store.specs.Made.{Made, Done}
use Rattle.sve_make.specs.Make.{joined}
use Rattle.sve_key.specs.declared.key.Key.{Key}
use Rattle.sve_key.specs.declared.key.Key.TheVariants.{Text}
use Rattle.sve_key.specs.declared.value.Value.{Value}

-- the key of a text
abbrev pub IsText : Key → Type 0
IsText j = (name : List ℕ) × (j ≡ Text name)

-- the name of which a key is that of the text
abbrev pub name_of : Key → Option (List ℕ)
name_of (Text name) = Some name
name_of key = None

-- any key
abbrev pub IsAny : Key → Type 0
IsAny j = Unit {0}

-- the one key that was asked for, of which nothing is told
abbrev pub IsUntold : (Key → Option Value) → Key → Key → Type 0
IsUntold told k j = (j ≡ k) × (told k ≡ None)

-- an expansion that is done with this text
abbrev pub Expands : Made Key State → ExpandedValue → Type 0
Expands made e = (last : State) × (made ≡ Done last) × (e ≡ record { cells = last.out; diags = last.diags; net_types = last.net_types })

-- the map holds all that is told to whoever asks with no fuel
abbrev pub HoldsFree : (Key → Option Value) → (Key → ℕ → Value → Type 0) → Type 0
HoldsFree told tells = (k : Key) (v : Value) → tells k 0 v → told k ≡ Some v

-- so far elements were added whose gists begin what the whole makes, and the rest makes the others
abbrev pub SoFar : Made Key (List Gist) → Made Key (List Gist) → List FileElement → List FileElement → Type 0
SoFar whole rest old now = (own : List FileElement) × (now ≡ old ++ own) × (whole ≡ joined (Done (map gist_of own)) rest)
