-- What an object tells of the files of some names (own).
use Rattle.std.specs.Prelude.{ℕ, ◌≡◌, List, [], ◌∷◌, ◌++◌, Option, IfSome}
use Rattle.sve_text.specs.Rows.{IsInLimit}
use Rattle.sve_key.specs.declared.key.Key.{Key}
use Rattle.sve_key.specs.declared.key.Key.TheVariants as keys
use Rattle.sve_key.specs.declared.value.Value.{Value}
use Rattle.sve_key.specs.Values.{text_in_value}
use Rattle.sve_gathered.specs.Gathered.{file_of}

-- the file of a name was added, where it has a text, which is not above the limit
abbrev pub AddsText : List ℕ → Option (List ℕ) → List (List ℕ × List ℕ) → List (List ℕ × List ℕ) → Type 0
AddsText name text old new = IfSome text IsInLimit × (new ≡ old ++ file_of name text)

-- the file of a name was added, with the text that is told of it
abbrev pub AddsFile : (Key → ℕ → Value → Type 0) → List ℕ → List (List ℕ × List ℕ) → List (List ℕ × List ℕ) → Type 0
AddsFile tells name old new = (v : Value) × tells (keys.Text name) 0 v × AddsText name (text_in_value v).text old new

-- the files of these names, each with the text that is told of it
abbrev pub AreTold : (Key → ℕ → Value → Type 0) → List (List ℕ) → List (List ℕ × List ℕ) → Type 0
AreTold tells [] files = files ≡ []
AreTold tells (name ∷ names) files = (others : List (List ℕ × List ℕ)) × AreTold tells names others × ((v : Value) × tells (keys.Text name) 0 v × IfSome (text_in_value v).text IsInLimit × (files ≡ file_of name (text_in_value v).text ++ others))
