-- Which texts spell a path, and which begin one (own). A simple identifier may be escaped too.
use Rattle.std.specs.Prelude.{◌≡◌, ℕ, ◌<◌, ◌≤◌, ◌^◌, ◌⊎◌, ℤ, pos, neg_ℤ, ◌≤ℤ◌, ◌<ℤ◌, Option, Some, None, IsTrue, List, [], ◌∷◌, ◌++◌, length, take, Result, Ok, Err}
use Rattle.std.specs.Char.{is_ascii_graphic}
use Rattle.std.specs.List.{list_all}
use Rattle.sve_bytes.specs.declared.path.Path.{Path}
use Rattle.sve_bytes.specs.declared.path.Step.{Step}
use Rattle.sve_bytes.specs.declared.path_reading.BadPath.{BadPath}
use Rattle.sve_bytes.specs.declared.path_reading.BadPath.TheVariants.{At, NoMemory}
use Rattle.sve_bytes.specs.PathText.{is_simple_identifier, escaped, index_text}

-- an index has 32 bits, with a sign
abbrev pub IsIndex : Option ℤ → Type 0
IsIndex None = Unit {0}
IsIndex (Some v) = (neg_ℤ (pos (2 ^ 31)) ≤ℤ v) × (v <ℤ pos (2 ^ 31))

-- a name has 1 to 1,024 bytes
pub record IsStep (s : Step) : Type 0 where
  pub not_empty : 0 < length s.name
  pub in_limit : length s.name ≤ 1024
  pub index : IsIndex s.index

-- a simple identifier as it is; or any name of the bytes 0x21 to 0x7E escaped (IEEE 1800-2017, 5.6.1)
abbrev pub SpellsName : List ℕ → List ℕ → Type 0
SpellsName text name = (IsTrue (is_simple_identifier name) × (text ≡ name)) ⊎ (IsTrue (list_all is_ascii_graphic name) × (text ≡ escaped name))

-- a text of the name, then the text of the index
pub record SpellsStep (text : List ℕ) (s : Step) : Type 0 where
  pub is_step : IsStep s
  pub named : List ℕ
  pub spells_name : SpellsName named s.name
  pub whole : text ≡ named ++ index_text s.index

-- a dot before each step
abbrev pub SpellsFurther : List ℕ → List Step → Type 0
SpellsFurther text [] = text ≡ []
SpellsFurther text (s ∷ ss) = (first : List ℕ) × (rest : List ℕ) × SpellsStep first s × (text ≡ 46 ∷ first ++ rest) × SpellsFurther rest ss

-- the steps of a path, a dot between each and the next; no byte spells the path without steps
abbrev pub Spells : List ℕ → List Step → Type 0
Spells text [] = text ≡ []
Spells text (s ∷ ss) = (first : List ℕ) × (rest : List ℕ) × SpellsStep first s × (text ≡ first ++ rest) × SpellsFurther rest ss

-- some bytes after it make it the text of a path
abbrev pub BeginsPath : List ℕ → Type 0
BeginsPath text = (rest : List ℕ) × (steps : List Step) × Spells (text ++ rest) steps

-- the longest prefix of a text that begins a path has n bytes
pub record IsLongestBeginning (text : List ℕ) (n : ℕ) : Type 0 where
  pub within : n ≤ length text
  pub begins : BeginsPath (take n text)
  pub longest : (m : ℕ) → n < m → m ≤ length text → BeginsPath (take m text) → ⊥

-- a text is no path, and its longest prefix that begins one has n bytes
pub record StopsAt (text : List ℕ) (n : ℕ) : Type 0 where
  pub no_path : (steps : List Step) → Spells text steps → ⊥
  pub stop : IsLongestBeginning text n

-- the steps of a path whose names have only bytes that an escaped identifier may have
abbrev pub AreReadable : List Step → Type 0
AreReadable [] = Unit {0}
AreReadable (s ∷ ss) = IsStep s × IsTrue (list_all is_ascii_graphic s.name) × AreReadable ss

-- these steps were read, or there was no memory for them
abbrev pub ReadsAs : Result Path BadPath → List Step → Type 0
ReadsAs (Ok p) steps = p.steps ≡ steps
ReadsAs (Err (At n)) steps = ⊥
ReadsAs (Err NoMemory) steps = Unit {0}
