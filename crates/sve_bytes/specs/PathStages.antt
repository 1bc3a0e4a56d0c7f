-- How far a reader has come in one step of a path, by what it has read of that step.
use Rattle.std.specs.Prelude.{◌≡◌, ℕ, ◌<◌, ◌≤◌, ◌^◌, ℤ, pos, neg_ℤ, Bool, true, false, Option, IsTrue, MatchOption, List, [], ◌∷◌, ◌++◌, length, if◌then◌else◌}
use Rattle.std.specs.Char.{is_ascii_graphic}
use Rattle.std.specs.Fmt.{decimal}
use Rattle.std.specs.List.{list_all}
use Rattle.sve_bytes.specs.declared.path.Step.{Step}
use Rattle.sve_bytes.specs.declared.path_reading.Found.{Found}
use Rattle.sve_bytes.specs.declared.path_reading.Stage.{Stage}
use Rattle.sve_bytes.specs.declared.path_reading.Stage.TheVariants.{Before, Simple, Escaped, Whole, Open, Minus, Digits}
use Rattle.sve_bytes.specs.PathText.{has_form_of_identifier}
use Rattle.sve_bytes.specs.PathReading.{SpellsName, SpellsStep}

-- the step that was found
abbrev pub step_found : Found → Step
step_found f = record { name = f.name.now; index = f.index }

-- the number that a sign and a size make
abbrev pub signed_value : Bool → ℕ → ℤ
signed_value negative size = if negative then neg_ℤ (pos size) else pos size

-- canonical digits are read: a size of 0 has no sign
abbrev pub digits_text : Bool → ℕ → List ℕ
digits_text negative size = if negative then 45 ∷ decimal size else decimal size

abbrev pub IsSize : Bool → ℕ → Type 0
IsSize true size = (0 < size) × (size ≤ 2 ^ 31)
IsSize false size = size < 2 ^ 31

-- so far there are a text of the name and these bytes
pub record HasNameThen (so_far : List ℕ) (name : List ℕ) (bytes : List ℕ) : Type 0 where
  pub not_empty : 0 < length name
  pub in_limit : length name ≤ 1024
  pub named : List ℕ
  pub spells_name : SpellsName named name
  pub parts : so_far ≡ named ++ bytes

abbrev pub Stands : List ℕ → Stage → Type 0
Stands so_far Before = so_far ≡ []
Stands so_far Simple = IsTrue (has_form_of_identifier so_far) × (length so_far ≤ 1024)
Stands so_far Escaped = (name : List ℕ) × (so_far ≡ 92 ∷ name) × IsTrue (list_all is_ascii_graphic name) × (length name ≤ 1024)
Stands so_far (Whole f) = SpellsStep so_far (step_found f) × (IsTrue (has_form_of_identifier so_far) → ⊥)
Stands so_far (Open name) = HasNameThen so_far name.now (91 ∷ [])
Stands so_far (Minus name) = HasNameThen so_far name.now (91 ∷ 45 ∷ [])
Stands so_far (Digits name negative size) = IsSize negative size × HasNameThen so_far name.now (91 ∷ digits_text negative size)

-- no text of a step begins so
abbrev pub BeginsNoStep : List ℕ → Type 0
BeginsNoStep text = (rest : List ℕ) (s : Step) → SpellsStep (text ++ rest) s → ⊥

-- the reader stands there after one more byte, or no step begins so
abbrev pub GoesOn : List ℕ → ℕ → Option Stage → Type 0
GoesOn so_far byte next = MatchOption next (BeginsNoStep (so_far ++ byte ∷ [])) (Stands (so_far ++ byte ∷ []))

-- the step that has been read whole, or what has been read is no step
abbrev pub IsWhole : List ℕ → Option Found → Type 0
IsWhole so_far found = MatchOption found ((s : Step) → SpellsStep so_far s → ⊥) (λ f. SpellsStep so_far (step_found f))
