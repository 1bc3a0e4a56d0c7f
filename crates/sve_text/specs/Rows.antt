-- Rows of files: what stands at each name, in byte order of the names.
use Rattle.std.specs.Prelude.{ℕ, ◌≤◌, Bool, List, [], ◌∷◌, Option, Some, None, length, is_some, option_and_then, if◌then◌else◌, IfSome, ◌≡◌}
use Rattle.std.specs.declared.cmp.Ordering.{Ordering}
use Rattle.std.specs.declared.cmp.Ordering.TheVariants.{Less}
use Rattle.std.specs.Ordering.{nat_cmp, match_ordering}
use Rattle.std.specs.Option.{option_map_or}
use Rattle.std.specs.Cmp.Lexicographic.{slice_cmp}
use Rattle.sve_text.specs.declared.edit.TheConstants.{MAX_FILE_LEN}

-- A name that was touched: its text, where it is there, and the revision whose commit last touched it.
pub record Row : Type 0 where
  pub name : List ℕ
  pub text : Option (List ℕ)
  pub stamp : ℕ

-- the order of names is that of their bytes
abbrev pub name_cmp : List ℕ → List ℕ → Ordering
name_cmp = slice_cmp nat_cmp

-- the row of a name
abbrev pub row_of : List Row → List ℕ → Option Row
row_of [] name = None
row_of (row ∷ rows) name = match_ordering (name_cmp name row.name) (row_of rows name) (Some row) (row_of rows name)

-- the text of a name, where it is there
abbrev pub text_of : List Row → List ℕ → Option (List ℕ)
text_of rows name = option_and_then (λ row. row.text) (row_of rows name)

abbrev pub is_there : List Row → List ℕ → Bool
is_there rows name = is_some (text_of rows name)

-- the revision whose commit last touched the name, or 0
abbrev pub stamp_of : List Row → List ℕ → ℕ
stamp_of rows name = option_map_or (λ row. row.stamp) (row_of rows name) 0

-- the names that are there, in the order of the rows
abbrev pub names_in : List Row → List (List ℕ)
names_in [] = []
names_in (row ∷ rows) = if is_some row.text then row.name ∷ names_in rows else names_in rows

-- how many files are there
abbrev pub count : List Row → ℕ
count rows = length (names_in rows)

-- the rows with this one at its name, and all others as they are
abbrev pub put_row : Row → List Row → List Row
put_row new [] = new ∷ []
put_row new (row ∷ rows) = match_ordering (name_cmp new.name row.name) (new ∷ row ∷ rows) (new ∷ rows) (row ∷ put_row new rows)

-- every name of the rows comes after this one
abbrev pub AllAfter : List ℕ → List Row → Type 0
AllAfter name [] = Unit {0}
AllAfter name (row ∷ rows) = (name_cmp name row.name ≡ Less) × AllAfter name rows

-- the names rise
abbrev pub IsInOrder : List Row → Type 0
IsInOrder [] = Unit {0}
IsInOrder (row ∷ rows) = AllAfter row.name rows × IsInOrder rows

-- the text is no longer than a file may be
abbrev pub IsInLimit : List ℕ → Type 0
IsInLimit text = length text ≤ MAX_FILE_LEN

-- no text of the rows is above the limit
abbrev pub RowsFit : List Row → Type 0
RowsFit [] = Unit {0}
RowsFit (row ∷ rows) = IfSome row.text IsInLimit × RowsFit rows
