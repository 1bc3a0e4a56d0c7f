-- The texts of files as the values of keys.
use Rattle.std.specs.Prelude.{ℕ, ◌≡◌, leb, if◌then◌else◌, List, [], ◌∷◌, length, Option, Some, None}
use Rattle.sve_bytes.specs.FileName.{is_file_name_of}
use Rattle.sve_text.specs.Rows.{text_of, stamp_of}
use Rattle.sve_text.specs.Files.{FilesValue}
use Rattle.sve_store.specs.Made.{Made, Done}
use Rattle.sve_store.specs.declared.answer.Answer.{Answer}
use Rattle.sve_store.specs.declared.answer.Answer.TheVariants.{Done as Answered, Spent}

-- the text that the name of a file has, if any, with its stamp
abbrev pub text_at : FilesValue → List ℕ → Option (Option (List ℕ) × ℕ)
text_at files name = if is_file_name_of name then Some (text_of files.rows name, stamp_of files.rows name) else None

-- a name that no file may have has no text
abbrev pub made : List ℕ → ℕ → (List ℕ → Option (Option (List ℕ))) → Made (List ℕ) (Option (List ℕ))
made name fuel told = Done None

-- a text is one line and costs its length; a file that is not there has no line and costs nothing
abbrev pub lines_of : ℕ → Option (List ℕ) → Answer
lines_of budget None = Answered []
lines_of budget (Some text) = if leb (length text) budget then Answered (text ∷ []) else Spent

-- what is told of a name within a budget
abbrev pub told_of : (List ℕ → ℕ → Option (List ℕ)) → List ℕ → ℕ → Answer
told_of table name budget = lines_of budget (table name 0)

-- it asks for the text of the name alone
abbrev pub asks_for : (List ℕ → ℕ → Option (List ℕ)) → List ℕ → ℕ → List ℕ → ℕ → Type 0
asks_for table name budget key fuel = (key ≡ name) × (fuel ≡ 0)
