-- Keys that are computed one from another (own): how long the text of the file `a` is, how many pairs of bytes that is, and how many pairs of pairs.
use Rattle.std.specs.Prelude.{ℕ, ◌≡◌, ◌+◌, ◌/◌, ◌%◌, Bool, true, false, List, [], ◌∷◌, length, Option, Some, None}
use Rattle.sve_text.specs.Rows.{text_of, stamp_of}
use Rattle.sve_text.specs.Files.{FilesValue}
use Rattle.sve_told.specs.Made.{Made, Done, with_key}
use Rattle.sve_store.specs.declared.answer.Answer.{Answer}
use Rattle.sve_store.specs.declared.answer.Answer.TheVariants.{Done as Answered}
use Rattle.sve_toy.specs.declared.kinds.Key.{Key}
use Rattle.sve_toy.specs.declared.kinds.Key.TheVariants.{Length, Pairs, Quads}

-- the name of the file
abbrev pub file_a : List ℕ
file_a = 97 ∷ []

-- how long a text is; one that is not there is empty
abbrev pub length_of : Option (List ℕ) → ℕ
length_of None = 0
length_of (Some text) = length text

-- the length is read off the files, with the stamp of the text
abbrev pub given_of : FilesValue → Key → Option (ℕ × ℕ)
given_of files Length = Some (length_of (text_of files.rows file_a), stamp_of files.rows file_a)
given_of files Pairs = None
given_of files Quads = None

abbrev pub is_given : Key → Bool
is_given Length = true
is_given Pairs = false
is_given Quads = false

-- the others are halves, each of the one before
abbrev pub make_of : Key → ℕ → (Key → Option ℕ) → Made Key ℕ
make_of Length fuel told = Done 0
make_of Pairs fuel told = with_key Length (told Length) (λ n. Done (n / 2))
make_of Quads fuel told = with_key Pairs (told Pairs) (λ n. Done (n / 2))

abbrev pub rank_of : Key → ℕ
rank_of Length = 0
rank_of Pairs = 1
rank_of Quads = 2

abbrev pub reads_of : Key → List Key
reads_of Length = []
reads_of Pairs = Length ∷ []
reads_of Quads = Pairs ∷ []

-- a number is told by its last digit, as one line
abbrev pub digit_of : ℕ → Answer
digit_of n = Answered (((48 + n % 10) ∷ []) ∷ [])

-- a key is told by its value
abbrev pub told_of : (Key → ℕ → ℕ) → Key → ℕ → Answer
told_of table key budget = digit_of (table key 0)

-- it is all that is asked for
abbrev pub asks_for : (Key → ℕ → ℕ) → Key → ℕ → Key → ℕ → Type 0
asks_for table asked budget key fuel = (key ≡ asked) × (fuel ≡ 0)
