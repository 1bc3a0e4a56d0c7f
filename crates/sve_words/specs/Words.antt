-- What the words of the command line ask for (own).
use Rattle.std.specs.Prelude.{ℕ, ◌≤◌, ◌==◌, ◌&&◌, ◌||◌, Bool, true, false, not, List, [], ◌∷◌, Option, Some, None, fold, count_by, length, take, nat_le, nat_lt, bytes_eq, codes, decimal, if◌then◌else◌}
use Rattle.std.specs.List.{list_any}
use Rattle.std.specs.Str.Parse.{digits_value}
use Rattle.clap.specs.Lexer.{long_of}
use Rattle.sve_words.specs.declared.request.Options.{Options}
use Rattle.sve_words.specs.declared.request.Spoken.{Spoken}
use Rattle.sve_words.specs.declared.request.Spoken.TheVariants.{Run, Make, Usage}
use Rattle.sve_words.specs.declared.digits.TheConstants.{MAX_BUDGET, MAX_MADE}

-- the number that the text writes: the decimal digits of a number from 1 to the most, without sign or leading zero
abbrev pub number_to : ℕ → List ℕ → Option ℕ
number_to most text =
    let n = digits_value 10 text in
    if nat_le 1 n && nat_le n most && bytes_eq (decimal n) text then Some n else None

-- the number of steps that it writes
abbrev pub number_of : List ℕ → Option ℕ
number_of text = number_to MAX_BUDGET text

-- what options say: the text of the budget, where one was said, whether the clients are to run one after another, and whether lint rules are to see the last
-- revision
pub record Choice : Type 0 where
  pub budget : Option (List ℕ)
  pub serial : Bool
  pub lint : Bool

-- no option
abbrev pub no_choice : Choice
no_choice = record { budget = None; serial = false; lint = false }

-- what is said by the words so far
pub data Said : Type 0 where
  said : Choice → Said
  -- `--budget`, whose number is the next word
  waits : Choice → Said
  wrong : Said

-- `--budget`, or `--budget=` and its number
abbrev pub after_budget : Option (List ℕ) → Choice → Said
after_budget None choice = waits choice
after_budget (Some text) choice = said (record choice { budget = Some text })

-- an option without a value, with which this is what is said
abbrev pub after_flag : Option (List ℕ) → Choice → Said
after_flag None choice = said choice
after_flag (Some text) choice = wrong

-- `--name` or `--name=value`
abbrev pub after_option : Choice → List ℕ × Option (List ℕ) → Said
after_option choice option =
    if bytes_eq (codes "budget") option.0 then after_budget option.1 choice
    else (if bytes_eq (codes "serial") option.0 then after_flag option.1 (record choice { serial = true })
    else (if bytes_eq (codes "lint") option.0 then after_flag option.1 (record choice { lint = true }) else wrong))

abbrev pub after_first : Choice → Option (List ℕ × Option (List ℕ)) → Said
after_first choice None = wrong
after_first choice (Some option) = after_option choice option

-- the word behind `--budget`; an option is no number
abbrev pub after_second : Choice → List ℕ → Option (List ℕ × Option (List ℕ)) → Said
after_second choice word None = said (record choice { budget = Some word })
after_second choice word (Some option) = wrong

-- what is said with one word more
abbrev pub after_word : Said → List ℕ → Said
after_word (said choice) word = after_first choice (long_of word)
after_word (waits choice) word = after_second choice word (long_of word)
after_word wrong word = wrong

abbrev pub said_by : List (List ℕ) → Said
said_by words = fold after_word (said no_choice) words

-- one hyphen with something else behind it
abbrev pub is_short : List ℕ → Bool
is_short [] = false
is_short (a ∷ []) = false
is_short (a ∷ b ∷ rest) = (a == 45) && not (b == 45)

-- `--`, `-h` and the like are no options of a run
abbrev pub is_foreign : List ℕ → Bool
is_foreign word = bytes_eq word (codes "--") || is_short word

-- the word says an option that is written so: without a value, or with what stands in front of one
abbrev pub says : List ℕ → List ℕ → List ℕ → Bool
says plain valued word = bytes_eq word plain || bytes_eq valued (take (length valued) word)

-- the option is said more than once
abbrev pub is_said_twice : List ℕ → List ℕ → List (List ℕ) → Bool
is_said_twice plain valued words = nat_lt 1 (count_by (says plain valued) words)

-- a run with these options, and with this budget, where the text writes one
abbrev pub with_number : Option ℕ → Options → Spoken
with_number None options = Usage
with_number (Some n) options = Run (record options { budget = Some n })

abbrev pub with_budget : Option (List ℕ) → Options → Spoken
with_budget None options = Run options
with_budget (Some text) options = with_number (number_of text) options

-- a run as options say it
abbrev pub run_as : Choice → Spoken
run_as choice = with_budget choice.budget (record { budget = None; serial = choice.serial; lint = choice.lint })

-- what is asked for, where this is all that is said
abbrev pub asked : Said → Spoken
asked (said choice) = run_as choice
asked (waits choice) = Usage
asked wrong = Usage

-- the words behind `run`: `--budget N` or `--budget=N`, `--serial` and `--lint`, in any order and each at most once
abbrev pub options : List (List ℕ) → Spoken
options words =
    if list_any is_foreign words || is_said_twice (codes "--budget") (codes "--budget=") words || is_said_twice (codes "--serial") (codes "--serial=") words
    || is_said_twice (codes "--lint") (codes "--lint=") words then Usage
    else asked (said_by words)

abbrev pub made_of : Option ℕ → Spoken
made_of None = Usage
made_of (Some n) = Make n

-- the words behind `make`: one number of modules
abbrev pub generated : List (List ℕ) → Spoken
generated [] = Usage
generated (word ∷ []) = made_of (number_to MAX_MADE word)
generated (word ∷ other ∷ words) = Usage

-- `run` and its options, or `make N`
abbrev pub spoken : List (List ℕ) → Spoken
spoken [] = Usage
spoken (word ∷ words) = if bytes_eq word (codes "run") then options words else (if bytes_eq word (codes "make") then generated words else Usage)

-- a number of modules is one that a session may be generated of
abbrev pub IsInLimit : Spoken → Type 0
IsInLimit (Run options) = Unit {0}
IsInLimit (Make n) = (1 ≤ n) × (n ≤ MAX_MADE)
IsInLimit Usage = Unit {0}
