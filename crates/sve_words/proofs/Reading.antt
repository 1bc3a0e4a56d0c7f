-- What `clap` makes of the words is what they say.
use Rattle.std.proofs.Common.{◌≡◌, ◌⊎◌, ◌||◌, ◌&&◌, not, inl, inr, Bool, true, false, cond, List, [], ◌∷◌, Option, Some, None, fold, codes, is_some, option_map, refl, ap, ap₂, sym, ◌∙◌, subst, ◌==◌, true≢false}
use Rattle.std.specs.List.{list_any}
use Rattle.std.specs.Str.{bytes_eq}
use Rattle.std.specs.Prelude.{option_and_then, slice_get}
use Rattle.clap.specs.Lexer.{long_of, short_of, short_of_rest}
use Rattle.clap.specs.Walk.{Row, Rule, Text, Walk, at_row, reading_by, finished, first_of, has_row, is_empty, more_values, one_of, row_text, settled, used, walked, with_default, option, idle}
use Rattle.clap.specs.Simple.{Shape, built, entered, filled, matches_of, is_simple}
use Rattle.clap.specs.Kinds.{Kinds, HasKind, or_else}
use Rattle.clap.specs.Words.{App, HasMatchesOf, found_of, first_value, one_text, rows_of, kind_of}
use Rattle.clap.specs.declared.error.Error.{Error}
use Rattle.clap.specs.declared.error.kind.ErrorKind.TheVariants.{ArgumentConflict, OutOfMemory, InvalidValue, UnknownArgument, TooManyValues}
use Rattle.clap.specs.declared.parser.matches.ArgMatches.{ArgMatches}
use Rattle.clap.proofs.WalkLemmas.{first_value-rows, one_text-rows}
use Rattle.clap.specs.Faults.{use_fault, repeat_fault, turn_fault, walk_fault, settle_fault, default_fault, given_default_fault, defaults_fault, check_fault, entered_fault, fault_of, is_simple_and_free}
use Rattle.clap.specs.declared.error.kind.ErrorKind.{ErrorKind}
use Rattle.clap.specs.declared.parser.matches.ValueSource.TheVariants.{CommandLine, DefaultValue}
use Rattle.sve_words.specs.Command.{budget_rule, flag_rule, options_app}
use Rattle.sve_words.specs.declared.request.Spoken.TheVariants.{Usage}
use Rattle.sve_words.specs.Words.{Choice, no_choice, Said, said, waits, wrong, after_word, said_by, asked, with_budget, is_short, is_foreign}
use Rattle.sve_words.proofs.Numbers.{text_same}
use Rattle.sve_words.proofs.Rows.{AreApart, row_at, with_row, at_end, has_is, found_last, found_before, placed_apart, placed_there, others_there, placed_is}

abbrev shape : Shape
shape = (built options_app).top

abbrev budget_arg : Rule
budget_arg = filled budget_rule

abbrev flag_arg : Text → Rule
flag_arg name = filled (flag_rule name)

abbrev serial_arg : Rule
serial_arg = flag_arg (codes "serial")

abbrev lint_arg : Rule
lint_arg = flag_arg (codes "lint")

abbrev rules : List Rule
rules = budget_arg ∷ serial_arg ∷ lint_arg ∷ []

-- ---- what options leave

abbrev budget_row : Text → Row
budget_row v = record { id = codes "budget"; values = v ∷ []; count = None; source = Some CommandLine; reading = reading_by budget_arg }

abbrev flag_text : Bool → Text
flag_text b = cond b (codes "true") (codes "false")

-- the row of an option without a value, which was said or has its default
abbrev flag_row : Text → Bool → Row
flag_row name b = record { id = name; values = flag_text b ∷ []; count = None; source = Some (cond b CommandLine DefaultValue); reading = reading_by (flag_arg name) }

abbrev flag_found : Text → Bool → Option Row
flag_found name b = cond b (Some (flag_row name true)) None

-- the rows are those of what options say
record Shows (rows : List Row) (choice : Choice) : Type 0 where
  apart : AreApart rows
  budget : row_at (codes "budget") rows ≡ option_map budget_row choice.budget
  serial : row_at (codes "serial") rows ≡ flag_found (codes "serial") choice.serial
  lint : row_at (codes "lint") rows ≡ flag_found (codes "lint") choice.lint

abbrev with_text : Choice → Text → Choice
with_text choice v = record choice { budget = Some v }

abbrev with_serial : Choice → Choice
with_serial choice = record choice { serial = true }

abbrev with_lint : Choice → Choice
with_lint choice = record choice { lint = true }

shows_nothing : Shows [] no_choice
shows_nothing = record { apart = tt; budget = refl; serial = refl; lint = refl }

shows_budget : (rows : List Row) (choice : Choice) (v : Text) → Shows rows choice → Shows (with_row (budget_row v) rows) (with_text choice v)
shows_budget rows choice v shows = record {
  apart = placed_apart (budget_row v) rows shows.apart;
  budget = placed_there (budget_row v) rows shows.apart;
  serial = others_there (budget_row v) (codes "serial") rows refl ∙ shows.serial;
  lint = others_there (budget_row v) (codes "lint") rows refl ∙ shows.lint;
}

shows_serial : (rows : List Row) (choice : Choice) → Shows rows choice → Shows (with_row (flag_row (codes "serial") true) rows) (with_serial choice)
shows_serial rows choice shows = record {
  apart = placed_apart (flag_row (codes "serial") true) rows shows.apart;
  budget = others_there (flag_row (codes "serial") true) (codes "budget") rows refl ∙ shows.budget;
  serial = placed_there (flag_row (codes "serial") true) rows shows.apart;
  lint = others_there (flag_row (codes "serial") true) (codes "lint") rows refl ∙ shows.lint;
}

shows_lint : (rows : List Row) (choice : Choice) → Shows rows choice → Shows (with_row (flag_row (codes "lint") true) rows) (with_lint choice)
shows_lint rows choice shows = record {
  apart = placed_apart (flag_row (codes "lint") true) rows shows.apart;
  budget = others_there (flag_row (codes "lint") true) (codes "budget") rows refl ∙ shows.budget;
  serial = others_there (flag_row (codes "lint") true) (codes "serial") rows refl ∙ shows.serial;
  lint = placed_there (flag_row (codes "lint") true) rows shows.apart;
}

-- ---- one use

never_again : (id : Text) (rows : List Row) → repeat_fault true id rows ≡ []
never_again id rows = by_test (has_row id rows)
  where
    by_test : (b : Bool) → cond (b && false) (ArgumentConflict ∷ []) [] ≡ []
    by_test true = refl
    by_test false = refl

budget_fault : (rows : List Row) (v : Text) → use_fault true budget_arg (v ∷ []) rows ≡ []
budget_fault rows v = ap (λ (k : Kinds). or_else k []) (never_again (codes "budget") rows)

budget_used : (rows : List Row) (v : Text) → AreApart rows → used budget_arg (v ∷ []) rows ≡ with_row (budget_row v) rows
budget_used rows v apart = placed_is (budget_row v) (more_values CommandLine (v ∷ [])) rows apart

serial_fault : (rows : List Row) → use_fault true serial_arg [] rows ≡ []
serial_fault rows = ap (λ (k : Kinds). or_else k []) (never_again (codes "serial") rows)

lint_fault : (rows : List Row) → use_fault true lint_arg [] rows ≡ []
lint_fault rows = ap (λ (k : Kinds). or_else k []) (never_again (codes "lint") rows)

flag_used : (name : Text) (rows : List Row) → AreApart rows → used (flag_arg name) [] rows ≡ with_row (flag_row name true) rows
flag_used name rows apart = placed_is (flag_row name true) (more_values CommandLine (codes "true" ∷ [])) rows apart

-- where the walk stands: nothing is pending, the value of `--budget` is to come, or it has come
data Place : Type 0 where
  clear : (rows : List Row) (choice : Choice) → Shows rows choice → Place
  waiting : (rows : List Row) (choice : Choice) → Shows rows choice → Place
  holding : (rows : List Row) (choice : Choice) → Shows rows choice → Text → Place

abbrev walk_of : List Row → Option (Text × List Text) → Option Text → Walk
walk_of rows pending None = record { held = record { rows = rows; pending = pending; skip = 0 }; waiting = idle; position = 1; is_trailing = false; stopped = None }
walk_of rows pending (Some id) = record { held = record { rows = rows; pending = pending; skip = 0 }; waiting = option id; position = 1; is_trailing = false; stopped = None }

abbrev walk_at : Place → Walk
walk_at (clear rows choice shows) = walk_of rows None None
walk_at (waiting rows choice shows) = walk_of rows (Some (codes "budget", [])) (Some (codes "budget"))
walk_at (holding rows choice shows v) = walk_of rows (Some (codes "budget", v ∷ [])) None

abbrev said_at : Place → Said
said_at (clear rows choice shows) = said choice
said_at (waiting rows choice shows) = waits choice
said_at (holding rows choice shows v) = said (with_text choice v)

-- ---- one word

-- the word is refused, and says nothing
record IsRefused (place : Place) (word : Text) : Type 0 where
  kind : ErrorKind
  kinds : Kinds
  fault : turn_fault shape [] (walk_at place) word ≡ kind ∷ kinds
  says : after_word (said_at place) word ≡ wrong

-- the walk goes on, with what the word says
record GoesOn (place : Place) (word : Text) : Type 0 where
  next : Place
  fault : turn_fault shape [] (walk_at place) word ≡ []
  walks : walked rules [] (walk_at place) word ≡ walk_at next
  says : after_word (said_at place) word ≡ said_at next

abbrev IsTurn : Place → Text → Type 0
IsTurn place word = IsRefused place word ⊎ GoesOn place word

-- what is not found before
record IsOwn (word : Text) : Type 0 where
  rest : bytes_eq word (45 ∷ 45 ∷ []) ≡ false
  short : short_of word ≡ None

refused : (place : Place) (word : Text) (kind : ErrorKind) (kinds : Kinds) → turn_fault shape [] (walk_at place) word ≡ kind ∷ kinds → after_word (said_at place) word ≡ wrong → IsTurn place word
refused place word kind kinds fault says = inl (record { kind = kind; kinds = kinds; fault = fault; says = says })

goes_on : (place : Place) (word : Text) (next : Place) → turn_fault shape [] (walk_at place) word ≡ [] → walked rules [] (walk_at place) word ≡ walk_at next → after_word (said_at place) word ≡ said_at next → IsTurn place word
goes_on place word next fault walks says = inr (record { next = next; fault = fault; walks = walks; says = says })

module _ (word name : Text) (own : IsOwn word) where
  plain : bytes_eq word (45 ∷ 45 ∷ []) ≡ false
  plain = own.rest

  -- `--budget=v`
  valued : (v : Text) (place : Place) → long_of word ≡ Some (name, Some v) → bytes_eq (codes "budget") name ≡ true → IsTurn place word
  unfolding walked
  valued v (clear rows choice shows) long is = goes_on (clear rows choice shows) word (clear (with_row (budget_row v) rows) (with_text choice v) (shows_budget rows choice v shows))
      (rw (plain, long, is) (ap (λ (k : Kinds). or_else (or_else [] k) []) (budget_fault rows v)))
      (rw (plain, long, is) (ap (λ (rs : List Row). walk_of rs None None) (budget_used rows v shows.apart)))
      (rw (long, is) refl)
  valued v (waiting rows choice shows) long is = refused (waiting rows choice shows) word InvalidValue [] (rw (plain, long, is) refl) (rw (long) refl)
  valued v (holding rows choice shows w) long is =
      let held = shows_budget rows choice w shows in
      goes_on (holding rows choice shows w) word (clear (with_row (budget_row v) (with_row (budget_row w) rows)) (with_text (with_text choice w) v) (shows_budget (with_row (budget_row w) rows) (with_text choice w) v held))
      (rw (plain, long, is) (ap₂ (λ (k l : Kinds). or_else (or_else k l) []) (budget_fault rows w) (budget_fault (used budget_arg (w ∷ []) rows) v)))
      (rw (plain, long, is) (ap (λ (rs : List Row). walk_of rs None None) (ap (used budget_arg (v ∷ [])) (budget_used rows w shows.apart) ∙ budget_used (with_row (budget_row w) rows) v held.apart)))
      (rw (long, is) refl)

  -- `--budget`
  bare : (place : Place) → long_of word ≡ Some (name, None) → bytes_eq (codes "budget") name ≡ true → IsTurn place word
  unfolding walked
  bare (clear rows choice shows) long is = goes_on (clear rows choice shows) word (waiting rows choice shows) (rw (plain, long, is) refl) (rw (plain, long, is) refl) (rw (long, is) refl)
  bare (waiting rows choice shows) long is = refused (waiting rows choice shows) word InvalidValue [] (rw (plain, long, is) refl) (rw (long) refl)
  bare (holding rows choice shows w) long is = goes_on (holding rows choice shows w) word (waiting (with_row (budget_row w) rows) (with_text choice w) (shows_budget rows choice w shows))
      (rw (plain, long, is) (ap (λ (k : Kinds). or_else k []) (budget_fault rows w)))
      (rw (plain, long, is) (ap (λ (rs : List Row). walk_of rs (Some (codes "budget", [])) (Some (codes "budget"))) (budget_used rows w shows.apart)))
      (rw (long, is) refl)

  -- `--serial`
  serial : (place : Place) → long_of word ≡ Some (name, None) → bytes_eq (codes "budget") name ≡ false → bytes_eq (codes "serial") name ≡ true → IsTurn place word
  unfolding walked
  serial (clear rows choice shows) long other is =
      goes_on (clear rows choice shows) word (clear (with_row (flag_row (codes "serial") true) rows) (with_serial choice) (shows_serial rows choice shows))
      (rw (plain, long, other, is) (ap (λ (k : Kinds). or_else (or_else [] k) []) (serial_fault rows)))
      (rw (plain, long, other, is) (ap (λ (rs : List Row). walk_of rs None None) (flag_used (codes "serial") rows shows.apart)))
      (rw (long, other, is) refl)
  serial (waiting rows choice shows) long other is = refused (waiting rows choice shows) word InvalidValue [] (rw (plain, long, other, is) refl) (rw (long) refl)
  serial (holding rows choice shows w) long other is =
      let held = shows_budget rows choice w shows in
      goes_on (holding rows choice shows w) word (clear (with_row (flag_row (codes "serial") true) (with_row (budget_row w) rows)) (with_serial (with_text choice w)) (shows_serial (with_row (budget_row w) rows) (with_text choice w) held))
      (rw (plain, long, other, is) (ap₂ (λ (k l : Kinds). or_else (or_else k l) []) (budget_fault rows w) (serial_fault (used budget_arg (w ∷ []) rows))))
      (rw (plain, long, other, is) (ap (λ (rs : List Row). walk_of rs None None) (ap (used serial_arg []) (budget_used rows w shows.apart) ∙ flag_used (codes "serial") (with_row (budget_row w) rows) held.apart)))
      (rw (long, other, is) refl)

  -- `--lint`
  lint : (place : Place) → long_of word ≡ Some (name, None) → bytes_eq (codes "budget") name ≡ false → bytes_eq (codes "serial") name ≡ false → bytes_eq (codes "lint") name ≡ true → IsTurn place word
  unfolding walked
  lint (clear rows choice shows) long other another is =
      goes_on (clear rows choice shows) word (clear (with_row (flag_row (codes "lint") true) rows) (with_lint choice) (shows_lint rows choice shows))
      (rw (plain, long, other, another, is) (ap (λ (k : Kinds). or_else (or_else [] k) []) (lint_fault rows)))
      (rw (plain, long, other, another, is) (ap (λ (rs : List Row). walk_of rs None None) (flag_used (codes "lint") rows shows.apart)))
      (rw (long, other, another, is) refl)
  lint (waiting rows choice shows) long other another is = refused (waiting rows choice shows) word InvalidValue [] (rw (plain, long, other, another, is) refl) (rw (long) refl)
  lint (holding rows choice shows w) long other another is =
      let held = shows_budget rows choice w shows in
      goes_on (holding rows choice shows w) word (clear (with_row (flag_row (codes "lint") true) (with_row (budget_row w) rows)) (with_lint (with_text choice w)) (shows_lint (with_row (budget_row w) rows) (with_text choice w) held))
      (rw (plain, long, other, another, is) (ap₂ (λ (k l : Kinds). or_else (or_else k l) []) (budget_fault rows w) (lint_fault (used budget_arg (w ∷ []) rows))))
      (rw (plain, long, other, another, is) (ap (λ (rs : List Row). walk_of rs None None) (ap (used lint_arg []) (budget_used rows w shows.apart) ∙ flag_used (codes "lint") (with_row (budget_row w) rows) held.apart)))
      (rw (long, other, another, is) refl)

  -- `--serial=v`
  serial_valued : (v : Text) (place : Place) → long_of word ≡ Some (name, Some v) → bytes_eq (codes "budget") name ≡ false → bytes_eq (codes "serial") name ≡ true → IsTurn place word
  serial_valued v (clear rows choice shows) long other is = refused (clear rows choice shows) word TooManyValues [] (rw (plain, long, other, is) refl) (rw (long, other, is) refl)
  serial_valued v (waiting rows choice shows) long other is = refused (waiting rows choice shows) word TooManyValues [] (rw (plain, long, other, is) refl) (rw (long) refl)
  serial_valued v (holding rows choice shows w) long other is = refused (holding rows choice shows w) word TooManyValues [] (rw (plain, long, other, is) refl) (rw (long, other, is) refl)

  -- `--lint=v`
  lint_valued : (v : Text) (place : Place) → long_of word ≡ Some (name, Some v) → bytes_eq (codes "budget") name ≡ false → bytes_eq (codes "serial") name ≡ false → bytes_eq (codes "lint") name ≡ true → IsTurn place word
  lint_valued v (clear rows choice shows) long other another is = refused (clear rows choice shows) word TooManyValues [] (rw (plain, long, other, another, is) refl) (rw (long, other, another, is) refl)
  lint_valued v (waiting rows choice shows) long other another is = refused (waiting rows choice shows) word TooManyValues [] (rw (plain, long, other, another, is) refl) (rw (long) refl)
  lint_valued v (holding rows choice shows w) long other another is = refused (holding rows choice shows w) word TooManyValues [] (rw (plain, long, other, another, is) refl) (rw (long, other, another, is) refl)

  -- another option
  unknown : (value : Option Text) (place : Place) → long_of word ≡ Some (name, value) → bytes_eq (codes "budget") name ≡ false → bytes_eq (codes "serial") name ≡ false → bytes_eq (codes "lint") name ≡ false → IsTurn place word
  unknown value (clear rows choice shows) long other another third = refused (clear rows choice shows) word UnknownArgument [] (rw (plain, long, other, another, third) refl) (rw (long, other, another, third) refl)
  unknown value (waiting rows choice shows) long other another third = refused (waiting rows choice shows) word UnknownArgument [] (rw (plain, long, other, another, third) refl) (rw (long) refl)
  unknown value (holding rows choice shows w) long other another third = refused (holding rows choice shows w) word UnknownArgument [] (rw (plain, long, other, another, third) refl) (rw (long, other, another, third) refl)

  long_turn : (value : Option Text) (place : Place) → long_of word ≡ Some (name, value) → (t u v : Bool) → bytes_eq (codes "budget") name ≡ t → bytes_eq (codes "serial") name ≡ u → bytes_eq (codes "lint") name ≡ v → IsTurn place word
  long_turn None place long true u v is another third = bare place long is
  long_turn (Some text) place long true u v is another third = valued text place long is
  long_turn None place long false true v is another third = serial place long is another
  long_turn (Some text) place long false true v is another third = serial_valued text place long is another
  long_turn None place long false false true is another third = lint place long is another third
  long_turn (Some text) place long false false true is another third = lint_valued text place long is another third
  long_turn value place long false false false is another third = unknown value place long is another third

-- a word that is no option
no_option : (word : Text) (own : IsOwn word) (place : Place) → long_of word ≡ None → IsTurn place word
unfolding walked
no_option word own (clear rows choice shows) none = refused (clear rows choice shows) word UnknownArgument [] (rw (own.rest, none, own.short) refl) (rw (none) refl)
no_option word own (waiting rows choice shows) none = goes_on (waiting rows choice shows) word (holding rows choice shows word) (rw (own.rest, none, own.short) refl) (rw (own.rest, none, own.short) refl) (rw (none) refl)
no_option word own (holding rows choice shows w) none = refused (holding rows choice shows w) word UnknownArgument [] (rw (own.rest, none, own.short) refl) (rw (none) refl)

turn : (word : Text) → IsOwn word → (place : Place) → IsTurn place word
turn word own place = go (long_of word) refl
  where
    go : (long : Option (Text × Option Text)) → long_of word ≡ long → IsTurn place word
    go None is = no_option word own place is
    go (Some found) is = long_turn word found.0 own found.1 place is (bytes_eq (codes "budget") found.0) (bytes_eq (codes "serial") found.0) (bytes_eq (codes "lint") found.0) refl refl refl

-- ---- behind the last word

-- what is refused of these rows, and what they are in the end
abbrev last_fault : List Row → Kinds
last_fault rows = or_else (defaults_fault rows rules) (check_fault shape (fold with_default rows rules) false)

abbrev last_rows : List Row → List Row
last_rows rows = fold with_default rows rules

no_default_fault : (a : Rule) (rows : List Row) → given_default_fault a a.defaults ≡ [] → default_fault rows a ≡ []
no_default_fault a rows none = by_test (has_row a.id rows || is_empty a.defaults)
  where
    by_test : (b : Bool) → cond b [] (given_default_fault a a.defaults) ≡ []
    by_test true = refl
    by_test false = none

no_last_fault : (rows : List Row) → last_fault rows ≡ []
unfolding defaults_fault
no_last_fault rows = λ i. or_else
    (or_else (no_default_fault budget_arg rows refl i)
    (or_else (no_default_fault serial_arg (with_default rows budget_arg) refl i)
    (or_else (no_default_fault lint_arg (with_default (with_default rows budget_arg) serial_arg) refl i) [])))
    []

-- the budget has no default
no_budget_default : (rows : List Row) → with_default rows budget_arg ≡ rows
no_budget_default rows = by_test (has_row (codes "budget") rows)
  where
    by_test : (b : Bool) → cond b rows rows ≡ rows
    by_test true = refl
    by_test false = refl

default_there : (name : Text) (rows : List Row) (b : Bool) → row_at name rows ≡ flag_found name b → row_at name (with_default rows (flag_arg name)) ≡ Some (flag_row name b)
default_there name rows true found =
    ap (λ (h : Bool). row_at name (cond h rows (at_row name (more_values DefaultValue (codes "false" ∷ [])) (flag_row name false ∷ []) rows))) (has_is name rows ∙ ap is_some found) ∙ found
default_there name rows false found =
    let lacks : has_row name rows ≡ false = has_is name rows ∙ ap is_some found in
    ap (λ (h : Bool). row_at name (cond h rows (at_row name (more_values DefaultValue (codes "false" ∷ [])) (flag_row name false ∷ []) rows))) lacks
    ∙ ap (row_at name) (at_end name (more_values DefaultValue (codes "false" ∷ [])) (flag_row name false ∷ []) rows lacks)
    ∙ found_last name (flag_row name false) rows (text_same name name refl) lacks

default_before : (name x : Text) (rows : List Row) → bytes_eq name x ≡ false → row_at x (with_default rows (flag_arg name)) ≡ row_at x rows
default_before name x rows other = by_test (has_row name rows) refl
  where
    by_test : (b : Bool) → has_row name rows ≡ b → row_at x (cond b rows (at_row name (more_values DefaultValue (codes "false" ∷ [])) (flag_row name false ∷ []) rows)) ≡ row_at x rows
    by_test true has = refl
    by_test false lacks = ap (row_at x) (at_end name (more_values DefaultValue (codes "false" ∷ [])) (flag_row name false ∷ []) rows lacks) ∙ found_before x (flag_row name false) rows other

-- the words are taken where they say something, and then this is what is read
abbrev pub AreRead : Kinds → List Row → Said → Type 0
AreRead kinds rows (said choice) =
    (kinds ≡ []) × (first_of (codes "budget") rows ≡ choice.budget) × (one_of (codes "serial") rows ≡ Some (flag_text choice.serial)) × (one_of (codes "lint") rows ≡ Some (flag_text choice.lint))
AreRead kinds rows (waits choice) = kinds ≡ [] → ⊥
AreRead kinds rows wrong = kinds ≡ [] → ⊥

first_text : (b : Option Text) → option_and_then (λ (r : Row). slice_get r.values 0) (option_map budget_row b) ≡ b
first_text None = refl
first_text (Some v) = refl

flag_read : (name : Text) (b : Bool) → row_text (flag_row name b) ≡ Some (flag_text b)
flag_read name true = refl
flag_read name false = refl

ends_so : (rows : List Row) (choice : Choice) → Shows rows choice → AreRead (last_fault rows) (last_rows rows) (said choice)
ends_so rows choice shows = (
  no_last_fault rows,
  ap (option_and_then (λ (r : Row). slice_get r.values 0))
      (default_before (codes "lint") (codes "budget") serials refl ∙ default_before (codes "serial") (codes "budget") budgets refl ∙ ap (row_at (codes "budget")) (no_budget_default rows) ∙ shows.budget)
      ∙ first_text choice.budget,
  ap (option_and_then row_text)
      (default_before (codes "lint") (codes "serial") serials refl ∙ default_there (codes "serial") budgets choice.serial (ap (row_at (codes "serial")) (no_budget_default rows) ∙ shows.serial))
      ∙ flag_read (codes "serial") choice.serial,
  ap (option_and_then row_text)
      (default_there (codes "lint") serials choice.lint (default_before (codes "serial") (codes "lint") budgets refl ∙ ap (row_at (codes "lint")) (no_budget_default rows) ∙ shows.lint))
      ∙ flag_read (codes "lint") choice.lint,
)
  where
    budgets : List Row
    budgets = with_default rows budget_arg

    serials : List Row
    serials = with_default budgets serial_arg

-- what is refused behind the walk
abbrev end_fault : Walk → Kinds
end_fault w = or_else (entered_fault (built options_app) w.stopped)
    (or_else (settle_fault rules true w.held)
    (or_else (defaults_fault (settled rules w.held).rows rules) (check_fault shape (finished rules w.held) (is_some (entered (built options_app) w.stopped)))))

abbrev last_walk : Place → List Text → Walk
last_walk place words = fold (walked rules []) (walk_at place) words

abbrev all_fault : Place → List Text → Kinds
all_fault place words = or_else (walk_fault shape [] (walk_at place) words) (end_fault (last_walk place words))

abbrev rows_behind : Place → List Text → List Row
rows_behind place words = finished rules (last_walk place words).held

ends : (place : Place) → AreRead (all_fault place []) (rows_behind place []) (said_at place)
unfolding walk_fault
ends (clear rows choice shows) = ends_so rows choice shows
ends (waiting rows choice shows) = λ none. absurd (cc)
ends (holding rows choice shows v) =
    let all = ends_so (with_row (budget_row v) rows) (with_text choice v) (shows_budget rows choice v shows) in
    let put : used budget_arg (v ∷ []) rows ≡ with_row (budget_row v) rows = budget_used rows v shows.apart in
    let right = subst (λ (rs : List Row). AreRead (last_fault rs) (last_rows rs) (said (with_text choice v))) (sym put) all in
    (ap₂ or_else (budget_fault rows v) right.0, right.1, right.2, right.3)

stays_wrong : (words : List Text) → fold after_word wrong words ≡ wrong
stays_wrong [] = refl
stays_wrong (word ∷ words) = stays_wrong words

abbrev AreOwn : List Text → Type 0
AreOwn [] = Unit {0}
AreOwn (word ∷ words) = IsOwn word × AreOwn words

are_read : (words : List Text) (place : Place) → AreOwn words → AreRead (all_fault place words) (rows_behind place words) (fold after_word (said_at place) words)
unfolding walk_fault
are_read [] place own = ends place
are_read (word ∷ words) place (here, rest) = go (turn word here place) (λ next. are_read words next rest)
  where
    go : IsTurn place word → ((next : Place) → AreRead (all_fault next words) (rows_behind next words) (fold after_word (said_at next) words)) → AreRead (all_fault place (word ∷ words)) (rows_behind place (word ∷ words)) (fold after_word (said_at place) (word ∷ words))
    go (inl is) later =
        let kinds : all_fault place (word ∷ words) ≡ is.kind ∷ is.kinds
        = ap (λ (k : Kinds). or_else (or_else k (walk_fault shape [] (walked rules [] (walk_at place) word) words)) (end_fault (last_walk place (word ∷ words)))) is.fault in
        let says : fold after_word (said_at place) (word ∷ words) ≡ wrong = ap (λ (s : Said). fold after_word s words) is.says ∙ stays_wrong words in
        subst (AreRead (all_fault place (word ∷ words)) (rows_behind place (word ∷ words))) (sym says) (λ none. let bad : is.kind ∷ is.kinds ≡ [] = sym kinds ∙ none in absurd (cc))
    go (inr is) later =
        let kinds : all_fault place (word ∷ words) ≡ all_fault is.next words
        = ap₂ (λ (k : Kinds) (w : Walk). or_else (or_else k (walk_fault shape [] w words)) (end_fault (fold (walked rules []) w words))) is.fault is.walks in
        let rows : rows_behind place (word ∷ words) ≡ rows_behind is.next words = ap (λ (w : Walk). finished rules (fold (walked rules []) w words).held) is.walks in
        let says : fold after_word (said_at place) (word ∷ words) ≡ fold after_word (said_at is.next) words = ap (λ (s : Said). fold after_word s words) is.says in
        let all = later is.next in
        subst (λ (s : Said). AreRead (all_fault place (word ∷ words)) (rows_behind place (word ∷ words)) s) (sym says)
        (subst (λ (r : List Row). AreRead (all_fault place (word ∷ words)) r (fold after_word (said_at is.next) words)) (sym rows)
        (subst (λ (k : Kinds). AreRead k (rows_behind is.next words) (fold after_word (said_at is.next) words)) (sym kinds) all))

-- ---- the call

short_none : (word : Text) → is_short word ≡ false → short_of word ≡ None
short_none [] none = refl
short_none (a ∷ []) none = by_test (a == 45) refl
  where
    by_test : (t : Bool) → (a == 45) ≡ t → short_of (a ∷ []) ≡ None
    by_test true is = ap (λ (x : Bool). option_and_then short_of_rest (cond x (Some []) None)) is
    by_test false is = ap (λ (x : Bool). option_and_then short_of_rest (cond x (Some []) None)) is
short_none (a ∷ b ∷ rest) none = by_test (a == 45) (b == 45) refl refl
  where
    by_test : (t u : Bool) → (a == 45) ≡ t → (b == 45) ≡ u → short_of (a ∷ b ∷ rest) ≡ None
    by_test false u is also = ap (λ (x : Bool). option_and_then short_of_rest (cond x (Some (b ∷ rest)) None)) is
    by_test true true is also = ap (λ (x : Bool). option_and_then short_of_rest (cond x (Some (b ∷ rest)) None)) is ∙ ap (λ (y : Bool). cond y None (Some (b ∷ rest))) also
    by_test true false is also = let short : is_short (a ∷ b ∷ rest) ≡ true = ap₂ (λ (x y : Bool). x && not y) is also in absurd (true≢false (sym short ∙ none))

are_own : (words : List Text) → list_any is_foreign words ≡ false → AreOwn words
are_own [] none = tt
are_own (word ∷ words) none = by_test (bytes_eq word (codes "--")) (is_short word) (list_any is_foreign words) refl refl refl (are_own words)
  where
    by_test : (a b c : Bool) → bytes_eq word (codes "--") ≡ a → is_short word ≡ b → list_any is_foreign words ≡ c → (list_any is_foreign words ≡ false → AreOwn words) → AreOwn (word ∷ words)
    by_test true b c ea eb ec rest = let any : list_any is_foreign (word ∷ words) ≡ true = ap (λ (x : Bool). (x || is_short word) || list_any is_foreign words) ea in absurd (true≢false (sym any ∙ none))
    by_test false true c ea eb ec rest = let any : list_any is_foreign (word ∷ words) ≡ true = ap₂ (λ (x y : Bool). (x || y) || list_any is_foreign words) ea eb in absurd (true≢false (sym any ∙ none))
    by_test false false true ea eb ec rest = let any : list_any is_foreign (word ∷ words) ≡ true = (λ i. (ea i || eb i) || ec i) in absurd (true≢false (sym any ∙ none))
    by_test false false false ea eb ec rest = (record { rest = ea; short = short_none word eb }, rest ec)

pub options_simple : is_simple_and_free options_app ≡ true
options_simple = refl

-- the kinds of error that the words may give, and what is read where they give none
pub words_are_read : (words : List Text) → list_any is_foreign words ≡ false → AreRead (fault_of options_app words) (matches_of options_app words) (said_by words)
words_are_read words none = are_read words (clear [] no_choice shows_nothing) (are_own words none)

module _ (app : App) (words : List Text) (is : app ≡ options_app) (none : list_any is_foreign words ≡ false) where
  -- the flag of an option without a value is as its text says
  abbrev IsFlag : ArgMatches → Text → Bool → Type 0
  IsFlag m name flag = (one_text (found_of m) name ≡ Some (codes "true") → flag ≡ true) × (one_text (found_of m) name ≡ Some (codes "false") → flag ≡ false)

  flag_is : (m : ArgMatches) (name : Text) (flag b : Bool) → IsFlag m name flag → one_text (found_of m) name ≡ Some (flag_text b) → flag ≡ b
  flag_is m name flag true (on, off) e = on e
  flag_is m name flag false (on, off) e = off e

  -- what is read where the words are taken
  pub read_rightly : (m : ArgMatches) (text : Option Text) (serial lint : Bool) → HasMatchesOf app words m → (is_simple_and_free app ≡ true → fault_of app words ≡ []) → text ≡ first_value (found_of m) (codes "budget")
      → IsFlag m (codes "serial") serial → IsFlag m (codes "lint") lint → with_budget text (record { budget = None; serial = serial; lint = lint }) ≡ asked (said_by words)
  read_rightly m text serial lint matches faults budget in_turn linted = go (said_by words) (words_are_read words none)
    where
      fault : fault_of options_app words ≡ []
      fault = sym (ap (λ (a : App). fault_of a words) is) ∙ faults (ap is_simple_and_free is ∙ options_simple)

      rows : rows_of (found_of m) ≡ matches_of options_app words
      rows = (matches (ap is_simple is)).0 ∙ ap (λ (a : App). matches_of a words) is

      one_is : (name : Text) (b : Bool) → one_of name (matches_of options_app words) ≡ Some (flag_text b) → one_text (found_of m) name ≡ Some (flag_text b)
      one_is name b one = one_text-rows (found_of m) name ∙ ap (one_of name) rows ∙ one

      go : (s : Said) → AreRead (fault_of options_app words) (matches_of options_app words) s → with_budget text (record { budget = None; serial = serial; lint = lint }) ≡ asked s
      go (said choice) (taken, first, one, another) =
          let text_is = budget ∙ first_value-rows (found_of m) (codes "budget") ∙ ap (first_of (codes "budget")) rows ∙ first in
          let serial_is = flag_is m (codes "serial") serial choice.serial in_turn (one_is (codes "serial") choice.serial one) in
          let lint_is = flag_is m (codes "lint") lint choice.lint linted (one_is (codes "lint") choice.lint another) in
          λ i. with_budget (text_is i) (record { budget = None; serial = serial_is i; lint = lint_is i })
      go (waits choice) bad = absurd (bad fault)
      go wrong bad = absurd (bad fault)

  -- words that are refused, for another cause than want of memory, say nothing
  pub read_wrongly : (e : Error) → (is_simple_and_free app ≡ true → HasKind (fault_of app words) e) → (kind_of e ≡ OutOfMemory → ⊥) → asked (said_by words) ≡ Usage
  read_wrongly e kinds memory = go (said_by words) (words_are_read words none)
    where
      has : HasKind (fault_of options_app words) e
      has = subst (λ (a : App). HasKind (fault_of a words) e) is (kinds (ap is_simple_and_free is ∙ options_simple))

      no_kind : HasKind [] e → ⊥
      no_kind (inl is_memory) = memory is_memory
      no_kind (inr among) = among

      go : (s : Said) → AreRead (fault_of options_app words) (matches_of options_app words) s → asked s ≡ Usage
      go (said choice) (taken, first, one, another) = absurd (no_kind (subst (λ (k : Kinds). HasKind k e) taken has))
      go (waits choice) bad = refl
      go wrong bad = refl
