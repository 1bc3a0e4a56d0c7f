-- The classes of tokens and of separators, each by what may come after its first byte (IEEE 1800-2017, clause 5).
use Rattle.std.specs.Prelude.{ℕ, ◌+◌, Bool, true, false, ◌&&◌, not, ◌==◌, nat_le, if◌then◌else◌, List, [], ◌∷◌, ◌++◌, length, Option, Some, None, unwrap_or}
use Rattle.std.specs.List.{list_all}
use Rattle.sve_bytes.specs.Bytes.{is_white_space, begins_identifier, continues_identifier}
use Rattle.sve_token.specs.Keywords.{keyword_of}
use Rattle.sve_token.specs.Operators.{Entry, lookup, operator_of}
use Rattle.sve_token.specs.declared.kind.Kind.{Kind}
use Rattle.sve_token.specs.declared.kind.Kind.TheVariants.{Identifier, SystemName, Decimal, Based, Unbased, Text, Bad}
use Rattle.sve_lex.specs.declared.class.Class.{Class}
use Rattle.sve_lex.specs.declared.class.Class.TheVariants.{Separator, Lexeme}
use Rattle.sve_lex.specs.Longest.{Form, longest}
use Rattle.sve_lex.specs.Bytes.{is_digit, is_decimal_part, is_printable, is_in_line, is_unbased_digit, is_sign, lower, begins_number, continues_number, is_literal_part}

abbrev pub when : Bool → Class → Option Class
when b w = if b then Some w else None

abbrev pub is_empty : List ℕ → Bool
is_empty [] = true
is_empty (c ∷ s) = false

-- bytes that all pass a test, none or more
abbrev pub run : (ℕ → Bool) → (List ℕ → Class) → Form Class
run p w s rest = when (list_all p s) (w s)

-- one or more of them
abbrev pub filled_run : (ℕ → Bool) → (List ℕ → Class) → Form Class
filled_run p w s rest = when (not (is_empty s) && list_all p s) (w s)

abbrev pub constant : Class → List ℕ → Class
constant w s = w

-- a name has at most 1,024 bytes (own; 5.6 asks tools for at least so many)
abbrev pub named : Kind → ℕ → Class
named kind n = if nat_le n 1024 then Lexeme kind else Lexeme Bad

-- a word is a keyword, or else an identifier (5.6, 5.6.2)
abbrev pub word_kind : List ℕ → Kind
word_kind text = unwrap_or (keyword_of text) Identifier

abbrev pub word_class : ℕ → List ℕ → Class
word_class b s = named (word_kind (b ∷ s)) (1 + length s)

-- an escaped identifier's name is what comes after the backslash (5.6.1)
abbrev pub escaped_class : List ℕ → Class
escaped_class s = named Identifier (length s)

-- a string that does not end stops before a line feed that no backslash stands before, or where the text ends (5.9)
abbrev pub stops : Bool → List ℕ → Bool
stops escaped [] = true
stops escaped (c ∷ rest) = not escaped && c == 10

-- a string behind its first quote: a backslash takes the byte after it along, and the next quote ends the string (5.9)
abbrev pub string : Bool → Form Class
string escaped [] rest = when (stops escaped rest) (Lexeme Bad)
string true (c ∷ s) rest = string false s rest
string false (c ∷ s) rest =
    if c == 34 then when (is_empty s) (Lexeme Text)
    else if c == 92 then string true s rest
    else if c == 10 then None
    else string false s rest

-- what ends with the next `*` that the byte `close` follows; it is bad if there is none. star: a `*` came just before
abbrev pub closes : ℕ → Bool → Form Class
closes close star [] rest = when (is_empty rest) (Lexeme Bad)
closes close star (c ∷ s) rest =
    if star && c == close then when (is_empty s) Separator
    else closes close (c == 42) s rest

abbrev pub as_lexeme : Option Kind → Option Class
as_lexeme None = None
as_lexeme (Some kind) = Some (Lexeme kind)

-- what stands in a table of operators
abbrev pub listed : List Entry → Form Kind
listed table s rest = lookup table s

-- an operator behind its first byte
unfoldable pub operator : ℕ → Form Class
operator b s rest = as_lexeme (operator_of (b ∷ s))

-- behind `/`: a comment of one line, a comment, or an operator (5.4)
unfoldable pub slash : Form Class
slash [] rest = operator 47 [] rest
slash (c ∷ s) rest =
    if c == 47 then run is_in_line (constant Separator) s rest
    else if c == 42 then closes 47 false s rest
    else operator 47 (c ∷ s) rest

-- the next byte that is no white space is a `)`
abbrev pub shuts : List ℕ → Bool
shuts [] = false
shuts (c ∷ cs) = if is_white_space c then shuts cs else c == 41

-- behind `(`: an attribute (5.12), or an operator. The star of `@(*)` begins no attribute
unfoldable pub paren : Form Class
paren [] rest = operator 40 [] rest
paren (c ∷ s) rest =
    if c == 42 && not (shuts (s ++ rest)) then closes 41 false s rest
    else operator 40 (c ∷ s) rest

-- behind a base: white space, and then the digits (5.7.1)
abbrev pub digits : ℕ → Form Class
digits base [] rest = None
digits base (c ∷ s) rest =
    if is_white_space c then digits base s rest
    else if begins_number base c then when (list_all (continues_number base c) s) (Lexeme Based)
    else None

-- a base and its digits
unfoldable pub based : Form Class
based [] rest = None
based (c ∷ s) rest = digits (lower c) s rest

-- the text begins with a letter, a digit, `_` or `?`
abbrev pub goes_on : List ℕ → Bool
goes_on [] = false
goes_on (c ∷ rest) = is_literal_part c

-- behind `'` and the digit of an unbased literal (5.7.1)
abbrev pub unbased : Form Class
unbased s rest = when (is_empty s && not (goes_on rest)) (Lexeme Unbased)

-- behind `'` and the byte c
abbrev pub after_quote : ℕ → Form Class
after_quote c = if is_unbased_digit c then unbased else if is_sign c then based else digits (lower c)

-- behind `'`: a literal, or an operator
unfoldable pub quote : Form Class
quote [] rest = operator 39 [] rest
quote (c ∷ s) rest = if c == 123 then operator 39 (c ∷ s) rest else after_quote c s rest

-- what may come after the first byte
unfoldable pub begins : ℕ → Form Class
begins b =
    if is_white_space b then run is_white_space (constant Separator)
    else if begins_identifier b then run continues_identifier (word_class b)
    else if is_digit b then run is_decimal_part (constant (Lexeme Decimal))
    else if b == 92 then filled_run is_printable escaped_class
    else if b == 36 then filled_run continues_identifier (constant (Lexeme SystemName))
    else if b == 34 then string false
    else if b == 39 then quote
    else if b == 47 then slash
    else if b == 40 then paren
    else operator b

-- what a spelling is, where other bytes come after it
unfoldable pub class_of : Form Class
class_of [] rest = None
class_of (b ∷ s) rest = begins b s rest

-- a byte that begins nothing is bad by itself
abbrev pub or_bad : Option (Class × ℕ) → Class × ℕ
or_bad None = (Lexeme Bad, 1)
or_bad (Some found) = found

-- the piece that begins a text, and how many bytes it has
unfoldable pub piece_of : List ℕ → Class × ℕ
piece_of cs = or_bad (longest cs class_of)
