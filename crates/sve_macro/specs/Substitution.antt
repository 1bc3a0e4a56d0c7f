-- What a use of a macro stands for (IEEE 1800-2017, 22.5.1).
use Rattle.std.specs.Prelude.{ℕ, Bool, true, false, ◌&&◌, nat_lt, is_some, unwrap_or, Option, Some, None, List, [], ◌∷◌, length, bytes_eq, slice_index_or, if◌then◌else◌}
use Rattle.std.specs.List.{flat_map}
use Rattle.std.specs.Map.{lookup}
use Rattle.sve_macro.specs.declared.definition.Definition.{Definition}
use Rattle.sve_macro.specs.declared.lexeme.Kind.{Kind}
use Rattle.sve_macro.specs.declared.lexeme.Kind.TheVariants.{Word, Plain, Joint, Quote, EscapedQuote}
use Rattle.sve_macro.specs.Lexemes.{Lexeme, lexemes}

-- a formal: its name, and its default where it has one
abbrev pub Formal : Type 0
Formal = List ℕ × Option (List ℕ)

-- each actual is for the formal at its place, and a formal without an actual has a default
abbrev pub accepts_each : List Formal → List (List ℕ) → Bool
accepts_each [] [] = true
accepts_each [] (a ∷ actuals) = false
accepts_each (f ∷ formals) [] = is_some f.1 && accepts_each formals []
accepts_each (f ∷ formals) (a ∷ actuals) = accepts_each formals actuals

-- no actual, or one that is empty: what `()` gives
abbrev pub is_empty_list : List (List ℕ) → Bool
is_empty_list [] = true
is_empty_list ([] ∷ []) = true
is_empty_list ([] ∷ (b ∷ actuals)) = false
is_empty_list ((v ∷ a) ∷ actuals) = false

abbrev pub is_nil : {X : Type 0} → List X → Bool
is_nil [] = true
is_nil (x ∷ xs) = false

-- whether so many actuals may be given: none without a list, none or one that is empty where the list has no formal,
-- and else one for each formal, of which those at the end may be missing where they have defaults
abbrev pub accepts : Definition → List (List ℕ) → Bool
accepts m actuals =
    if m.has_list then (if is_nil m.formals then is_empty_list actuals else accepts_each m.formals actuals)
    else is_nil actuals

-- an empty actual takes the default, or else the empty text
abbrev pub given : Option (List ℕ) → List ℕ → List ℕ
given default [] = unwrap_or default []
given default (v ∷ vs) = v ∷ vs

-- the actual at a place, or the empty text where there is none
abbrev pub actual_at : List (List ℕ) → ℕ → List ℕ
actual_at actuals place = slice_index_or actuals place []

-- each formal with the text that stands for it; a missing actual is as an empty one
abbrev pub assigned : List Formal → List (List ℕ) → List (List ℕ × List ℕ)
assigned [] actuals = []
assigned (f ∷ formals) [] = (f.0, given f.1 []) ∷ assigned formals []
assigned (f ∷ formals) (a ∷ actuals) = (f.0, given f.1 a) ∷ assigned formals actuals

-- the text that stands for a word, if it is a formal; of two formals of one name the first counts
abbrev pub actual_of : Definition → List (List ℕ) → List ℕ → Option (List ℕ)
actual_of m actuals word = lookup (bytes_eq word) (assigned m.formals actuals)

-- a word that is a formal becomes its text, `` nothing, `" a quote, `\`" a backslash and a quote, and all else stays
abbrev pub value_of : (List ℕ → Option (List ℕ)) → Kind → List ℕ → List ℕ
value_of of_word Word text = unwrap_or (of_word text) text
value_of of_word Plain text = text
value_of of_word Joint text = []
value_of of_word Quote text = 34 ∷ []
value_of of_word EscapedQuote text = 92 ∷ 34 ∷ []

abbrev pub replaced : (List ℕ → Option (List ℕ)) → List Lexeme → List ℕ
replaced of_word xs = flat_map (λ x. value_of of_word x.kind x.text) xs

-- the macro's text with its formals replaced and its signs treated
abbrev pub substituted : Definition → List (List ℕ) → List ℕ
substituted m actuals = replaced (actual_of m actuals) (lexemes m.text)

-- the text where it has fewer bytes than there is room for (own)
abbrev pub below : ℕ → List ℕ → Option (List ℕ)
below room text = if nat_lt (length text) room then Some text else None
