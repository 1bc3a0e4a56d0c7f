-- The text of a macro as it is kept, cut once, so that a use reads no more of it than it gives (own).
use Rattle.std.specs.Prelude.{◌≡◌, ℕ, ◌+◌, ◌==◌, ◌&&◌, nat_lt, is_some, None, List, [], ◌∷◌, length, take, drop, slice_index_or, if◌then◌else◌}
use Rattle.std.specs.List.{flat_map}
use Rattle.sve_macro.specs.declared.definition.Definition.{Definition}
use Rattle.sve_macro.specs.declared.template.Piece.{Piece}
use Rattle.sve_macro.specs.declared.template.Piece.TheVariants.{Run, Actual, Quote, EscapedQuote}
use Rattle.sve_macro.specs.Substitution.{Formal, given, actual_at, substituted}

-- the text that stands for the formal at a place, if there is one
abbrev pub value_at : List Formal → List (List ℕ) → ℕ → List ℕ
value_at formals actuals place =
    if nat_lt place (length formals) then given (slice_index_or formals place ([], None)).1 (actual_at actuals place) else []

-- the bytes of a text from a place to another
abbrev pub bytes_between : ℕ → ℕ → List ℕ → List ℕ
bytes_between from to text = drop from (take to text)

-- what a piece gives
abbrev pub piece_value : List ℕ → (ℕ → List ℕ) → Piece → List ℕ
piece_value text value (Run span) = bytes_between span.from span.to text
piece_value text value (Actual place) = value place
piece_value text value Quote = 34 ∷ []
piece_value text value EscapedQuote = 92 ∷ 34 ∷ []

abbrev pub filled : List ℕ → (ℕ → List ℕ) → List Piece → List ℕ
filled text value ps = flat_map (piece_value text value) ps

-- the pieces give what a use of the macro stands for, whatever its actuals are
abbrev pub AreCutFrom : Definition → List Piece → Type 0
AreCutFrom m ps = (actuals : List (List ℕ)) → filled m.text (value_at m.formals actuals) ps ≡ substituted m actuals

-- how many actuals a use must give: those up to the last formal without a default
abbrev pub needed_of : List Formal → ℕ
needed_of [] = 0
needed_of (f ∷ formals) = if is_some f.1 && needed_of formals == 0 then 0 else needed_of formals + 1
