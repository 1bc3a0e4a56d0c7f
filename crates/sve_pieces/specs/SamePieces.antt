-- How far three readers go where they stand at the same place of a text: the preprocessor (`piece_length`), the substitution
-- in a macro's text, outside two signs `" (`lexeme_rest`, behind the first byte), and the lexer (`piece_of`).
use Rattle.std.specs.Prelude.{◌≡◌, ℕ, ◌+◌, ◌==◌, false, ◌⊎◌, List, ◌∷◌, drop, if◌then◌else◌}
use Rattle.sve_macro.specs.Literals.{blank_length}
use Rattle.sve_macro.specs.Lexemes.{lexeme_rest}
use Rattle.sve_directive.specs.Pieces.{piece_length}
use Rattle.sve_lex.specs.Classes.{piece_of}

-- all three take a string literal alike, also one that does not end (5.9)
abbrev pub SameStrings : Type 0
SameStrings =
    (behind : List ℕ) →
    (piece_length (34 ∷ behind) ≡ (piece_of (34 ∷ behind)).1) × (1 + lexeme_rest false (34 ∷ behind) ≡ (piece_of (34 ∷ behind)).1)

-- the preprocessor and the lexer take a comment alike, whose second byte is `/` or `*` (5.4); a macro's text is read byte by
-- byte there
abbrev pub SameComments : Type 0
SameComments =
    (second : ℕ) (behind : List ℕ) → (second ≡ 47) ⊎ (second ≡ 42) →
    piece_length (47 ∷ second ∷ behind) ≡ (piece_of (47 ∷ second ∷ behind)).1

-- all three take an escaped identifier alike, but for the white space byte behind it, which the lexer leaves; and a backslash
-- that begins none alone (5.6.1)
abbrev pub SameIdentifiers : Type 0
SameIdentifiers =
    (behind : List ℕ) →
    let n = (piece_of (92 ∷ behind)).1 in
    let taken = if n == 1 then 1 else n + blank_length (drop n (92 ∷ behind)) in
    (piece_length (92 ∷ behind) ≡ taken) × (1 + lexeme_rest false (92 ∷ behind) ≡ taken)
