-- The one list of longest lexemes (IEEE 1800-2017, 5.2).
use Rattle.std.specs.Prelude.{◌≡◌, ℕ, ◌<◌, ◌↔◌, ◌⊎◌, List, [], ◌∷◌, ◌++◌, length, Some, None}
use Rattle.std.specs.List.{flat_map}
use Rattle.sve_token.specs.declared.kind.Kind.TheVariants.{Bad}
use Rattle.sve_lex.specs.declared.class.Class.{Class}
use Rattle.sve_lex.specs.declared.class.Class.TheVariants.{Lexeme}
use Rattle.sve_lex.specs.Classes.{class_of}
use Rattle.sve_lex.specs.Pieces.{Piece, pieces}

-- s is of this class where rest comes after it, and no longer front of the text is of any class
pub record IsLongest (w : Class) (s rest : List ℕ) : Type 0 where
  pub is_piece : class_of s rest ≡ Some w
  pub longest : (t more : List ℕ) → t ++ more ≡ s ++ rest → length s < length t → class_of t more ≡ None

-- s is one bad byte, and no front of the text is of any class
pub record IsStray (w : Class) (s rest : List ℕ) : Type 0 where
  pub is_bad : w ≡ Lexeme Bad
  pub one : length s ≡ 1
  pub none : (t more : List ℕ) → t ++ more ≡ s ++ rest → class_of t more ≡ None

abbrev pub Begins : Class → List ℕ → List ℕ → Type 0
Begins w s rest = IsLongest w s rest ⊎ IsStray w s rest

-- the spellings joined are the text, and each is the longest that begins at its place
abbrev pub Lexes : List ℕ → List Piece → Type 0
Lexes text [] = text ≡ []
Lexes text (p ∷ ps) = (rest : List ℕ) × (text ≡ p.1 ++ rest) × Begins p.0 p.1 rest × Lexes rest ps

-- every text has one such list, and no other
abbrev pub OneList : Type 0
OneList = (text : List ℕ) (ps : List Piece) → Lexes text ps ↔ (ps ≡ pieces text)

-- no byte is lost, and none is added
abbrev pub NothingLost : Type 0
NothingLost = (text : List ℕ) → flat_map (λ p. p.1) (pieces text) ≡ text
