-- The operators and the punctuation (IEEE 1800-2017, 11.3 and Annex A): 67 of them, a longer one before a shorter one.
use Rattle.std.specs.Prelude.{ℕ, ◌==◌, ◌&&◌, nat_le, Bool, true, List, [], ◌∷◌, map, length, Option, Some, None, if◌then◌else◌, codes}
use Rattle.std.specs.Str.{bytes_eq}
use Rattle.sve_token.specs.declared.kind.Kind.{Kind}
use Rattle.sve_token.specs.declared.kind.Kind.TheVariants.{ArithmeticShiftLeftAssign, ArithmeticShiftRightAssign, CaseEquality, CaseInequality, WildcardEquality, WildcardInequality, ArithmeticShiftLeft, ArithmeticShiftRight, DoubleArrow, LogicalShiftLeftAssign, LogicalShiftRightAssign, ApostropheLeftBrace, ColonColon, DotStar, PlusPlus, MinusMinus, StarStar, LogicalEquality, LogicalInequality, LogicalAnd, LogicalOr, TildeAmpersand, TildePipe, TildeCaret, CaretTilde, LogicalShiftLeft, LogicalShiftRight, LessEqual, GreaterEqual, Arrow, PlusColon, MinusColon, PlusAssign, MinusAssign, StarAssign, SlashAssign, PercentAssign, AmpersandAssign, PipeAssign, CaretAssign, LeftParen, RightParen, LeftBracket, RightBracket, LeftBrace, RightBrace, Semicolon, Colon, Comma, Dot, Hash, At, Question, Assign, Plus, Minus, Star, Slash, Percent, Ampersand, Pipe, Caret, Tilde, Bang, Less, Greater, Apostrophe}
use Rattle.sve_token.specs.declared.operators.Operator.{Operator}

-- a spelling and its kind
abbrev pub Entry : Type 0
Entry = List ℕ × Kind

unfoldable pub operators : List Entry
operators =
    (codes "<<<=", ArithmeticShiftLeftAssign) ∷ (codes ">>>=", ArithmeticShiftRightAssign) ∷
    (codes "===", CaseEquality) ∷ (codes "!==", CaseInequality) ∷ (codes "==?", WildcardEquality) ∷
    (codes "!=?", WildcardInequality) ∷ (codes "<<<", ArithmeticShiftLeft) ∷ (codes ">>>", ArithmeticShiftRight) ∷
    (codes "<->", DoubleArrow) ∷ (codes "<<=", LogicalShiftLeftAssign) ∷ (codes ">>=", LogicalShiftRightAssign) ∷
    (codes "'{", ApostropheLeftBrace) ∷ (codes "::", ColonColon) ∷ (codes ".*", DotStar) ∷ (codes "++", PlusPlus) ∷
    (codes "--", MinusMinus) ∷ (codes "**", StarStar) ∷ (codes "==", LogicalEquality) ∷
    (codes "!=", LogicalInequality) ∷ (codes "&&", LogicalAnd) ∷ (codes "||", LogicalOr) ∷
    (codes "~&", TildeAmpersand) ∷ (codes "~|", TildePipe) ∷ (codes "~^", TildeCaret) ∷ (codes "^~", CaretTilde) ∷
    (codes "<<", LogicalShiftLeft) ∷ (codes ">>", LogicalShiftRight) ∷ (codes "<=", LessEqual) ∷
    (codes ">=", GreaterEqual) ∷ (codes "->", Arrow) ∷ (codes "+:", PlusColon) ∷ (codes "-:", MinusColon) ∷
    (codes "+=", PlusAssign) ∷ (codes "-=", MinusAssign) ∷ (codes "*=", StarAssign) ∷ (codes "/=", SlashAssign) ∷
    (codes "%=", PercentAssign) ∷ (codes "&=", AmpersandAssign) ∷ (codes "|=", PipeAssign) ∷
    (codes "^=", CaretAssign) ∷ (codes "(", LeftParen) ∷ (codes ")", RightParen) ∷ (codes "[", LeftBracket) ∷
    (codes "]", RightBracket) ∷ (codes "{", LeftBrace) ∷ (codes "}", RightBrace) ∷ (codes ";", Semicolon) ∷
    (codes ":", Colon) ∷ (codes ",", Comma) ∷ (codes ".", Dot) ∷ (codes "#", Hash) ∷ (codes "@", At) ∷
    (codes "?", Question) ∷ (codes "=", Assign) ∷ (codes "+", Plus) ∷ (codes "-", Minus) ∷ (codes "*", Star) ∷
    (codes "/", Slash) ∷ (codes "%", Percent) ∷ (codes "&", Ampersand) ∷ (codes "|", Pipe) ∷ (codes "^", Caret) ∷
    (codes "~", Tilde) ∷ (codes "!", Bang) ∷ (codes "<", Less) ∷ (codes ">", Greater) ∷ (codes "'", Apostrophe) ∷ []

-- the kind of the first entry that is spelled so
abbrev pub lookup : List Entry → List ℕ → Option Kind
lookup [] text = None
lookup (e ∷ es) text = if bytes_eq e.0 text then Some e.1 else lookup es text

-- the operator that a text is, if it is one
abbrev pub operator_of : List ℕ → Option Kind
operator_of text = lookup operators text

-- what is left of the entries that begin with a byte, after that byte
abbrev pub entry_after : ℕ → Entry → List Entry → List Entry
entry_after b ([], kind) es = es
entry_after b (c ∷ s, kind) es = if b == c then (s, kind) ∷ es else es

abbrev pub entries_after : ℕ → List Entry → List Entry
entries_after b [] = []
entries_after b (e ∷ es) = entry_after b e (entries_after b es)

-- a table of the code, without where its texts lie in memory
abbrev pub entries : List Operator → List Entry
entries table = map (λ o. (o.rest.now, o.kind)) table

-- no entry is longer than this
abbrev pub are_within : ℕ → List Entry → Bool
are_within n [] = true
are_within n (e ∷ es) = nat_le (length e.0) n && are_within n es

-- a longer entry stands before a shorter one
abbrev pub descends : List Entry → Bool
descends [] = true
descends (e ∷ es) = are_within (length e.0) es && descends es
