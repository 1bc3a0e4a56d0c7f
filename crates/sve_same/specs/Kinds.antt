-- Kinds of tokens by numbers, which tell any two apart (own).
use Rattle.std.specs.Prelude.{ℕ}
use Rattle.sve_token.specs.declared.kind.Kind.{Kind}
use Rattle.sve_token.specs.declared.kind.Kind.TheVariants as is_kind
use Rattle.sve_token.specs.declared.keywords.Keyword.{Keyword as Word}
use Rattle.sve_token.specs.declared.keywords.Keyword.TheVariants.{KwModule}
use Rattle.sve_token.specs.declared.reserved.Reserved.{Reserved as Unread}
use Rattle.sve_token.specs.declared.reserved.Reserved.TheVariants.{KwClass}

-- the number of a kind; all keywords have one
abbrev pub place_of : Kind → ℕ
place_of (is_kind.Keyword word) = 0
place_of is_kind.Identifier = 1
place_of is_kind.SystemName = 2
place_of is_kind.Decimal = 3
place_of is_kind.Based = 4
place_of is_kind.Unbased = 5
place_of is_kind.Text = 6
place_of is_kind.Bad = 7
place_of is_kind.LeftParen = 8
place_of is_kind.RightParen = 9
place_of is_kind.LeftBracket = 10
place_of is_kind.RightBracket = 11
place_of is_kind.LeftBrace = 12
place_of is_kind.RightBrace = 13
place_of is_kind.Semicolon = 14
place_of is_kind.Colon = 15
place_of is_kind.Comma = 16
place_of is_kind.Dot = 17
place_of is_kind.Hash = 18
place_of is_kind.At = 19
place_of is_kind.Question = 20
place_of is_kind.Assign = 21
place_of is_kind.Plus = 22
place_of is_kind.Minus = 23
place_of is_kind.Star = 24
place_of is_kind.Slash = 25
place_of is_kind.Percent = 26
place_of is_kind.Ampersand = 27
place_of is_kind.Pipe = 28
place_of is_kind.Caret = 29
place_of is_kind.Tilde = 30
place_of is_kind.Bang = 31
place_of is_kind.Less = 32
place_of is_kind.Greater = 33
place_of is_kind.Apostrophe = 34
place_of is_kind.ApostropheLeftBrace = 35
place_of is_kind.ColonColon = 36
place_of is_kind.DotStar = 37
place_of is_kind.PlusPlus = 38
place_of is_kind.MinusMinus = 39
place_of is_kind.StarStar = 40
place_of is_kind.LogicalEquality = 41
place_of is_kind.LogicalInequality = 42
place_of is_kind.CaseEquality = 43
place_of is_kind.CaseInequality = 44
place_of is_kind.WildcardEquality = 45
place_of is_kind.WildcardInequality = 46
place_of is_kind.LogicalAnd = 47
place_of is_kind.LogicalOr = 48
place_of is_kind.TildeAmpersand = 49
place_of is_kind.TildePipe = 50
place_of is_kind.TildeCaret = 51
place_of is_kind.CaretTilde = 52
place_of is_kind.LogicalShiftLeft = 53
place_of is_kind.LogicalShiftRight = 54
place_of is_kind.ArithmeticShiftLeft = 55
place_of is_kind.ArithmeticShiftRight = 56
place_of is_kind.LessEqual = 57
place_of is_kind.GreaterEqual = 58
place_of is_kind.Arrow = 59
place_of is_kind.DoubleArrow = 60
place_of is_kind.PlusColon = 61
place_of is_kind.MinusColon = 62
place_of is_kind.PlusAssign = 63
place_of is_kind.MinusAssign = 64
place_of is_kind.StarAssign = 65
place_of is_kind.SlashAssign = 66
place_of is_kind.PercentAssign = 67
place_of is_kind.AmpersandAssign = 68
place_of is_kind.PipeAssign = 69
place_of is_kind.CaretAssign = 70
place_of is_kind.LogicalShiftLeftAssign = 71
place_of is_kind.LogicalShiftRightAssign = 72
place_of is_kind.ArithmeticShiftLeftAssign = 73
place_of is_kind.ArithmeticShiftRightAssign = 74
place_of (is_kind.Reserved word) = 75

-- the keyword of a kind; where it is none, any
abbrev pub word_of : Kind → Word
word_of (is_kind.Keyword word) = word
word_of kind = KwModule

-- the keyword of a kind that no rule names; where it is none, any
abbrev pub reserved_of : Kind → Unread
reserved_of (is_kind.Reserved word) = word
reserved_of kind = KwClass
