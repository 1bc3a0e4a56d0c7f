-- The numbers of kinds tell any two apart.
use Rattle.std.proofs.Common.{◌≡◌, ℕ, nat_eq, if◌then◌else◌, refl, sym, ◌∙◌}
use Rattle.sve_token.specs.declared.kind.Kind.{Kind}
use Rattle.sve_token.specs.declared.kind.Kind.TheVariants as is_kind
use Rattle.sve_token.specs.declared.keywords.Keyword.{Keyword as Word}
use Rattle.sve_token.specs.declared.reserved.Reserved.{Reserved as Unread}
use Rattle.sve_same.specs.Kinds.{place_of, word_of, reserved_of}

-- the kind of this number and these keywords
back : ℕ → Word → Unread → Kind
back place word unread =
    if nat_eq place 1 then is_kind.Identifier
    else if nat_eq place 2 then is_kind.SystemName
    else if nat_eq place 3 then is_kind.Decimal
    else if nat_eq place 4 then is_kind.Based
    else if nat_eq place 5 then is_kind.Unbased
    else if nat_eq place 6 then is_kind.Text
    else if nat_eq place 7 then is_kind.Bad
    else if nat_eq place 8 then is_kind.LeftParen
    else if nat_eq place 9 then is_kind.RightParen
    else if nat_eq place 10 then is_kind.LeftBracket
    else if nat_eq place 11 then is_kind.RightBracket
    else if nat_eq place 12 then is_kind.LeftBrace
    else if nat_eq place 13 then is_kind.RightBrace
    else if nat_eq place 14 then is_kind.Semicolon
    else if nat_eq place 15 then is_kind.Colon
    else if nat_eq place 16 then is_kind.Comma
    else if nat_eq place 17 then is_kind.Dot
    else if nat_eq place 18 then is_kind.Hash
    else if nat_eq place 19 then is_kind.At
    else if nat_eq place 20 then is_kind.Question
    else if nat_eq place 21 then is_kind.Assign
    else if nat_eq place 22 then is_kind.Plus
    else if nat_eq place 23 then is_kind.Minus
    else if nat_eq place 24 then is_kind.Star
    else if nat_eq place 25 then is_kind.Slash
    else if nat_eq place 26 then is_kind.Percent
    else if nat_eq place 27 then is_kind.Ampersand
    else if nat_eq place 28 then is_kind.Pipe
    else if nat_eq place 29 then is_kind.Caret
    else if nat_eq place 30 then is_kind.Tilde
    else if nat_eq place 31 then is_kind.Bang
    else if nat_eq place 32 then is_kind.Less
    else if nat_eq place 33 then is_kind.Greater
    else if nat_eq place 34 then is_kind.Apostrophe
    else if nat_eq place 35 then is_kind.ApostropheLeftBrace
    else if nat_eq place 36 then is_kind.ColonColon
    else if nat_eq place 37 then is_kind.DotStar
    else if nat_eq place 38 then is_kind.PlusPlus
    else if nat_eq place 39 then is_kind.MinusMinus
    else if nat_eq place 40 then is_kind.StarStar
    else if nat_eq place 41 then is_kind.LogicalEquality
    else if nat_eq place 42 then is_kind.LogicalInequality
    else if nat_eq place 43 then is_kind.CaseEquality
    else if nat_eq place 44 then is_kind.CaseInequality
    else if nat_eq place 45 then is_kind.WildcardEquality
    else if nat_eq place 46 then is_kind.WildcardInequality
    else if nat_eq place 47 then is_kind.LogicalAnd
    else if nat_eq place 48 then is_kind.LogicalOr
    else if nat_eq place 49 then is_kind.TildeAmpersand
    else if nat_eq place 50 then is_kind.TildePipe
    else if nat_eq place 51 then is_kind.TildeCaret
    else if nat_eq place 52 then is_kind.CaretTilde
    else if nat_eq place 53 then is_kind.LogicalShiftLeft
    else if nat_eq place 54 then is_kind.LogicalShiftRight
    else if nat_eq place 55 then is_kind.ArithmeticShiftLeft
    else if nat_eq place 56 then is_kind.ArithmeticShiftRight
    else if nat_eq place 57 then is_kind.LessEqual
    else if nat_eq place 58 then is_kind.GreaterEqual
    else if nat_eq place 59 then is_kind.Arrow
    else if nat_eq place 60 then is_kind.DoubleArrow
    else if nat_eq place 61 then is_kind.PlusColon
    else if nat_eq place 62 then is_kind.MinusColon
    else if nat_eq place 63 then is_kind.PlusAssign
    else if nat_eq place 64 then is_kind.MinusAssign
    else if nat_eq place 65 then is_kind.StarAssign
    else if nat_eq place 66 then is_kind.SlashAssign
    else if nat_eq place 67 then is_kind.PercentAssign
    else if nat_eq place 68 then is_kind.AmpersandAssign
    else if nat_eq place 69 then is_kind.PipeAssign
    else if nat_eq place 70 then is_kind.CaretAssign
    else if nat_eq place 71 then is_kind.LogicalShiftLeftAssign
    else if nat_eq place 72 then is_kind.LogicalShiftRightAssign
    else if nat_eq place 73 then is_kind.ArithmeticShiftLeftAssign
    else if nat_eq place 74 then is_kind.ArithmeticShiftRightAssign
    else if nat_eq place 75 then is_kind.Reserved unread
    else is_kind.Keyword word

back_is : (k : Kind) → back (place_of k) (word_of k) (reserved_of k) ≡ k
unfolding back
back_is (is_kind.Keyword word) = refl
back_is is_kind.Identifier = refl
back_is is_kind.SystemName = refl
back_is is_kind.Decimal = refl
back_is is_kind.Based = refl
back_is is_kind.Unbased = refl
back_is is_kind.Text = refl
back_is is_kind.Bad = refl
back_is is_kind.LeftParen = refl
back_is is_kind.RightParen = refl
back_is is_kind.LeftBracket = refl
back_is is_kind.RightBracket = refl
back_is is_kind.LeftBrace = refl
back_is is_kind.RightBrace = refl
back_is is_kind.Semicolon = refl
back_is is_kind.Colon = refl
back_is is_kind.Comma = refl
back_is is_kind.Dot = refl
back_is is_kind.Hash = refl
back_is is_kind.At = refl
back_is is_kind.Question = refl
back_is is_kind.Assign = refl
back_is is_kind.Plus = refl
back_is is_kind.Minus = refl
back_is is_kind.Star = refl
back_is is_kind.Slash = refl
back_is is_kind.Percent = refl
back_is is_kind.Ampersand = refl
back_is is_kind.Pipe = refl
back_is is_kind.Caret = refl
back_is is_kind.Tilde = refl
back_is is_kind.Bang = refl
back_is is_kind.Less = refl
back_is is_kind.Greater = refl
back_is is_kind.Apostrophe = refl
back_is is_kind.ApostropheLeftBrace = refl
back_is is_kind.ColonColon = refl
back_is is_kind.DotStar = refl
back_is is_kind.PlusPlus = refl
back_is is_kind.MinusMinus = refl
back_is is_kind.StarStar = refl
back_is is_kind.LogicalEquality = refl
back_is is_kind.LogicalInequality = refl
back_is is_kind.CaseEquality = refl
back_is is_kind.CaseInequality = refl
back_is is_kind.WildcardEquality = refl
back_is is_kind.WildcardInequality = refl
back_is is_kind.LogicalAnd = refl
back_is is_kind.LogicalOr = refl
back_is is_kind.TildeAmpersand = refl
back_is is_kind.TildePipe = refl
back_is is_kind.TildeCaret = refl
back_is is_kind.CaretTilde = refl
back_is is_kind.LogicalShiftLeft = refl
back_is is_kind.LogicalShiftRight = refl
back_is is_kind.ArithmeticShiftLeft = refl
back_is is_kind.ArithmeticShiftRight = refl
back_is is_kind.LessEqual = refl
back_is is_kind.GreaterEqual = refl
back_is is_kind.Arrow = refl
back_is is_kind.DoubleArrow = refl
back_is is_kind.PlusColon = refl
back_is is_kind.MinusColon = refl
back_is is_kind.PlusAssign = refl
back_is is_kind.MinusAssign = refl
back_is is_kind.StarAssign = refl
back_is is_kind.SlashAssign = refl
back_is is_kind.PercentAssign = refl
back_is is_kind.AmpersandAssign = refl
back_is is_kind.PipeAssign = refl
back_is is_kind.CaretAssign = refl
back_is is_kind.LogicalShiftLeftAssign = refl
back_is is_kind.LogicalShiftRightAssign = refl
back_is is_kind.ArithmeticShiftLeftAssign = refl
back_is is_kind.ArithmeticShiftRightAssign = refl
back_is (is_kind.Reserved word) = refl

pub one_kind : (a b : Kind) → place_of a ≡ place_of b → word_of a ≡ word_of b → reserved_of a ≡ reserved_of b → a ≡ b
one_kind a b p w r = sym (back_is a) ∙ (λ i. back (p i) (w i) (r i)) ∙ back_is b
