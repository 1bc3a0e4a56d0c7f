-- Rules of a grammar: what they are made of, what they begin with, and which of them can be empty (IEEE 1800-2017, Annex A, in the notation of 1.5).
use Rattle.std.specs.Prelude.{Bool, true, false, ◌||◌, ◌&&◌, List, [], ◌∷◌, Option}
use Rattle.sve_token.specs.declared.kind.Kind.{Kind}
use Rattle.sve_token.specs.declared.kind.Kind.TheVariants.{Keyword, Identifier, SystemName, Decimal, Based, Unbased, Text, LeftParen, LeftBrace, ApostropheLeftBrace, Semicolon, Plus, Minus, Bang, Tilde, Ampersand, TildeAmpersand, Pipe, TildePipe, Caret, TildeCaret, CaretTilde, PlusPlus, MinusMinus}
use Rattle.sve_token.specs.declared.keywords.Keyword.{Keyword as Word}
use Rattle.sve_token.specs.declared.keywords.Keyword.TheVariants as words
use Rattle.sve_grammar.specs.declared.symbol.Symbol.{Symbol}
use Rattle.sve_grammar.specs.declared.symbol.Symbol.TheVariants.{Expression, Conditional, Unary, DataType, LeftSide, Statement, Item}
use Rattle.sve_grammar.specs.Token.{has_kind}

infixr 30 ◌∙◌
infixr 20 ◌∣◌
pub data Rule : Type 0 where
  -- one token of this kind
  tok : Kind → Rule
  -- a symbol that may lead back to itself, by its name
  sym : Symbol → Rule
  -- one rule, and behind it the other
  ◌∙◌ : Rule → Rule → Rule
  -- one rule, or else the other; of several, written one behind the other, the first that fits
  ◌∣◌ : Rule → Rule → Rule
  -- no token
  nothing : Rule
  -- the rule again and again, or not at all
  many : Rule → Rule

-- the rule, or no token
abbrev pub opt : Rule → Rule
opt r = r ∣ nothing

-- one keyword
abbrev pub word : Word → Rule
word w = tok (Keyword w)

abbrev pub is_among : List Kind → Option Kind → Bool
is_among [] k = false
is_among (x ∷ xs) k = has_kind k x || is_among xs k

-- the kinds that an operand begins with: a unary operator or a primary
abbrev pub operand_firsts : List Kind
operand_firsts =
    Plus ∷ Minus ∷ Bang ∷ Tilde ∷ Ampersand ∷ TildeAmpersand ∷ Pipe ∷ TildePipe ∷ Caret ∷ TildeCaret ∷ CaretTilde
    ∷ Decimal ∷ Based ∷ Unbased ∷ Text ∷ LeftParen ∷ ApostropheLeftBrace ∷ LeftBrace ∷ Keyword words.KwSigned ∷ Keyword words.KwUnsigned
    ∷ Keyword words.KwByte ∷ Keyword words.KwShortint ∷ Keyword words.KwInt ∷ Keyword words.KwLongint ∷ Keyword words.KwInteger ∷ Keyword words.KwTime
    ∷ Keyword words.KwBit ∷ Keyword words.KwLogic ∷ Keyword words.KwReg ∷ SystemName ∷ Identifier ∷ []

-- the kinds that each of the seven symbols begins with; a law says that they are those that its rule begins with
abbrev pub firsts : Symbol → List Kind
firsts Expression = operand_firsts
firsts Conditional = operand_firsts
firsts Unary = operand_firsts
firsts DataType =
    Keyword words.KwByte ∷ Keyword words.KwShortint ∷ Keyword words.KwInt ∷ Keyword words.KwLongint ∷ Keyword words.KwInteger ∷ Keyword words.KwTime
    ∷ Keyword words.KwBit ∷ Keyword words.KwLogic ∷ Keyword words.KwReg ∷ Keyword words.KwString ∷ Keyword words.KwEnum ∷ Keyword words.KwStruct ∷ []
firsts LeftSide = Identifier ∷ LeftBrace ∷ []
firsts Statement =
    Semicolon ∷ Keyword words.KwBegin ∷ Keyword words.KwUnique ∷ Keyword words.KwUnique0 ∷ Keyword words.KwPriority ∷ Keyword words.KwIf
    ∷ Keyword words.KwCase ∷ Keyword words.KwCasez ∷ Keyword words.KwCasex ∷ Keyword words.KwFor ∷ Keyword words.KwForeach ∷ Keyword words.KwWhile
    ∷ Keyword words.KwRepeat ∷ Keyword words.KwDo ∷ Keyword words.KwReturn ∷ Keyword words.KwBreak ∷ Keyword words.KwContinue ∷ SystemName
    ∷ Keyword words.KwVoid ∷ PlusPlus ∷ MinusMinus ∷ LeftBrace ∷ Identifier ∷ []
firsts Item =
    Semicolon ∷ Keyword words.KwImport ∷ Keyword words.KwParameter ∷ Keyword words.KwLocalparam ∷ Keyword words.KwTypedef ∷ Keyword words.KwFunction
    ∷ Keyword words.KwGenvar ∷ Keyword words.KwWire ∷ Keyword words.KwTri ∷ Keyword words.KwUwire ∷ Keyword words.KwWand ∷ Keyword words.KwWor
    ∷ Keyword words.KwTriand ∷ Keyword words.KwTrior ∷ Keyword words.KwTri0 ∷ Keyword words.KwTri1 ∷ Keyword words.KwSupply0 ∷ Keyword words.KwSupply1
    ∷ Keyword words.KwVar ∷ Keyword words.KwByte ∷ Keyword words.KwShortint ∷ Keyword words.KwInt ∷ Keyword words.KwLongint ∷ Keyword words.KwInteger
    ∷ Keyword words.KwTime ∷ Keyword words.KwBit ∷ Keyword words.KwLogic ∷ Keyword words.KwReg ∷ Keyword words.KwString ∷ Keyword words.KwEnum
    ∷ Keyword words.KwStruct ∷ Keyword words.KwAssign ∷ Keyword words.KwAlways ∷ Keyword words.KwAlwaysFf ∷ Keyword words.KwAlwaysComb
    ∷ Keyword words.KwAlwaysLatch ∷ Keyword words.KwInitial ∷ Keyword words.KwGenerate ∷ Keyword words.KwFor ∷ Keyword words.KwIf
    ∷ Keyword words.KwCase ∷ Keyword words.KwModport ∷ SystemName ∷ Identifier ∷ []

-- the symbol can begin with this kind
unfoldable pub opens : Symbol → Option Kind → Bool
opens s k = is_among (firsts s) k

-- the rule can be empty
abbrev pub empties : Rule → Bool
empties (tok k) = false
empties (sym s) = false
empties (a ∙ b) = empties a && empties b
empties (a ∣ b) = empties a || empties b
empties nothing = true
empties (many a) = true

-- FIRST: the rule can begin with this kind
abbrev pub starts : Rule → Option Kind → Bool
starts (tok x) k = has_kind k x
starts (sym s) k = opens s k
starts (a ∙ b) k = starts a k || (empties a && starts b k)
starts (a ∣ b) k = starts a k || starts b k
starts nothing k = false
starts (many a) k = starts a k
