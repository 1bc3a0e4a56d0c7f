-- The rules of expressions (IEEE 1800-2017, A.8 and A.2.5); each comment names the production of Annex A that the rule is, in this profile.
use Rattle.std.specs.Prelude.{ℕ, zero, suc, ◌==◌, if◌then◌else◌}
use Rattle.sve_token.specs.declared.kind.Kind.TheVariants.{Identifier, SystemName, Decimal, Based, Unbased, Text, LeftParen, RightParen, LeftBracket, RightBracket, LeftBrace, RightBrace, Colon, Comma, Dot, Question, Plus, Minus, Star, Slash, Percent, Ampersand, Pipe, Caret, Tilde, Bang, Less, Greater, Apostrophe, ApostropheLeftBrace, ColonColon, DotStar, StarStar, LogicalEquality, LogicalInequality, CaseEquality, CaseInequality, WildcardEquality, WildcardInequality, LogicalAnd, LogicalOr, TildeAmpersand, TildePipe, TildeCaret, CaretTilde, LogicalShiftLeft, LogicalShiftRight, ArithmeticShiftLeft, ArithmeticShiftRight, LessEqual, GreaterEqual, Arrow, DoubleArrow, PlusColon, MinusColon}
use Rattle.sve_token.specs.declared.keywords.Keyword.TheVariants.{KwSigned, KwUnsigned, KwByte, KwShortint, KwInt, KwLongint, KwInteger, KwTime, KwBit, KwLogic, KwReg, KwInside, KwDefault}
use Rattle.sve_grammar.specs.declared.symbol.Symbol.TheVariants.{Expression, Conditional, Unary}
use Rattle.sve_grammar.specs.Rule.{Rule, tok, sym, ◌∙◌, ◌∣◌, many, opt, word}

-- ---- parts that types share with expressions

-- signing (A.2.2.1)
unfoldable pub signing : Rule
signing = word KwSigned ∣ word KwUnsigned

-- integer_atom_type (A.2.2.1)
unfoldable pub integer_atom_type : Rule
integer_atom_type = word KwByte ∣ word KwShortint ∣ word KwInt ∣ word KwLongint ∣ word KwInteger ∣ word KwTime

-- integer_vector_type (A.2.2.1)
unfoldable pub integer_vector_type : Rule
integer_vector_type = word KwBit ∣ word KwLogic ∣ word KwReg

-- integer_type (A.2.2.1)
unfoldable pub integer_type : Rule
integer_type = integer_atom_type ∣ integer_vector_type

-- packed_dimension, unpacked_dimension (A.2.5)
unfoldable pub dimension : Rule
dimension = tok LeftBracket ∙ sym Expression ∙ opt (tok Colon ∙ sym Expression) ∙ tok RightBracket

-- { packed_dimension }, { unpacked_dimension }
unfoldable pub dimensions : Rule
dimensions = many dimension

-- a name, perhaps behind the name of a package: ps_identifier (A.9.3)
unfoldable pub scoped_name : Rule
scoped_name = tok Identifier ∙ opt (tok ColonColon ∙ tok Identifier)

-- ( expression )
unfoldable pub parenthesized : Rule
parenthesized = tok LeftParen ∙ sym Expression ∙ tok RightParen

-- ---- lists

-- { , expression }
unfoldable pub more_expressions : Rule
more_expressions = many (tok Comma ∙ sym Expression)

-- expressions in braces: concatenation (A.8.1)
unfoldable pub braced_expressions : Rule
braced_expressions = tok LeftBrace ∙ sym Expression ∙ more_expressions ∙ tok RightBrace

-- what a named argument is connected to: ( [ expression ] )
unfoldable pub connection : Rule
connection = tok LeftParen ∙ opt (sym Expression) ∙ tok RightParen

-- an argument of a call, an override or a connection of an instance: list_of_arguments (A.8.2), named_parameter_assignment, named_port_connection (A.4.1.1)
unfoldable pub argument : Rule
argument = tok DotStar ∣ tok Dot ∙ tok Identifier ∙ opt connection ∣ opt (sym Expression)

unfoldable pub more_arguments : Rule
more_arguments = many (tok Comma ∙ argument)

-- list_of_arguments (A.8.2), list_of_parameter_assignments, list_of_port_connections (A.4.1.1)
unfoldable pub arguments : Rule
arguments = argument ∙ more_arguments

-- arguments in parentheses
unfoldable pub argument_list : Rule
argument_list = tok LeftParen ∙ arguments ∙ tok RightParen

-- ---- selects

-- what a range has behind its first expression: part_select_range (A.8.3)
unfoldable pub range_end : Rule
range_end = tok Colon ∙ sym Expression ∣ tok PlusColon ∙ sym Expression ∣ tok MinusColon ∙ sym Expression

-- one expression, or a range: bit_select (A.8.4), part_select_range (A.8.3)
unfoldable pub range : Rule
range = sym Expression ∙ opt range_end

-- [ .. ] behind a name or a concatenation
unfoldable pub bracket_select : Rule
bracket_select = tok LeftBracket ∙ range ∙ tok RightBracket

unfoldable pub bracket_selects : Rule
bracket_selects = many bracket_select

-- a part of select (A.8.4): a member, or [ .. ]
unfoldable pub select : Rule
select = tok Dot ∙ tok Identifier ∣ bracket_select

unfoldable pub selects : Rule
selects = many select

-- ---- primaries

-- ' ( expression ), behind the type or the size: cast (A.8.4)
unfoldable pub cast : Rule
cast = tok Apostrophe ∙ parenthesized

-- what an item of a pattern has behind its first expression
unfoldable pub pattern_item_end : Rule
pattern_item_end = tok Colon ∙ sym Expression ∣ braced_expressions

-- an item of assignment_pattern (A.6.7.1)
unfoldable pub pattern_item : Rule
pattern_item = word KwDefault ∙ tok Colon ∙ sym Expression ∣ sym Expression ∙ opt pattern_item_end

unfoldable pub more_pattern_items : Rule
more_pattern_items = many (tok Comma ∙ pattern_item)

-- assignment_pattern (A.6.7.1)
unfoldable pub pattern : Rule
pattern = tok ApostropheLeftBrace ∙ pattern_item ∙ more_pattern_items ∙ tok RightBrace

-- behind the first expression in braces: what is repeated, or the other expressions
unfoldable pub concatenation_end : Rule
concatenation_end = braced_expressions ∣ more_expressions

-- concatenation, multiple_concatenation (A.8.1)
unfoldable pub concatenation : Rule
concatenation = tok LeftBrace ∙ sym Expression ∙ concatenation_end ∙ tok RightBrace ∙ bracket_selects

-- a number, or a number as the size of a cast: decimal_number (A.8.7), cast (A.8.4)
unfoldable pub decimal : Rule
decimal = tok Decimal ∙ opt (tok Based ∣ cast)

-- an integer type, alone or with a cast: casting_type (A.2.2.1)
unfoldable pub typed_primary : Rule
typed_primary = integer_type ∙ opt signing ∙ dimensions ∙ opt cast

-- system_tf_call (A.8.2)
unfoldable pub system_call : Rule
system_call = tok SystemName ∙ opt argument_list ∙ selects

-- what stands behind a name: a select, a call's arguments, a cast or a pattern of that type
unfoldable pub postfix : Rule
postfix = select ∣ argument_list ∣ cast ∣ pattern

unfoldable pub postfixes : Rule
postfixes = many postfix

-- primary (A.8.4)
unfoldable pub primary : Rule
primary =
    decimal
    ∣ tok Based
    ∣ tok Unbased
    ∣ tok Text
    ∣ parenthesized ∙ opt cast
    ∣ pattern
    ∣ concatenation
    ∣ signing ∙ cast
    ∣ typed_primary
    ∣ system_call
    ∣ scoped_name ∙ postfixes

-- ---- operators

-- unary_operator (A.8.6)
unfoldable pub unary_operator : Rule
unary_operator =
    tok Plus ∣ tok Minus ∣ tok Bang ∣ tok Tilde ∣ tok Ampersand ∣ tok TildeAmpersand ∣ tok Pipe ∣ tok TildePipe ∣ tok Caret ∣ tok TildeCaret ∣ tok CaretTilde

-- an operand with its unary operators: expression (A.8.3)
unfoldable pub unary : Rule
unary = unary_operator ∙ sym Unary ∣ primary

-- binary_operator (A.8.6) by the levels of Table 11-2, the tightest as 1: power, multiplicative, additive, shift, relational, equality,
-- bitwise and, bitwise exclusive or, bitwise or, logical and, logical or
unfoldable pub operators : ℕ → Rule
operators level =
    if level == 1 then tok StarStar else
    if level == 2 then tok Star ∣ tok Slash ∣ tok Percent else
    if level == 3 then tok Plus ∣ tok Minus else
    if level == 4 then tok LogicalShiftLeft ∣ tok LogicalShiftRight ∣ tok ArithmeticShiftLeft ∣ tok ArithmeticShiftRight else
    if level == 5 then tok Less ∣ tok LessEqual ∣ tok Greater ∣ tok GreaterEqual else
    if level == 6 then tok LogicalEquality ∣ tok LogicalInequality ∣ tok CaseEquality ∣ tok CaseInequality ∣ tok WildcardEquality ∣ tok WildcardInequality else
    if level == 7 then tok Ampersand else
    if level == 8 then tok Caret ∣ tok TildeCaret ∣ tok CaretTilde else
    if level == 9 then tok Pipe else
    if level == 10 then tok LogicalAnd else
    tok LogicalOr

-- value_range (A.8.3)
unfoldable pub value_range : Rule
value_range = tok LeftBracket ∙ sym Expression ∙ tok Colon ∙ sym Expression ∙ tok RightBracket ∣ sym Expression

unfoldable pub more_value_ranges : Rule
more_value_ranges = many (tok Comma ∙ value_range)

-- inside { open_range_list }, behind an operand: inside_expression (A.8.3)
unfoldable pub membership : Rule
membership = word KwInside ∙ tok LeftBrace ∙ value_range ∙ more_value_ranges ∙ tok RightBrace

-- what goes on behind an operand of a level: an operator and the next operand; on the relational level a membership too
unfoldable pub operation : ℕ → Rule → Rule
operation level operand = if level == 5 then operators level ∙ operand ∣ membership else operators level ∙ operand

-- the binary operations of a level: operands of the next tighter level with operators of this one between; a unary is level 0
unfoldable pub operations : ℕ → Rule
operations zero = sym Unary
operations (suc n) = operations n ∙ many (operation (suc n) (operations n))

-- conditional_expression (A.8.3), or operations of the loosest level alone
unfoldable pub conditional : Rule
conditional = operations 11 ∙ opt (tok Question ∙ sym Expression ∙ tok Colon ∙ sym Conditional)

-- implication and equivalence of expressions (11.4.7)
unfoldable pub implication_operator : Rule
implication_operator = tok Arrow ∣ tok DoubleArrow

-- expression (A.8.3)
unfoldable pub expression : Rule
expression = sym Conditional ∙ opt (implication_operator ∙ sym Expression)
