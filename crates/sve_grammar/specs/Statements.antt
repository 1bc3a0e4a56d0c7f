-- The rules of statements and of functions (IEEE 1800-2017, A.6, A.2.6 and A.2.8); each comment names the production of Annex A.
use Rattle.sve_token.specs.declared.kind.Kind.TheVariants.{Identifier, SystemName, LeftParen, RightParen, LeftBracket, RightBracket, LeftBrace, RightBrace, Semicolon, Colon, Comma, Assign, PlusPlus, MinusMinus, LessEqual, PlusAssign, MinusAssign, StarAssign, SlashAssign, PercentAssign, AmpersandAssign, PipeAssign, CaretAssign, LogicalShiftLeftAssign, LogicalShiftRightAssign, ArithmeticShiftLeftAssign, ArithmeticShiftRightAssign}
use Rattle.sve_token.specs.declared.keywords.Keyword.TheVariants.{KwBegin, KwEnd, KwUnique, KwUnique0, KwPriority, KwIf, KwElse, KwCase, KwCasez, KwCasex, KwEndcase, KwDefault, KwFor, KwForeach, KwWhile, KwRepeat, KwDo, KwReturn, KwBreak, KwContinue, KwVoid, KwFunction, KwEndfunction, KwRef, KwVar}
use Rattle.sve_grammar.specs.declared.symbol.Symbol.TheVariants.{Expression, DataType, LeftSide, Statement}
use Rattle.sve_grammar.specs.Rule.{Rule, tok, sym, ◌∙◌, ◌∣◌, many, opt, word}
use Rattle.sve_grammar.specs.Expressions.{parenthesized, scoped_name, selects, more_expressions, argument_list, cast}
use Rattle.sve_grammar.specs.Types.{more_identifiers, declared_name, initializer, declaration_end, declared_type, named_type, direction}
use Rattle.sve_grammar.specs.Declarations.{lifetime, label, variable_declaration, data_declaration, parameter_declaration, type_declaration}

-- ---- assignments

-- inc_or_dec_operator (A.8.6)
unfoldable pub increment_operator : Rule
increment_operator = tok PlusPlus ∣ tok MinusMinus

-- =, <= of a nonblocking assignment, and the other assignment_operator (A.6.2)
unfoldable pub assignment_operator : Rule
assignment_operator =
    tok Assign ∣ tok LessEqual ∣ tok PlusAssign ∣ tok MinusAssign ∣ tok StarAssign ∣ tok SlashAssign ∣ tok PercentAssign ∣ tok AmpersandAssign ∣ tok PipeAssign
    ∣ tok CaretAssign ∣ tok LogicalShiftLeftAssign ∣ tok LogicalShiftRightAssign ∣ tok ArithmeticShiftLeftAssign ∣ tok ArithmeticShiftRightAssign

unfoldable pub more_left_sides : Rule
more_left_sides = many (tok Comma ∙ sym LeftSide)

-- net_lvalue, variable_lvalue in braces (A.8.5)
unfoldable pub left_concatenation : Rule
left_concatenation = tok LeftBrace ∙ sym LeftSide ∙ more_left_sides ∙ tok RightBrace

-- net_lvalue, variable_lvalue (A.8.5)
unfoldable pub left_side : Rule
left_side = tok Identifier ∙ selects ∣ left_concatenation

-- an operator and the value, or an increment: operator_assignment, inc_or_dec_expression (A.6.2, A.8.3)
unfoldable pub assignment_or_increment : Rule
assignment_or_increment = assignment_operator ∙ sym Expression ∣ increment_operator

-- what a statement does with the name at its front: an assignment, an increment or a call
unfoldable pub statement_tail : Rule
statement_tail = assignment_operator ∙ sym Expression ∣ increment_operator ∣ argument_list

-- ---- blocks

-- a type and the names that it declares, behind a lifetime: data_declaration (A.2.1.3)
unfoldable pub local_declaration : Rule
local_declaration = sym DataType ∙ declared_name ∙ declaration_end ∣ named_type ∙ declared_name ∙ declaration_end

-- behind a name in a block: what a statement does with it, or what it declares as a type
unfoldable pub block_item_end : Rule
block_item_end = statement_tail ∣ declared_name ∙ declaration_end

-- block_item_declaration (A.2.8), statement_or_null (A.6.4)
unfoldable pub block_item : Rule
block_item =
    lifetime ∙ local_declaration ∙ tok Semicolon
    ∣ variable_declaration
    ∣ data_declaration
    ∣ parameter_declaration
    ∣ type_declaration
    ∣ scoped_name ∙ selects ∙ block_item_end ∙ tok Semicolon
    ∣ sym Statement

unfoldable pub block_items : Rule
block_items = many block_item

-- seq_block (A.6.3)
unfoldable pub block : Rule
block = word KwBegin ∙ opt label ∙ block_items ∙ word KwEnd ∙ opt label

-- ---- choices

-- unique_priority (A.6.6)
unfoldable pub uniqueness : Rule
uniqueness = word KwUnique ∣ word KwUnique0 ∣ word KwPriority

-- else statement_or_null
unfoldable pub else_branch : Rule
else_branch = word KwElse ∙ sym Statement

-- conditional_statement (A.6.6)
unfoldable pub if_statement : Rule
if_statement = word KwIf ∙ parenthesized ∙ sym Statement ∙ opt else_branch

-- case_keyword (A.6.7)
unfoldable pub case_keyword : Rule
case_keyword = word KwCase ∣ word KwCasez ∣ word KwCasex

-- case_item (A.6.7)
unfoldable pub case_item : Rule
case_item = word KwDefault ∙ opt (tok Colon) ∙ sym Statement ∣ sym Expression ∙ more_expressions ∙ tok Colon ∙ sym Statement

unfoldable pub case_items : Rule
case_items = many case_item

-- case_statement (A.6.7)
unfoldable pub case_statement : Rule
case_statement = case_keyword ∙ parenthesized ∙ case_item ∙ case_items ∙ word KwEndcase

-- if or case
unfoldable pub choice : Rule
choice = if_statement ∣ case_statement

-- ---- loops

-- behind a name at the front of a loop: an assignment to it, or a variable of that type
unfoldable pub for_initialization_end : Rule
for_initialization_end = assignment_operator ∙ sym Expression ∣ declared_name ∙ initializer

-- a further variable of a loop: for_variable_declaration (A.6.8)
unfoldable pub more_for_variables : Rule
more_for_variables = many (tok Comma ∙ opt (sym DataType) ∙ declared_name ∙ initializer)

-- for_initialization (A.6.8)
unfoldable pub for_initialization : Rule
for_initialization =
    sym DataType ∙ declared_name ∙ initializer ∙ more_for_variables
    ∣ scoped_name ∙ selects ∙ for_initialization_end

-- for_step_assignment (A.6.8)
unfoldable pub for_step : Rule
for_step = increment_operator ∙ tok Identifier ∙ selects ∣ tok Identifier ∙ selects ∙ assignment_or_increment

unfoldable pub more_for_steps : Rule
more_for_steps = many (tok Comma ∙ for_step)

-- for_step (A.6.8)
unfoldable pub for_steps : Rule
for_steps = for_step ∙ more_for_steps

-- for: loop_statement (A.6.8)
unfoldable pub for_statement : Rule
for_statement =
    word KwFor ∙ tok LeftParen ∙ for_initialization ∙ tok Semicolon ∙ opt (sym Expression) ∙ tok Semicolon ∙ opt for_steps ∙ tok RightParen ∙ sym Statement

-- foreach: loop_statement (A.6.8)
unfoldable pub foreach_statement : Rule
foreach_statement =
    word KwForeach ∙ tok LeftParen ∙ tok Identifier ∙ tok LeftBracket ∙ tok Identifier ∙ more_identifiers ∙ tok RightBracket ∙ tok RightParen ∙ sym Statement

-- while, repeat: loop_statement (A.6.8)
unfoldable pub loop_keyword : Rule
loop_keyword = word KwWhile ∣ word KwRepeat

unfoldable pub loop_statement : Rule
loop_statement = loop_keyword ∙ parenthesized ∙ sym Statement

-- do: loop_statement (A.6.8)
unfoldable pub do_statement : Rule
do_statement = word KwDo ∙ sym Statement ∙ word KwWhile ∙ parenthesized ∙ tok Semicolon

-- ---- other statements

-- return: jump_statement (A.6.5)
unfoldable pub return_statement : Rule
return_statement = word KwReturn ∙ opt (sym Expression) ∙ tok Semicolon

-- a system task or function as a statement, or as an item: subroutine_call_statement (A.6.9), elaboration_system_task (A.1.4)
unfoldable pub system_task : Rule
system_task = tok SystemName ∙ opt argument_list ∙ tok Semicolon

-- void ' ( function_subroutine_call ) ;: subroutine_call_statement (A.6.9)
unfoldable pub void_call : Rule
void_call = word KwVoid ∙ cast ∙ tok Semicolon

-- an increment with its operator in front: inc_or_dec_expression (A.8.3)
unfoldable pub increment_statement : Rule
increment_statement = increment_operator ∙ tok Identifier ∙ selects ∙ tok Semicolon

-- an assignment to names in braces: blocking_assignment, nonblocking_assignment (A.6.2)
unfoldable pub concatenation_assignment : Rule
concatenation_assignment = left_concatenation ∙ assignment_operator ∙ sym Expression ∙ tok Semicolon

-- a statement that begins with a name: blocking_assignment, nonblocking_assignment, inc_or_dec_expression, subroutine_call_statement
unfoldable pub name_statement : Rule
name_statement = scoped_name ∙ selects ∙ statement_tail ∙ tok Semicolon

-- statement_or_null (A.6.4)
unfoldable pub statement : Rule
statement =
    tok Semicolon
    ∣ block
    ∣ opt uniqueness ∙ choice
    ∣ for_statement
    ∣ foreach_statement
    ∣ loop_statement
    ∣ do_statement
    ∣ return_statement
    ∣ word KwBreak ∙ tok Semicolon
    ∣ word KwContinue ∙ tok Semicolon
    ∣ system_task
    ∣ void_call
    ∣ increment_statement
    ∣ concatenation_assignment
    ∣ name_statement

-- ---- functions

-- the result and the name: function_data_type_or_implicit and an identifier (A.2.6)
unfoldable pub function_result : Rule
function_result = word KwVoid ∙ tok Identifier ∣ declared_type

-- tf_port_direction (A.2.7)
unfoldable pub formal_direction : Rule
formal_direction = direction ∣ word KwRef

-- tf_port_item (A.2.7)
unfoldable pub formal : Rule
formal = opt formal_direction ∙ opt (word KwVar) ∙ declared_type

unfoldable pub more_formals : Rule
more_formals = many (tok Comma ∙ formal)

unfoldable pub formal_row : Rule
formal_row = formal ∙ more_formals

-- tf_port_list in parentheses (A.2.7)
unfoldable pub formals : Rule
formals = tok LeftParen ∙ opt formal_row ∙ tok RightParen

-- function_declaration (A.2.6)
unfoldable pub function_declaration : Rule
function_declaration =
    word KwFunction ∙ opt lifetime ∙ function_result ∙ opt formals ∙ tok Semicolon ∙ block_items ∙ word KwEndfunction ∙ opt label
