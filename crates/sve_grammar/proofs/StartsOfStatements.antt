-- What the rules of declarations, statements and functions begin with, and that they are not empty.
use Rattle.std.proofs.Common.{◌≡◌, false, Option, refl}
use Rattle.std.specs.Prelude.{◌||◌}
use Rattle.sve_token.specs.declared.kind.Kind.{Kind}
use Rattle.sve_token.specs.declared.kind.Kind.TheVariants.{Keyword, AmpersandAssign, ArithmeticShiftLeftAssign, ArithmeticShiftRightAssign, Assign, CaretAssign, Colon, Comma, Identifier, LeftBrace, LeftBracket, LeftParen, LessEqual, LogicalShiftLeftAssign, LogicalShiftRightAssign, MinusAssign, MinusMinus, PercentAssign, PipeAssign, PlusAssign, PlusPlus, SlashAssign, Star, StarAssign, SystemName}
use Rattle.sve_token.specs.declared.keywords.Keyword.TheVariants.{KwAutomatic, KwBegin, KwCase, KwCasex, KwCasez, KwDefault, KwDo, KwElse, KwFor, KwForeach, KwFunction, KwIf, KwImport, KwInout, KwInput, KwLocalparam, KwOutput, KwParameter, KwPriority, KwRef, KwRepeat, KwReturn, KwSigned, KwStatic, KwSupply0, KwSupply1, KwTri, KwTri0, KwTri1, KwTriand, KwTrior, KwTypedef, KwUnique, KwUnique0, KwUnsigned, KwUwire, KwVar, KwVoid, KwWand, KwWhile, KwWire, KwWor}
use Rattle.sve_grammar.specs.declared.symbol.Symbol.TheVariants.{DataType, Expression, Statement}
use Rattle.sve_grammar.specs.Token.{has_kind}
use Rattle.sve_grammar.specs.Rule.{starts, empties, opens}
use Rattle.sve_grammar.specs.Expressions.{signing, dimension, scoped_name, argument_list}
use Rattle.sve_grammar.specs.Types.{declared_name, named_type, declared_type, direction, net_type, parameter_keyword}
use Rattle.sve_grammar.specs.Declarations.{lifetime, label, imported_name, import_item, more_import_items, import_declaration, imports, header, more_parameters, parameter_declaration, type_declaration, net_declaration, variable_declaration, data_declaration, modport_port, more_modport_ports, modport_item}
use Rattle.sve_grammar.specs.Statements.{increment_operator, assignment_operator, more_left_sides, left_concatenation, assignment_or_increment, statement_tail, local_declaration, block_item_end, block_item, block_items, block, uniqueness, else_branch, if_statement, case_keyword, case_item, case_items, case_statement, choice, for_initialization_end, more_for_variables, for_initialization, for_step, more_for_steps, for_steps, for_statement, foreach_statement, loop_keyword, loop_statement, do_statement, return_statement, system_task, void_call, increment_statement, concatenation_assignment, name_statement, function_result, formal_direction, formal, more_formals, formal_row, formals, function_declaration}
use Rattle.sve_grammar.proofs.Begins.{or_none, or_or}

pub lifetime_starts : (k : Option Kind) → starts lifetime k ≡ (has_kind k (Keyword KwAutomatic) || has_kind k (Keyword KwStatic))
unfolding lifetime
lifetime_starts k = refl

pub lifetime_full : empties lifetime ≡ false
unfolding lifetime
lifetime_full = refl

pub label_starts : (k : Option Kind) → starts label k ≡ has_kind k Colon
unfolding label
label_starts k = or_none (has_kind k Colon)

pub label_full : empties label ≡ false
unfolding label
label_full = refl

pub imported_name_starts : (k : Option Kind) → starts imported_name k ≡ (has_kind k Identifier || has_kind k Star)
unfolding imported_name
imported_name_starts k = refl

pub imported_name_full : empties imported_name ≡ false
unfolding imported_name
imported_name_full = refl

pub import_item_starts : (k : Option Kind) → starts import_item k ≡ has_kind k Identifier
unfolding import_item
import_item_starts k = or_none (has_kind k Identifier)

pub import_item_full : empties import_item ≡ false
unfolding import_item
import_item_full = refl

pub more_import_items_starts : (k : Option Kind) → starts more_import_items k ≡ has_kind k Comma
unfolding more_import_items
more_import_items_starts k = or_none (has_kind k Comma)

pub import_declaration_starts : (k : Option Kind) → starts import_declaration k ≡ has_kind k (Keyword KwImport)
unfolding import_declaration
import_declaration_starts k = or_none (has_kind k (Keyword KwImport))

pub import_declaration_full : empties import_declaration ≡ false
unfolding import_declaration
import_declaration_full = refl

pub imports_starts : (k : Option Kind) → starts imports k ≡ has_kind k (Keyword KwImport)
unfolding imports import_declaration
imports_starts k = or_none (has_kind k (Keyword KwImport))

pub header_starts : (k : Option Kind) → starts header k ≡ (has_kind k (Keyword KwAutomatic) || (has_kind k (Keyword KwStatic) || has_kind k Identifier))
unfolding header lifetime
header_starts k = simp (or_none, or_or)

pub header_full : empties header ≡ false
unfolding header lifetime
header_full = refl

pub more_parameters_starts : (k : Option Kind) → starts more_parameters k ≡ has_kind k Comma
unfolding more_parameters
more_parameters_starts k = or_none (has_kind k Comma)

pub parameter_declaration_starts : (k : Option Kind) → starts parameter_declaration k ≡ (has_kind k (Keyword KwParameter) || has_kind k (Keyword KwLocalparam))
unfolding parameter_declaration parameter_keyword
parameter_declaration_starts k = or_none ((has_kind k (Keyword KwParameter) || has_kind k (Keyword KwLocalparam)))

pub parameter_declaration_full : empties parameter_declaration ≡ false
unfolding parameter_declaration parameter_keyword
parameter_declaration_full = refl

pub type_declaration_starts : (k : Option Kind) → starts type_declaration k ≡ has_kind k (Keyword KwTypedef)
unfolding type_declaration
type_declaration_starts k = or_none (has_kind k (Keyword KwTypedef))

pub type_declaration_full : empties type_declaration ≡ false
unfolding type_declaration
type_declaration_full = refl

pub net_declaration_starts : (k : Option Kind) → starts net_declaration k ≡ (has_kind k (Keyword KwWire) || (has_kind k (Keyword KwTri) || (has_kind k (Keyword KwUwire) || (has_kind k (Keyword KwWand) || (has_kind k (Keyword KwWor) || (has_kind k (Keyword KwTriand) || (has_kind k (Keyword KwTrior) || (has_kind k (Keyword KwTri0) || (has_kind k (Keyword KwTri1) || (has_kind k (Keyword KwSupply0) || has_kind k (Keyword KwSupply1)))))))))))
unfolding net_declaration net_type
net_declaration_starts k = or_none ((has_kind k (Keyword KwWire) || (has_kind k (Keyword KwTri) || (has_kind k (Keyword KwUwire) || (has_kind k (Keyword KwWand) || (has_kind k (Keyword KwWor) || (has_kind k (Keyword KwTriand) || (has_kind k (Keyword KwTrior) || (has_kind k (Keyword KwTri0) || (has_kind k (Keyword KwTri1) || (has_kind k (Keyword KwSupply0) || has_kind k (Keyword KwSupply1))))))))))))

pub net_declaration_full : empties net_declaration ≡ false
unfolding net_declaration net_type
net_declaration_full = refl

pub variable_declaration_starts : (k : Option Kind) → starts variable_declaration k ≡ has_kind k (Keyword KwVar)
unfolding variable_declaration
variable_declaration_starts k = or_none (has_kind k (Keyword KwVar))

pub variable_declaration_full : empties variable_declaration ≡ false
unfolding variable_declaration
variable_declaration_full = refl

pub data_declaration_starts : (k : Option Kind) → starts data_declaration k ≡ opens DataType k
unfolding data_declaration
data_declaration_starts k = or_none (opens DataType k)

pub data_declaration_full : empties data_declaration ≡ false
unfolding data_declaration
data_declaration_full = refl

pub modport_port_starts : (k : Option Kind) → starts modport_port k ≡ (has_kind k (Keyword KwInput) || (has_kind k (Keyword KwOutput) || (has_kind k (Keyword KwInout) || has_kind k Identifier)))
unfolding modport_port direction
modport_port_starts k = simp (or_none, or_or)

pub modport_port_full : empties modport_port ≡ false
unfolding modport_port direction
modport_port_full = refl

pub more_modport_ports_starts : (k : Option Kind) → starts more_modport_ports k ≡ has_kind k Comma
unfolding more_modport_ports
more_modport_ports_starts k = or_none (has_kind k Comma)

pub modport_item_starts : (k : Option Kind) → starts modport_item k ≡ has_kind k Identifier
unfolding modport_item
modport_item_starts k = or_none (has_kind k Identifier)

pub modport_item_full : empties modport_item ≡ false
unfolding modport_item
modport_item_full = refl

pub increment_operator_starts : (k : Option Kind) → starts increment_operator k ≡ (has_kind k PlusPlus || has_kind k MinusMinus)
unfolding increment_operator
increment_operator_starts k = refl

pub increment_operator_full : empties increment_operator ≡ false
unfolding increment_operator
increment_operator_full = refl

pub assignment_operator_starts : (k : Option Kind) → starts assignment_operator k ≡ (has_kind k Assign || (has_kind k LessEqual || (has_kind k PlusAssign || (has_kind k MinusAssign || (has_kind k StarAssign || (has_kind k SlashAssign || (has_kind k PercentAssign || (has_kind k AmpersandAssign || (has_kind k PipeAssign || (has_kind k CaretAssign || (has_kind k LogicalShiftLeftAssign || (has_kind k LogicalShiftRightAssign || (has_kind k ArithmeticShiftLeftAssign || has_kind k ArithmeticShiftRightAssign)))))))))))))
unfolding assignment_operator
assignment_operator_starts k = refl

pub assignment_operator_full : empties assignment_operator ≡ false
unfolding assignment_operator
assignment_operator_full = refl

pub more_left_sides_starts : (k : Option Kind) → starts more_left_sides k ≡ has_kind k Comma
unfolding more_left_sides
more_left_sides_starts k = or_none (has_kind k Comma)

pub left_concatenation_starts : (k : Option Kind) → starts left_concatenation k ≡ has_kind k LeftBrace
unfolding left_concatenation
left_concatenation_starts k = or_none (has_kind k LeftBrace)

pub left_concatenation_full : empties left_concatenation ≡ false
unfolding left_concatenation
left_concatenation_full = refl

pub assignment_or_increment_starts : (k : Option Kind) → starts assignment_or_increment k ≡ (has_kind k Assign || (has_kind k LessEqual || (has_kind k PlusAssign || (has_kind k MinusAssign || (has_kind k StarAssign || (has_kind k SlashAssign || (has_kind k PercentAssign || (has_kind k AmpersandAssign || (has_kind k PipeAssign || (has_kind k CaretAssign || (has_kind k LogicalShiftLeftAssign || (has_kind k LogicalShiftRightAssign || (has_kind k ArithmeticShiftLeftAssign || (has_kind k ArithmeticShiftRightAssign || (has_kind k PlusPlus || has_kind k MinusMinus)))))))))))))))
unfolding assignment_or_increment assignment_operator increment_operator
assignment_or_increment_starts k = simp (or_none, or_or)

pub assignment_or_increment_full : empties assignment_or_increment ≡ false
unfolding assignment_or_increment assignment_operator increment_operator
assignment_or_increment_full = refl

pub statement_tail_starts : (k : Option Kind) → starts statement_tail k ≡ (has_kind k Assign || (has_kind k LessEqual || (has_kind k PlusAssign || (has_kind k MinusAssign || (has_kind k StarAssign || (has_kind k SlashAssign || (has_kind k PercentAssign || (has_kind k AmpersandAssign || (has_kind k PipeAssign || (has_kind k CaretAssign || (has_kind k LogicalShiftLeftAssign || (has_kind k LogicalShiftRightAssign || (has_kind k ArithmeticShiftLeftAssign || (has_kind k ArithmeticShiftRightAssign || (has_kind k PlusPlus || (has_kind k MinusMinus || has_kind k LeftParen))))))))))))))))
unfolding statement_tail assignment_operator increment_operator argument_list
statement_tail_starts k = simp (or_none, or_or)

pub statement_tail_full : empties statement_tail ≡ false
unfolding statement_tail assignment_operator increment_operator argument_list
statement_tail_full = refl

pub local_declaration_starts : (k : Option Kind) → starts local_declaration k ≡ (opens DataType k || has_kind k Identifier)
unfolding local_declaration named_type scoped_name
local_declaration_starts k = simp or_none

pub local_declaration_full : empties local_declaration ≡ false
unfolding local_declaration named_type scoped_name
local_declaration_full = refl

pub block_item_end_starts : (k : Option Kind) → starts block_item_end k ≡ (has_kind k Assign || (has_kind k LessEqual || (has_kind k PlusAssign || (has_kind k MinusAssign || (has_kind k StarAssign || (has_kind k SlashAssign || (has_kind k PercentAssign || (has_kind k AmpersandAssign || (has_kind k PipeAssign || (has_kind k CaretAssign || (has_kind k LogicalShiftLeftAssign || (has_kind k LogicalShiftRightAssign || (has_kind k ArithmeticShiftLeftAssign || (has_kind k ArithmeticShiftRightAssign || (has_kind k PlusPlus || (has_kind k MinusMinus || (has_kind k LeftParen || has_kind k Identifier)))))))))))))))))
unfolding block_item_end statement_tail assignment_operator increment_operator argument_list declared_name
block_item_end_starts k = simp (or_none, or_or)

pub block_item_end_full : empties block_item_end ≡ false
unfolding block_item_end statement_tail assignment_operator increment_operator argument_list declared_name
block_item_end_full = refl

pub block_item_starts : (k : Option Kind) → starts block_item k ≡ (has_kind k (Keyword KwAutomatic) || (has_kind k (Keyword KwStatic) || (has_kind k (Keyword KwVar) || (opens DataType k || (has_kind k (Keyword KwParameter) || (has_kind k (Keyword KwLocalparam) || (has_kind k (Keyword KwTypedef) || (has_kind k Identifier || opens Statement k))))))))
unfolding block_item lifetime variable_declaration data_declaration parameter_declaration parameter_keyword type_declaration scoped_name
block_item_starts k = simp (or_none, or_or)

pub block_item_full : empties block_item ≡ false
unfolding block_item lifetime variable_declaration data_declaration parameter_declaration parameter_keyword type_declaration scoped_name
block_item_full = refl

pub block_items_starts : (k : Option Kind) → starts block_items k ≡ (has_kind k (Keyword KwAutomatic) || (has_kind k (Keyword KwStatic) || (has_kind k (Keyword KwVar) || (opens DataType k || (has_kind k (Keyword KwParameter) || (has_kind k (Keyword KwLocalparam) || (has_kind k (Keyword KwTypedef) || (has_kind k Identifier || opens Statement k))))))))
unfolding block_items block_item lifetime variable_declaration data_declaration parameter_declaration parameter_keyword type_declaration scoped_name
block_items_starts k = simp (or_none, or_or)

pub block_starts : (k : Option Kind) → starts block k ≡ has_kind k (Keyword KwBegin)
unfolding block
block_starts k = or_none (has_kind k (Keyword KwBegin))

pub block_full : empties block ≡ false
unfolding block
block_full = refl

pub uniqueness_starts : (k : Option Kind) → starts uniqueness k ≡ (has_kind k (Keyword KwUnique) || (has_kind k (Keyword KwUnique0) || has_kind k (Keyword KwPriority)))
unfolding uniqueness
uniqueness_starts k = refl

pub uniqueness_full : empties uniqueness ≡ false
unfolding uniqueness
uniqueness_full = refl

pub else_branch_starts : (k : Option Kind) → starts else_branch k ≡ has_kind k (Keyword KwElse)
unfolding else_branch
else_branch_starts k = or_none (has_kind k (Keyword KwElse))

pub else_branch_full : empties else_branch ≡ false
unfolding else_branch
else_branch_full = refl

pub if_statement_starts : (k : Option Kind) → starts if_statement k ≡ has_kind k (Keyword KwIf)
unfolding if_statement
if_statement_starts k = or_none (has_kind k (Keyword KwIf))

pub if_statement_full : empties if_statement ≡ false
unfolding if_statement
if_statement_full = refl

pub case_keyword_starts : (k : Option Kind) → starts case_keyword k ≡ (has_kind k (Keyword KwCase) || (has_kind k (Keyword KwCasez) || has_kind k (Keyword KwCasex)))
unfolding case_keyword
case_keyword_starts k = refl

pub case_keyword_full : empties case_keyword ≡ false
unfolding case_keyword
case_keyword_full = refl

pub case_item_starts : (k : Option Kind) → starts case_item k ≡ (has_kind k (Keyword KwDefault) || opens Expression k)
unfolding case_item
case_item_starts k = simp or_none

pub case_item_full : empties case_item ≡ false
unfolding case_item
case_item_full = refl

pub case_items_starts : (k : Option Kind) → starts case_items k ≡ (has_kind k (Keyword KwDefault) || opens Expression k)
unfolding case_items case_item
case_items_starts k = simp or_none

pub case_statement_starts : (k : Option Kind) → starts case_statement k ≡ (has_kind k (Keyword KwCase) || (has_kind k (Keyword KwCasez) || has_kind k (Keyword KwCasex)))
unfolding case_statement case_keyword
case_statement_starts k = or_none ((has_kind k (Keyword KwCase) || (has_kind k (Keyword KwCasez) || has_kind k (Keyword KwCasex))))

pub case_statement_full : empties case_statement ≡ false
unfolding case_statement case_keyword
case_statement_full = refl

pub choice_starts : (k : Option Kind) → starts choice k ≡ (has_kind k (Keyword KwIf) || (has_kind k (Keyword KwCase) || (has_kind k (Keyword KwCasez) || has_kind k (Keyword KwCasex))))
unfolding choice if_statement case_statement case_keyword
choice_starts k = simp or_none

pub choice_full : empties choice ≡ false
unfolding choice if_statement case_statement case_keyword
choice_full = refl

pub for_initialization_end_starts : (k : Option Kind) → starts for_initialization_end k ≡ (has_kind k Assign || (has_kind k LessEqual || (has_kind k PlusAssign || (has_kind k MinusAssign || (has_kind k StarAssign || (has_kind k SlashAssign || (has_kind k PercentAssign || (has_kind k AmpersandAssign || (has_kind k PipeAssign || (has_kind k CaretAssign || (has_kind k LogicalShiftLeftAssign || (has_kind k LogicalShiftRightAssign || (has_kind k ArithmeticShiftLeftAssign || (has_kind k ArithmeticShiftRightAssign || has_kind k Identifier))))))))))))))
unfolding for_initialization_end assignment_operator declared_name
for_initialization_end_starts k = simp (or_none, or_or)

pub for_initialization_end_full : empties for_initialization_end ≡ false
unfolding for_initialization_end assignment_operator declared_name
for_initialization_end_full = refl

pub more_for_variables_starts : (k : Option Kind) → starts more_for_variables k ≡ has_kind k Comma
unfolding more_for_variables
more_for_variables_starts k = or_none (has_kind k Comma)

pub for_initialization_starts : (k : Option Kind) → starts for_initialization k ≡ (opens DataType k || has_kind k Identifier)
unfolding for_initialization scoped_name
for_initialization_starts k = simp or_none

pub for_initialization_full : empties for_initialization ≡ false
unfolding for_initialization scoped_name
for_initialization_full = refl

pub for_step_starts : (k : Option Kind) → starts for_step k ≡ (has_kind k PlusPlus || (has_kind k MinusMinus || has_kind k Identifier))
unfolding for_step increment_operator
for_step_starts k = simp (or_none, or_or)

pub for_step_full : empties for_step ≡ false
unfolding for_step increment_operator
for_step_full = refl

pub more_for_steps_starts : (k : Option Kind) → starts more_for_steps k ≡ has_kind k Comma
unfolding more_for_steps
more_for_steps_starts k = or_none (has_kind k Comma)

pub for_steps_starts : (k : Option Kind) → starts for_steps k ≡ (has_kind k PlusPlus || (has_kind k MinusMinus || has_kind k Identifier))
unfolding for_steps for_step increment_operator
for_steps_starts k = simp (or_none, or_or)

pub for_steps_full : empties for_steps ≡ false
unfolding for_steps for_step increment_operator
for_steps_full = refl

pub for_statement_starts : (k : Option Kind) → starts for_statement k ≡ has_kind k (Keyword KwFor)
unfolding for_statement
for_statement_starts k = or_none (has_kind k (Keyword KwFor))

pub for_statement_full : empties for_statement ≡ false
unfolding for_statement
for_statement_full = refl

pub foreach_statement_starts : (k : Option Kind) → starts foreach_statement k ≡ has_kind k (Keyword KwForeach)
unfolding foreach_statement
foreach_statement_starts k = or_none (has_kind k (Keyword KwForeach))

pub foreach_statement_full : empties foreach_statement ≡ false
unfolding foreach_statement
foreach_statement_full = refl

pub loop_keyword_starts : (k : Option Kind) → starts loop_keyword k ≡ (has_kind k (Keyword KwWhile) || has_kind k (Keyword KwRepeat))
unfolding loop_keyword
loop_keyword_starts k = refl

pub loop_keyword_full : empties loop_keyword ≡ false
unfolding loop_keyword
loop_keyword_full = refl

pub loop_statement_starts : (k : Option Kind) → starts loop_statement k ≡ (has_kind k (Keyword KwWhile) || has_kind k (Keyword KwRepeat))
unfolding loop_statement loop_keyword
loop_statement_starts k = or_none ((has_kind k (Keyword KwWhile) || has_kind k (Keyword KwRepeat)))

pub loop_statement_full : empties loop_statement ≡ false
unfolding loop_statement loop_keyword
loop_statement_full = refl

pub do_statement_starts : (k : Option Kind) → starts do_statement k ≡ has_kind k (Keyword KwDo)
unfolding do_statement
do_statement_starts k = or_none (has_kind k (Keyword KwDo))

pub do_statement_full : empties do_statement ≡ false
unfolding do_statement
do_statement_full = refl

pub return_statement_starts : (k : Option Kind) → starts return_statement k ≡ has_kind k (Keyword KwReturn)
unfolding return_statement
return_statement_starts k = or_none (has_kind k (Keyword KwReturn))

pub return_statement_full : empties return_statement ≡ false
unfolding return_statement
return_statement_full = refl

pub system_task_starts : (k : Option Kind) → starts system_task k ≡ has_kind k SystemName
unfolding system_task
system_task_starts k = or_none (has_kind k SystemName)

pub system_task_full : empties system_task ≡ false
unfolding system_task
system_task_full = refl

pub void_call_starts : (k : Option Kind) → starts void_call k ≡ has_kind k (Keyword KwVoid)
unfolding void_call
void_call_starts k = or_none (has_kind k (Keyword KwVoid))

pub void_call_full : empties void_call ≡ false
unfolding void_call
void_call_full = refl

pub increment_statement_starts : (k : Option Kind) → starts increment_statement k ≡ (has_kind k PlusPlus || has_kind k MinusMinus)
unfolding increment_statement increment_operator
increment_statement_starts k = or_none ((has_kind k PlusPlus || has_kind k MinusMinus))

pub increment_statement_full : empties increment_statement ≡ false
unfolding increment_statement increment_operator
increment_statement_full = refl

pub concatenation_assignment_starts : (k : Option Kind) → starts concatenation_assignment k ≡ has_kind k LeftBrace
unfolding concatenation_assignment left_concatenation
concatenation_assignment_starts k = simp or_none

pub concatenation_assignment_full : empties concatenation_assignment ≡ false
unfolding concatenation_assignment left_concatenation
concatenation_assignment_full = refl

pub name_statement_starts : (k : Option Kind) → starts name_statement k ≡ has_kind k Identifier
unfolding name_statement scoped_name
name_statement_starts k = simp or_none

pub name_statement_full : empties name_statement ≡ false
unfolding name_statement scoped_name
name_statement_full = refl

pub function_result_starts : (k : Option Kind) → starts function_result k ≡ (has_kind k (Keyword KwVoid) || (opens DataType k || (has_kind k (Keyword KwSigned) || (has_kind k (Keyword KwUnsigned) || (has_kind k LeftBracket || has_kind k Identifier)))))
unfolding function_result declared_type signing dimension
function_result_starts k = simp (or_none, or_or)

pub function_result_full : empties function_result ≡ false
unfolding function_result declared_type signing dimension
function_result_full = refl

pub formal_direction_starts : (k : Option Kind) → starts formal_direction k ≡ (has_kind k (Keyword KwInput) || (has_kind k (Keyword KwOutput) || (has_kind k (Keyword KwInout) || has_kind k (Keyword KwRef))))
unfolding formal_direction direction
formal_direction_starts k = simp or_or

pub formal_direction_full : empties formal_direction ≡ false
unfolding formal_direction direction
formal_direction_full = refl

pub formal_starts : (k : Option Kind) → starts formal k ≡ (has_kind k (Keyword KwInput) || (has_kind k (Keyword KwOutput) || (has_kind k (Keyword KwInout) || (has_kind k (Keyword KwRef) || (has_kind k (Keyword KwVar) || (opens DataType k || (has_kind k (Keyword KwSigned) || (has_kind k (Keyword KwUnsigned) || (has_kind k LeftBracket || has_kind k Identifier)))))))))
unfolding formal formal_direction direction declared_type signing dimension
formal_starts k = simp (or_none, or_or)

pub formal_full : empties formal ≡ false
unfolding formal formal_direction direction declared_type signing dimension
formal_full = refl

pub more_formals_starts : (k : Option Kind) → starts more_formals k ≡ has_kind k Comma
unfolding more_formals
more_formals_starts k = or_none (has_kind k Comma)

pub formal_row_starts : (k : Option Kind) → starts formal_row k ≡ (has_kind k (Keyword KwInput) || (has_kind k (Keyword KwOutput) || (has_kind k (Keyword KwInout) || (has_kind k (Keyword KwRef) || (has_kind k (Keyword KwVar) || (opens DataType k || (has_kind k (Keyword KwSigned) || (has_kind k (Keyword KwUnsigned) || (has_kind k LeftBracket || has_kind k Identifier)))))))))
unfolding formal_row formal formal_direction direction declared_type signing dimension
formal_row_starts k = simp (or_none, or_or)

pub formal_row_full : empties formal_row ≡ false
unfolding formal_row formal formal_direction direction declared_type signing dimension
formal_row_full = refl

pub formals_starts : (k : Option Kind) → starts formals k ≡ has_kind k LeftParen
unfolding formals
formals_starts k = or_none (has_kind k LeftParen)

pub formals_full : empties formals ≡ false
unfolding formals
formals_full = refl

pub function_declaration_starts : (k : Option Kind) → starts function_declaration k ≡ has_kind k (Keyword KwFunction)
unfolding function_declaration
function_declaration_starts k = or_none (has_kind k (Keyword KwFunction))

pub function_declaration_full : empties function_declaration ≡ false
unfolding function_declaration
function_declaration_full = refl
