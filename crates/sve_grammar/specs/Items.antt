-- The rules of items of modules and interfaces, and of a whole chunk (IEEE 1800-2017, A.1.2, A.1.4, A.4 and A.6.1); each comment names the production of Annex A.
use Rattle.sve_token.specs.declared.kind.Kind.TheVariants.{Identifier, LeftParen, RightParen, Semicolon, Colon, Comma, Hash, At, Assign, Star, ColonColon}
use Rattle.sve_token.specs.declared.keywords.Keyword.TheVariants.{KwGenvar, KwAssign, KwAlways, KwAlwaysFf, KwAlwaysComb, KwAlwaysLatch, KwInitial, KwGenerate, KwEndgenerate, KwFor, KwIf, KwElse, KwCase, KwEndcase, KwDefault, KwBegin, KwEnd, KwModport, KwOr, KwPosedge, KwNegedge, KwEdge, KwModule, KwMacromodule, KwEndmodule, KwInterface, KwEndinterface, KwPackage, KwEndpackage}
use Rattle.sve_grammar.specs.declared.symbol.Symbol.TheVariants.{Expression, LeftSide, Statement, Item}
use Rattle.sve_grammar.specs.Rule.{Rule, tok, sym, ◌∙◌, ◌∣◌, many, opt, word}
use Rattle.sve_grammar.specs.Expressions.{parenthesized, dimension, dimensions, selects, more_expressions, argument_list}
use Rattle.sve_grammar.specs.Types.{more_identifiers, declared_name, declaration_end}
use Rattle.sve_grammar.specs.Declarations.{lifetime, label, import_declaration, header, parameter_declaration, type_declaration, net_declaration, variable_declaration, data_declaration, modport_item}
use Rattle.sve_grammar.specs.Statements.{increment_operator, assignment_or_increment, system_task, function_declaration}

-- genvar_declaration (A.2.1.3)
unfoldable pub genvar_declaration : Rule
genvar_declaration = word KwGenvar ∙ tok Identifier ∙ more_identifiers ∙ tok Semicolon

-- ---- assignments and procedures

-- net_assignment (A.6.1)
unfoldable pub net_assignment : Rule
net_assignment = sym LeftSide ∙ tok Assign ∙ sym Expression

unfoldable pub more_net_assignments : Rule
more_net_assignments = many (tok Comma ∙ net_assignment)

-- continuous_assign (A.6.1)
unfoldable pub continuous_assign : Rule
continuous_assign = word KwAssign ∙ net_assignment ∙ more_net_assignments ∙ tok Semicolon

-- edge_identifier (A.7.4)
unfoldable pub edge : Rule
edge = word KwPosedge ∣ word KwNegedge ∣ word KwEdge

-- event_expression (A.6.5)
unfoldable pub event_expression : Rule
event_expression = opt edge ∙ sym Expression

unfoldable pub event_separator : Rule
event_separator = word KwOr ∣ tok Comma

unfoldable pub more_events : Rule
more_events = many (event_separator ∙ event_expression)

-- what @ waits for, in parentheses: everything, or events
unfoldable pub event_list : Rule
event_list = tok Star ∣ event_expression ∙ more_events

-- event_control behind its @ (A.6.5)
unfoldable pub event_control : Rule
event_control = tok Star ∣ tok LeftParen ∙ event_list ∙ tok RightParen ∣ tok Identifier ∙ selects

unfoldable pub clocked_keyword : Rule
clocked_keyword = word KwAlways ∣ word KwAlwaysFf

-- always_construct with an event control (A.6.2)
unfoldable pub clocked_procedure : Rule
clocked_procedure = clocked_keyword ∙ tok At ∙ event_control ∙ sym Statement

unfoldable pub plain_keyword : Rule
plain_keyword = word KwAlwaysComb ∣ word KwAlwaysLatch ∣ word KwInitial

-- always_construct without one, initial_construct (A.6.2)
unfoldable pub plain_procedure : Rule
plain_procedure = plain_keyword ∙ sym Statement

-- ---- generate constructs

-- { module_or_generate_item }
unfoldable pub items : Rule
items = many (sym Item)

-- generate_region (A.4.2)
unfoldable pub generate_region : Rule
generate_region = word KwGenerate ∙ items ∙ word KwEndgenerate

-- generate_block (A.4.2)
unfoldable pub generate_block : Rule
generate_block = word KwBegin ∙ opt label ∙ items ∙ word KwEnd ∙ opt label ∣ sym Item

-- genvar_iteration (A.4.2)
unfoldable pub genvar_iteration : Rule
genvar_iteration = increment_operator ∙ tok Identifier ∣ tok Identifier ∙ assignment_or_increment

-- loop_generate_construct (A.4.2)
unfoldable pub loop_generate : Rule
loop_generate =
    word KwFor ∙ tok LeftParen ∙ opt (word KwGenvar) ∙ tok Identifier ∙ tok Assign ∙ sym Expression ∙ tok Semicolon
    ∙ sym Expression ∙ tok Semicolon ∙ genvar_iteration ∙ tok RightParen ∙ generate_block

-- else generate_block
unfoldable pub else_generate : Rule
else_generate = word KwElse ∙ generate_block

-- if_generate_construct (A.4.2)
unfoldable pub if_generate : Rule
if_generate = word KwIf ∙ parenthesized ∙ generate_block ∙ opt else_generate

-- case_generate_item (A.4.2)
unfoldable pub case_generate_item : Rule
case_generate_item = word KwDefault ∙ opt (tok Colon) ∙ generate_block ∣ sym Expression ∙ more_expressions ∙ tok Colon ∙ generate_block

unfoldable pub case_generate_items : Rule
case_generate_items = many case_generate_item

-- case_generate_construct (A.4.2)
unfoldable pub case_generate : Rule
case_generate = word KwCase ∙ parenthesized ∙ case_generate_item ∙ case_generate_items ∙ word KwEndcase

-- ---- modports and instances

unfoldable pub more_modport_items : Rule
more_modport_items = many (tok Comma ∙ modport_item)

-- modport_declaration (A.2.9)
unfoldable pub modport_declaration : Rule
modport_declaration = word KwModport ∙ modport_item ∙ more_modport_items ∙ tok Semicolon

-- hierarchical_instance (A.4.1.1)
unfoldable pub instance : Rule
instance = tok Identifier ∙ argument_list

unfoldable pub more_instances : Rule
more_instances = many (tok Comma ∙ instance)

-- behind two identifiers: an instance of the first and further ones, or a variable of that type and further ones
unfoldable pub instances_or_variables : Rule
instances_or_variables = argument_list ∙ more_instances ∙ tok Semicolon ∣ dimensions ∙ declaration_end ∙ tok Semicolon

-- behind an identifier at the front of an item: module_instantiation with overrides (A.4.1.1), data_declaration of a type in a package, of a type
-- with packed dimensions (A.2.1.3), or either without
unfoldable pub named_item : Rule
named_item =
    tok Hash ∙ argument_list ∙ instance ∙ more_instances ∙ tok Semicolon
    ∣ tok ColonColon ∙ tok Identifier ∙ dimensions ∙ declared_name ∙ declaration_end ∙ tok Semicolon
    ∣ dimension ∙ dimensions ∙ declared_name ∙ declaration_end ∙ tok Semicolon
    ∣ tok Identifier ∙ instances_or_variables

-- module_or_generate_item, non_port_module_item, interface_or_generate_item (A.1.4, A.1.6)
unfoldable pub item : Rule
item =
    tok Semicolon
    ∣ import_declaration
    ∣ parameter_declaration
    ∣ type_declaration
    ∣ function_declaration
    ∣ genvar_declaration
    ∣ net_declaration
    ∣ variable_declaration
    ∣ data_declaration
    ∣ continuous_assign
    ∣ clocked_procedure
    ∣ plain_procedure
    ∣ generate_region
    ∣ loop_generate
    ∣ if_generate
    ∣ case_generate
    ∣ modport_declaration
    ∣ system_task
    ∣ tok Identifier ∙ named_item

-- ---- chunks

-- an item of the compilation unit or of a package: package_item (A.1.11)
unfoldable pub unit_item : Rule
unit_item = tok Semicolon ∣ import_declaration ∣ parameter_declaration ∣ type_declaration ∣ function_declaration

unfoldable pub unit_items : Rule
unit_items = many unit_item

-- module_keyword (A.1.2)
unfoldable pub module_keyword : Rule
module_keyword = word KwModule ∣ word KwMacromodule

-- module_declaration (A.1.2)
unfoldable pub module_declaration : Rule
module_declaration = module_keyword ∙ header ∙ items ∙ word KwEndmodule ∙ opt label

-- interface_declaration (A.1.2)
unfoldable pub interface_declaration : Rule
interface_declaration = word KwInterface ∙ header ∙ items ∙ word KwEndinterface ∙ opt label

-- package_declaration (A.1.2)
unfoldable pub package_declaration : Rule
package_declaration = word KwPackage ∙ opt lifetime ∙ tok Identifier ∙ tok Semicolon ∙ unit_items ∙ word KwEndpackage ∙ opt label

-- what a chunk may end with: description (A.1.2)
unfoldable pub design : Rule
design = module_declaration ∣ interface_declaration ∣ package_declaration

-- a chunk of a file: items of the compilation unit and at most one design (own, after source_text in A.1.2)
unfoldable pub chunk : Rule
chunk = unit_items ∙ opt design
