-- The rule of the grammar that a part of the table stands for.
use Rattle.std.specs.Prelude.{Bool, true, false}
use Rattle.sve_grammar.specs.Rule.{Rule, tok, sym, ◌∙◌, ◌∣◌, nothing, many}
use Rattle.sve_grammar.specs.Expressions.{signing, integer_atom_type, integer_vector_type, integer_type, dimension, dimensions, scoped_name, parenthesized, more_expressions, braced_expressions, connection, argument, more_arguments, arguments, argument_list, range_end, range, bracket_select, bracket_selects, select, selects, cast, pattern_item_end, pattern_item, more_pattern_items, pattern, concatenation_end, concatenation, decimal, typed_primary, system_call, postfix, postfixes, primary, unary_operator, unary, value_range, more_value_ranges, membership, conditional, implication_operator, expression, operators, operations}
use Rattle.sve_grammar.specs.Types.{more_identifiers, declared_name, initializer, more_declarators, declaration_end, atom_type, vector_type, named_type, enum_base, enum_name, more_enum_names, enumeration, type_reference, member, members, structure, data_type, declared_type_end, declared_type, direction, net_type, port_type_end, port_type, port_kind, port, more_ports, port_row, ports, parameter_keyword, parameter_port, more_parameter_ports, parameter_port_row, parameter_ports}
use Rattle.sve_grammar.specs.Declarations.{lifetime, label, imported_name, import_item, more_import_items, import_declaration, imports, header, more_parameters, parameter_declaration, type_declaration, net_declaration, variable_declaration, data_declaration, modport_port, more_modport_ports, modport_item}
use Rattle.sve_grammar.specs.Statements.{increment_operator, assignment_operator, more_left_sides, left_concatenation, left_side, assignment_or_increment, statement_tail, local_declaration, block_item_end, block_item, block_items, block, uniqueness, else_branch, if_statement, case_keyword, case_item, case_items, case_statement, choice, for_initialization_end, more_for_variables, for_initialization, for_step, more_for_steps, for_steps, for_statement, foreach_statement, loop_keyword, loop_statement, do_statement, return_statement, system_task, void_call, increment_statement, concatenation_assignment, name_statement, statement, function_result, formal_direction, formal, more_formals, formal_row, formals, function_declaration}
use Rattle.sve_grammar.specs.Items.{genvar_declaration, net_assignment, more_net_assignments, continuous_assign, edge, event_expression, event_separator, more_events, event_list, event_control, clocked_keyword, clocked_procedure, plain_keyword, plain_procedure, items, generate_region, generate_block, genvar_iteration, loop_generate, else_generate, if_generate, case_generate_item, case_generate_items, case_generate, more_modport_items, modport_declaration, instance, more_instances, instances_or_variables, named_item, item, unit_item, unit_items, module_keyword, module_declaration, interface_declaration, package_declaration, design, chunk}
use Rattle.sve_run.specs.declared.part.Sign.{Sign}
use Rattle.sve_run.specs.declared.part.Sign.TheVariants as signs
use Rattle.sve_run.specs.declared.expressions.ExpressionSign.{ExpressionSign}
use Rattle.sve_run.specs.declared.expressions.ExpressionSign.TheVariants as is_expression
use Rattle.sve_run.specs.declared.types.TypeSign.{TypeSign}
use Rattle.sve_run.specs.declared.types.TypeSign.TheVariants as is_type
use Rattle.sve_run.specs.declared.declarations.DeclarationSign.{DeclarationSign}
use Rattle.sve_run.specs.declared.declarations.DeclarationSign.TheVariants as is_declaration
use Rattle.sve_run.specs.declared.statements.StatementSign.{StatementSign}
use Rattle.sve_run.specs.declared.statements.StatementSign.TheVariants as is_statement
use Rattle.sve_run.specs.declared.items.ItemSign.{ItemSign}
use Rattle.sve_run.specs.declared.items.ItemSign.TheVariants as is_item
use Rattle.sve_run.specs.declared.part.Part.{Part}
use Rattle.sve_run.specs.declared.part.Part.TheVariants as parts

-- the rules of expressions (IEEE 1800-2017, A.8 and A.2.5)
abbrev pub expression_named : ExpressionSign → Rule
expression_named is_expression.Signing = signing
expression_named is_expression.IntegerAtomType = integer_atom_type
expression_named is_expression.IntegerVectorType = integer_vector_type
expression_named is_expression.IntegerType = integer_type
expression_named is_expression.Dimension = dimension
expression_named is_expression.Dimensions = dimensions
expression_named is_expression.ScopedName = scoped_name
expression_named is_expression.Parenthesized = parenthesized
expression_named is_expression.MoreExpressions = more_expressions
expression_named is_expression.BracedExpressions = braced_expressions
expression_named is_expression.Connection = connection
expression_named is_expression.Argument = argument
expression_named is_expression.MoreArguments = more_arguments
expression_named is_expression.Arguments = arguments
expression_named is_expression.ArgumentList = argument_list
expression_named is_expression.RangeEnd = range_end
expression_named is_expression.Range = range
expression_named is_expression.BracketSelect = bracket_select
expression_named is_expression.BracketSelects = bracket_selects
expression_named is_expression.Select = select
expression_named is_expression.Selects = selects
expression_named is_expression.Cast = cast
expression_named is_expression.PatternItemEnd = pattern_item_end
expression_named is_expression.PatternItem = pattern_item
expression_named is_expression.MorePatternItems = more_pattern_items
expression_named is_expression.Pattern = pattern
expression_named is_expression.ConcatenationEnd = concatenation_end
expression_named is_expression.Concatenation = concatenation
expression_named is_expression.Decimal = decimal
expression_named is_expression.TypedPrimary = typed_primary
expression_named is_expression.SystemCall = system_call
expression_named is_expression.Postfix = postfix
expression_named is_expression.Postfixes = postfixes
expression_named is_expression.Primary = primary
expression_named is_expression.UnaryOperator = unary_operator
expression_named is_expression.Unary = unary
expression_named is_expression.Operators1 = operators 1
expression_named is_expression.Operators2 = operators 2
expression_named is_expression.Operators3 = operators 3
expression_named is_expression.Operators4 = operators 4
expression_named is_expression.Operators5 = operators 5
expression_named is_expression.Operators6 = operators 6
expression_named is_expression.Operators7 = operators 7
expression_named is_expression.Operators8 = operators 8
expression_named is_expression.Operators9 = operators 9
expression_named is_expression.Operators10 = operators 10
expression_named is_expression.Operators11 = operators 11
expression_named is_expression.ValueRange = value_range
expression_named is_expression.MoreValueRanges = more_value_ranges
expression_named is_expression.Membership = membership
expression_named is_expression.Operations1 = operations 1
expression_named is_expression.Operations2 = operations 2
expression_named is_expression.Operations3 = operations 3
expression_named is_expression.Operations4 = operations 4
expression_named is_expression.Operations5 = operations 5
expression_named is_expression.Operations6 = operations 6
expression_named is_expression.Operations7 = operations 7
expression_named is_expression.Operations8 = operations 8
expression_named is_expression.Operations9 = operations 9
expression_named is_expression.Operations10 = operations 10
expression_named is_expression.Operations11 = operations 11
expression_named is_expression.Conditional = conditional
expression_named is_expression.ImplicationOperator = implication_operator
expression_named is_expression.Expression = expression

-- the rules of data types, of names that are declared, and of ports (IEEE 1800-2017, A.2.2.1, A.2.3, A.2.5 and A.1.3)
abbrev pub type_named : TypeSign → Rule
type_named is_type.MoreIdentifiers = more_identifiers
type_named is_type.DeclaredName = declared_name
type_named is_type.Initializer = initializer
type_named is_type.MoreDeclarators = more_declarators
type_named is_type.DeclarationEnd = declaration_end
type_named is_type.AtomType = atom_type
type_named is_type.VectorType = vector_type
type_named is_type.NamedType = named_type
type_named is_type.EnumBase = enum_base
type_named is_type.EnumName = enum_name
type_named is_type.MoreEnumNames = more_enum_names
type_named is_type.Enumeration = enumeration
type_named is_type.TypeReference = type_reference
type_named is_type.Member = member
type_named is_type.Members = members
type_named is_type.Structure = structure
type_named is_type.DataType = data_type
type_named is_type.DeclaredTypeEnd = declared_type_end
type_named is_type.DeclaredType = declared_type
type_named is_type.Direction = direction
type_named is_type.NetType = net_type
type_named is_type.PortTypeEnd = port_type_end
type_named is_type.PortType = port_type
type_named is_type.PortKind = port_kind
type_named is_type.Port = port
type_named is_type.MorePorts = more_ports
type_named is_type.PortRow = port_row
type_named is_type.Ports = ports
type_named is_type.ParameterKeyword = parameter_keyword
type_named is_type.ParameterPort = parameter_port
type_named is_type.MoreParameterPorts = more_parameter_ports
type_named is_type.ParameterPortRow = parameter_port_row
type_named is_type.ParameterPorts = parameter_ports

-- the rules of declarations and of the header of a module or an interface (IEEE 1800-2017, A.1.2, A.2.1, A.2.6 and A.2.9)
abbrev pub declaration_named : DeclarationSign → Rule
declaration_named is_declaration.Lifetime = lifetime
declaration_named is_declaration.Label = label
declaration_named is_declaration.ImportedName = imported_name
declaration_named is_declaration.ImportItem = import_item
declaration_named is_declaration.MoreImportItems = more_import_items
declaration_named is_declaration.ImportDeclaration = import_declaration
declaration_named is_declaration.Imports = imports
declaration_named is_declaration.Header = header
declaration_named is_declaration.MoreParameters = more_parameters
declaration_named is_declaration.ParameterDeclaration = parameter_declaration
declaration_named is_declaration.TypeDeclaration = type_declaration
declaration_named is_declaration.NetDeclaration = net_declaration
declaration_named is_declaration.VariableDeclaration = variable_declaration
declaration_named is_declaration.DataDeclaration = data_declaration
declaration_named is_declaration.ModportPort = modport_port
declaration_named is_declaration.MoreModportPorts = more_modport_ports
declaration_named is_declaration.ModportItem = modport_item

-- the rules of statements and of functions (IEEE 1800-2017, A.6, A.2.6 and A.2.8)
abbrev pub statement_named : StatementSign → Rule
statement_named is_statement.IncrementOperator = increment_operator
statement_named is_statement.AssignmentOperator = assignment_operator
statement_named is_statement.MoreLeftSides = more_left_sides
statement_named is_statement.LeftConcatenation = left_concatenation
statement_named is_statement.LeftSide = left_side
statement_named is_statement.AssignmentOrIncrement = assignment_or_increment
statement_named is_statement.StatementTail = statement_tail
statement_named is_statement.LocalDeclaration = local_declaration
statement_named is_statement.BlockItemEnd = block_item_end
statement_named is_statement.BlockItem = block_item
statement_named is_statement.BlockItems = block_items
statement_named is_statement.Block = block
statement_named is_statement.Uniqueness = uniqueness
statement_named is_statement.ElseBranch = else_branch
statement_named is_statement.IfStatement = if_statement
statement_named is_statement.CaseKeyword = case_keyword
statement_named is_statement.CaseItem = case_item
statement_named is_statement.CaseItems = case_items
statement_named is_statement.CaseStatement = case_statement
statement_named is_statement.Choice = choice
statement_named is_statement.ForInitializationEnd = for_initialization_end
statement_named is_statement.MoreForVariables = more_for_variables
statement_named is_statement.ForInitialization = for_initialization
statement_named is_statement.ForStep = for_step
statement_named is_statement.MoreForSteps = more_for_steps
statement_named is_statement.ForSteps = for_steps
statement_named is_statement.ForStatement = for_statement
statement_named is_statement.ForeachStatement = foreach_statement
statement_named is_statement.LoopKeyword = loop_keyword
statement_named is_statement.LoopStatement = loop_statement
statement_named is_statement.DoStatement = do_statement
statement_named is_statement.ReturnStatement = return_statement
statement_named is_statement.SystemTask = system_task
statement_named is_statement.VoidCall = void_call
statement_named is_statement.IncrementStatement = increment_statement
statement_named is_statement.ConcatenationAssignment = concatenation_assignment
statement_named is_statement.NameStatement = name_statement
statement_named is_statement.Statement = statement
statement_named is_statement.FunctionResult = function_result
statement_named is_statement.FormalDirection = formal_direction
statement_named is_statement.Formal = formal
statement_named is_statement.MoreFormals = more_formals
statement_named is_statement.FormalRow = formal_row
statement_named is_statement.Formals = formals
statement_named is_statement.FunctionDeclaration = function_declaration

-- the rules of items of modules and interfaces, and of a whole chunk (IEEE 1800-2017, A.1.2, A.1.4, A.4 and A.6.1)
abbrev pub item_named : ItemSign → Rule
item_named is_item.GenvarDeclaration = genvar_declaration
item_named is_item.NetAssignment = net_assignment
item_named is_item.MoreNetAssignments = more_net_assignments
item_named is_item.ContinuousAssign = continuous_assign
item_named is_item.Edge = edge
item_named is_item.EventExpression = event_expression
item_named is_item.EventSeparator = event_separator
item_named is_item.MoreEvents = more_events
item_named is_item.EventList = event_list
item_named is_item.EventControl = event_control
item_named is_item.ClockedKeyword = clocked_keyword
item_named is_item.ClockedProcedure = clocked_procedure
item_named is_item.PlainKeyword = plain_keyword
item_named is_item.PlainProcedure = plain_procedure
item_named is_item.Items = items
item_named is_item.GenerateRegion = generate_region
item_named is_item.GenerateBlock = generate_block
item_named is_item.GenvarIteration = genvar_iteration
item_named is_item.LoopGenerate = loop_generate
item_named is_item.ElseGenerate = else_generate
item_named is_item.IfGenerate = if_generate
item_named is_item.CaseGenerateItem = case_generate_item
item_named is_item.CaseGenerateItems = case_generate_items
item_named is_item.CaseGenerate = case_generate
item_named is_item.MoreModportItems = more_modport_items
item_named is_item.ModportDeclaration = modport_declaration
item_named is_item.Instance = instance
item_named is_item.MoreInstances = more_instances
item_named is_item.InstancesOrVariables = instances_or_variables
item_named is_item.NamedItem = named_item
item_named is_item.Item = item
item_named is_item.UnitItem = unit_item
item_named is_item.UnitItems = unit_items
item_named is_item.ModuleKeyword = module_keyword
item_named is_item.ModuleDeclaration = module_declaration
item_named is_item.InterfaceDeclaration = interface_declaration
item_named is_item.PackageDeclaration = package_declaration
item_named is_item.Design = design
item_named is_item.Chunk = chunk

-- the rule of this name
abbrev pub named : Sign → Rule
named (signs.Expression s) = expression_named s
named (signs.Type s) = type_named s
named (signs.Declaration s) = declaration_named s
named (signs.Statement s) = statement_named s
named (signs.Item s) = item_named s

-- the rule that a part stands for: its own, by its name, or what is written
abbrev pub meaning : Part → Rule
meaning (parts.Token k) = tok k
meaning (parts.Symbol s) = sym s
meaning (parts.Rule s) = named s
meaning (parts.Then' _ a _ b) = meaning a ∙ meaning b
meaning (parts.Or' _ a _ b) = meaning a ∣ meaning b
meaning parts.Nothing = nothing
meaning (parts.Many' _ a) = many (meaning a)

-- what is written, and not named
abbrev pub is_written : Part → Bool
is_written (parts.Rule s) = false
is_written _ = true
