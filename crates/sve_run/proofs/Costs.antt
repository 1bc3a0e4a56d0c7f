-- What the rules of the grammar cost.
use Rattle.std.proofs.Common.{◌≡◌, ℕ, suc, ◌+◌, ◌≤◌, refl, lit≤}
use Rattle.std.specs.Prelude.{max}
use Rattle.sve_grammar.specs.declared.symbol.Symbol.{Symbol}
use Rattle.sve_grammar.specs.declared.symbol.Symbol.TheVariants.{Expression, Conditional, Unary, DataType, LeftSide, Statement, Item}
use Rattle.sve_grammar.specs.Rule.{Rule, tok, sym, ◌∙◌, ◌∣◌, nothing, many}
use Rattle.sve_grammar.specs.Grammar.{rule}
use Rattle.sve_grammar.specs.Expressions.{signing, integer_atom_type, integer_vector_type, integer_type, dimension, dimensions, scoped_name, parenthesized, more_expressions, braced_expressions, connection, argument, more_arguments, arguments, argument_list, range_end, range, bracket_select, bracket_selects, select, selects, cast, pattern_item_end, pattern_item, more_pattern_items, pattern, concatenation_end, concatenation, decimal, typed_primary, system_call, postfix, postfixes, primary, unary_operator, unary, value_range, more_value_ranges, membership, conditional, implication_operator, expression, operators, operation, operations}
use Rattle.sve_grammar.specs.Types.{more_identifiers, declared_name, initializer, more_declarators, declaration_end, atom_type, vector_type, named_type, enum_base, enum_name, more_enum_names, enumeration, type_reference, member, members, structure, data_type, declared_type_end, declared_type, direction, net_type, port_type_end, port_type, port_kind, port, more_ports, port_row, ports, parameter_keyword, parameter_port, more_parameter_ports, parameter_port_row, parameter_ports}
use Rattle.sve_grammar.specs.Declarations.{lifetime, label, imported_name, import_item, more_import_items, import_declaration, imports, header, more_parameters, parameter_declaration, type_declaration, net_declaration, variable_declaration, data_declaration, modport_port, more_modport_ports, modport_item}
use Rattle.sve_grammar.specs.Statements.{increment_operator, assignment_operator, more_left_sides, left_concatenation, left_side, assignment_or_increment, statement_tail, local_declaration, block_item_end, block_item, block_items, block, uniqueness, else_branch, if_statement, case_keyword, case_item, case_items, case_statement, choice, for_initialization_end, more_for_variables, for_initialization, for_step, more_for_steps, for_steps, for_statement, foreach_statement, loop_keyword, loop_statement, do_statement, return_statement, system_task, void_call, increment_statement, concatenation_assignment, name_statement, statement, function_result, formal_direction, formal, more_formals, formal_row, formals, function_declaration}
use Rattle.sve_grammar.specs.Items.{genvar_declaration, net_assignment, more_net_assignments, continuous_assign, edge, event_expression, event_separator, more_events, event_list, event_control, clocked_keyword, clocked_procedure, plain_keyword, plain_procedure, items, generate_region, generate_block, genvar_iteration, loop_generate, else_generate, if_generate, case_generate_item, case_generate_items, case_generate, more_modport_items, modport_declaration, instance, more_instances, instances_or_variables, named_item, item, unit_item, unit_items, module_keyword, module_declaration, interface_declaration, package_declaration, design, chunk}

-- what a rule costs once, where it takes no token
abbrev pub cost : Rule → ℕ
cost (tok k) = 1
cost (sym s) = 1
cost (a ∙ b) = suc (cost a + cost b)
cost (a ∣ b) = suc (max (cost a) (cost b))
cost nothing = 1
cost (many a) = 1

-- what it costs for each token besides
abbrev pub rate : Rule → ℕ
rate (tok k) = 0
rate (sym s) = 0
rate (a ∙ b) = max (rate a) (rate b)
rate (a ∣ b) = max (rate a) (rate b)
rate nothing = 0
rate (many a) = suc (cost a + rate a)

pub affordable : (s : Symbol) → suc (cost (rule s) + rate (rule s)) ≤ 208
unfolding rule signing integer_atom_type integer_vector_type integer_type dimension dimensions scoped_name parenthesized more_expressions braced_expressions connection argument more_arguments arguments argument_list range_end range bracket_select bracket_selects select selects cast pattern_item_end pattern_item more_pattern_items pattern concatenation_end concatenation decimal typed_primary system_call postfix postfixes primary unary_operator unary value_range more_value_ranges membership conditional implication_operator expression operators operation operations more_identifiers declared_name initializer more_declarators declaration_end atom_type vector_type named_type enum_base enum_name more_enum_names enumeration type_reference member members structure data_type declared_type_end declared_type direction net_type port_type_end port_type port_kind port more_ports port_row ports parameter_keyword parameter_port more_parameter_ports parameter_port_row parameter_ports lifetime label imported_name import_item more_import_items import_declaration imports header more_parameters parameter_declaration type_declaration net_declaration variable_declaration data_declaration modport_port more_modport_ports modport_item increment_operator assignment_operator more_left_sides left_concatenation left_side assignment_or_increment statement_tail local_declaration block_item_end block_item block_items block uniqueness else_branch if_statement case_keyword case_item case_items case_statement choice for_initialization_end more_for_variables for_initialization for_step more_for_steps for_steps for_statement foreach_statement loop_keyword loop_statement do_statement return_statement system_task void_call increment_statement concatenation_assignment name_statement statement function_result formal_direction formal more_formals formal_row formals function_declaration genvar_declaration net_assignment more_net_assignments continuous_assign edge event_expression event_separator more_events event_list event_control clocked_keyword clocked_procedure plain_keyword plain_procedure items generate_region generate_block genvar_iteration loop_generate else_generate if_generate case_generate_item case_generate_items case_generate more_modport_items modport_declaration instance more_instances instances_or_variables named_item item unit_item unit_items module_keyword module_declaration interface_declaration package_declaration design chunk
affordable Expression = lit≤ tt
affordable Conditional = lit≤ tt
affordable Unary = lit≤ tt
affordable DataType = lit≤ tt
affordable LeftSide = lit≤ tt
affordable Statement = lit≤ tt
affordable Item = lit≤ tt

pub chunk_cost : cost chunk ≡ 111
unfolding signing integer_atom_type integer_vector_type integer_type dimension dimensions scoped_name parenthesized more_expressions braced_expressions connection argument more_arguments arguments argument_list range_end range bracket_select bracket_selects select selects cast pattern_item_end pattern_item more_pattern_items pattern concatenation_end concatenation decimal typed_primary system_call postfix postfixes primary unary_operator unary value_range more_value_ranges membership conditional implication_operator expression operators operation operations more_identifiers declared_name initializer more_declarators declaration_end atom_type vector_type named_type enum_base enum_name more_enum_names enumeration type_reference member members structure data_type declared_type_end declared_type direction net_type port_type_end port_type port_kind port more_ports port_row ports parameter_keyword parameter_port more_parameter_ports parameter_port_row parameter_ports lifetime label imported_name import_item more_import_items import_declaration imports header more_parameters parameter_declaration type_declaration net_declaration variable_declaration data_declaration modport_port more_modport_ports modport_item increment_operator assignment_operator more_left_sides left_concatenation left_side assignment_or_increment statement_tail local_declaration block_item_end block_item block_items block uniqueness else_branch if_statement case_keyword case_item case_items case_statement choice for_initialization_end more_for_variables for_initialization for_step more_for_steps for_steps for_statement foreach_statement loop_keyword loop_statement do_statement return_statement system_task void_call increment_statement concatenation_assignment name_statement statement function_result formal_direction formal more_formals formal_row formals function_declaration genvar_declaration net_assignment more_net_assignments continuous_assign edge event_expression event_separator more_events event_list event_control clocked_keyword clocked_procedure plain_keyword plain_procedure items generate_region generate_block genvar_iteration loop_generate else_generate if_generate case_generate_item case_generate_items case_generate more_modport_items modport_declaration instance more_instances instances_or_variables named_item item unit_item unit_items module_keyword module_declaration interface_declaration package_declaration design chunk
chunk_cost = refl

pub chunk_rate : rate chunk ≡ 141
unfolding signing integer_atom_type integer_vector_type integer_type dimension dimensions scoped_name parenthesized more_expressions braced_expressions connection argument more_arguments arguments argument_list range_end range bracket_select bracket_selects select selects cast pattern_item_end pattern_item more_pattern_items pattern concatenation_end concatenation decimal typed_primary system_call postfix postfixes primary unary_operator unary value_range more_value_ranges membership conditional implication_operator expression operators operation operations more_identifiers declared_name initializer more_declarators declaration_end atom_type vector_type named_type enum_base enum_name more_enum_names enumeration type_reference member members structure data_type declared_type_end declared_type direction net_type port_type_end port_type port_kind port more_ports port_row ports parameter_keyword parameter_port more_parameter_ports parameter_port_row parameter_ports lifetime label imported_name import_item more_import_items import_declaration imports header more_parameters parameter_declaration type_declaration net_declaration variable_declaration data_declaration modport_port more_modport_ports modport_item increment_operator assignment_operator more_left_sides left_concatenation left_side assignment_or_increment statement_tail local_declaration block_item_end block_item block_items block uniqueness else_branch if_statement case_keyword case_item case_items case_statement choice for_initialization_end more_for_variables for_initialization for_step more_for_steps for_steps for_statement foreach_statement loop_keyword loop_statement do_statement return_statement system_task void_call increment_statement concatenation_assignment name_statement statement function_result formal_direction formal more_formals formal_row formals function_declaration genvar_declaration net_assignment more_net_assignments continuous_assign edge event_expression event_separator more_events event_list event_control clocked_keyword clocked_procedure plain_keyword plain_procedure items generate_region generate_block genvar_iteration loop_generate else_generate if_generate case_generate_item case_generate_items case_generate more_modport_items modport_declaration instance more_instances instances_or_variables named_item item unit_item unit_items module_keyword module_declaration interface_declaration package_declaration design chunk
chunk_rate = refl
