-- What the rules of items and designs begin with, and that they are not empty.
use Rattle.std.proofs.Common.{◌≡◌, false, Option, refl}
use Rattle.std.specs.Prelude.{◌||◌}
use Rattle.sve_token.specs.declared.kind.Kind.{Kind}
use Rattle.sve_token.specs.declared.kind.Kind.TheVariants.{Keyword, Assign, ColonColon, Comma, Hash, Identifier, LeftBracket, LeftParen, MinusMinus, PlusPlus, Semicolon, Star}
use Rattle.sve_token.specs.declared.keywords.Keyword.TheVariants.{KwAlways, KwAlwaysComb, KwAlwaysFf, KwAlwaysLatch, KwAssign, KwBegin, KwCase, KwDefault, KwEdge, KwElse, KwFor, KwFunction, KwGenerate, KwGenvar, KwIf, KwImport, KwInitial, KwInterface, KwLocalparam, KwMacromodule, KwModport, KwModule, KwNegedge, KwOr, KwPackage, KwParameter, KwPosedge, KwTypedef}
use Rattle.sve_grammar.specs.declared.symbol.Symbol.TheVariants.{Expression, Item, LeftSide}
use Rattle.sve_grammar.specs.Token.{has_kind}
use Rattle.sve_grammar.specs.Rule.{starts, empties, opens}
use Rattle.sve_grammar.specs.Expressions.{dimension, dimensions, argument_list}
use Rattle.sve_grammar.specs.Types.{initializer, more_declarators, declaration_end, parameter_keyword}
use Rattle.sve_grammar.specs.Declarations.{import_declaration, parameter_declaration, type_declaration}
use Rattle.sve_grammar.specs.Statements.{increment_operator, function_declaration}
use Rattle.sve_grammar.specs.Items.{genvar_declaration, net_assignment, more_net_assignments, continuous_assign, edge, event_expression, event_separator, more_events, event_list, event_control, clocked_keyword, clocked_procedure, plain_keyword, plain_procedure, items, generate_region, generate_block, genvar_iteration, loop_generate, else_generate, if_generate, case_generate_item, case_generate_items, case_generate, more_modport_items, modport_declaration, instance, more_instances, instances_or_variables, named_item, unit_item, unit_items, module_keyword, module_declaration, interface_declaration, package_declaration, design, chunk}
use Rattle.sve_grammar.proofs.Begins.{or_none, or_or}

pub genvar_declaration_starts : (k : Option Kind) → starts genvar_declaration k ≡ has_kind k (Keyword KwGenvar)
unfolding genvar_declaration
genvar_declaration_starts k = or_none (has_kind k (Keyword KwGenvar))

pub genvar_declaration_full : empties genvar_declaration ≡ false
unfolding genvar_declaration
genvar_declaration_full = refl

pub net_assignment_starts : (k : Option Kind) → starts net_assignment k ≡ opens LeftSide k
unfolding net_assignment
net_assignment_starts k = or_none (opens LeftSide k)

pub net_assignment_full : empties net_assignment ≡ false
unfolding net_assignment
net_assignment_full = refl

pub more_net_assignments_starts : (k : Option Kind) → starts more_net_assignments k ≡ has_kind k Comma
unfolding more_net_assignments
more_net_assignments_starts k = or_none (has_kind k Comma)

pub continuous_assign_starts : (k : Option Kind) → starts continuous_assign k ≡ has_kind k (Keyword KwAssign)
unfolding continuous_assign
continuous_assign_starts k = or_none (has_kind k (Keyword KwAssign))

pub continuous_assign_full : empties continuous_assign ≡ false
unfolding continuous_assign
continuous_assign_full = refl

pub edge_starts : (k : Option Kind) → starts edge k ≡ (has_kind k (Keyword KwPosedge) || (has_kind k (Keyword KwNegedge) || has_kind k (Keyword KwEdge)))
unfolding edge
edge_starts k = refl

pub edge_full : empties edge ≡ false
unfolding edge
edge_full = refl

pub event_expression_starts : (k : Option Kind) → starts event_expression k ≡ (has_kind k (Keyword KwPosedge) || (has_kind k (Keyword KwNegedge) || (has_kind k (Keyword KwEdge) || opens Expression k)))
unfolding event_expression edge
event_expression_starts k = simp (or_none, or_or)

pub event_expression_full : empties event_expression ≡ false
unfolding event_expression edge
event_expression_full = refl

pub event_separator_starts : (k : Option Kind) → starts event_separator k ≡ (has_kind k (Keyword KwOr) || has_kind k Comma)
unfolding event_separator
event_separator_starts k = refl

pub event_separator_full : empties event_separator ≡ false
unfolding event_separator
event_separator_full = refl

pub more_events_starts : (k : Option Kind) → starts more_events k ≡ (has_kind k (Keyword KwOr) || has_kind k Comma)
unfolding more_events event_separator
more_events_starts k = or_none ((has_kind k (Keyword KwOr) || has_kind k Comma))

pub event_list_starts : (k : Option Kind) → starts event_list k ≡ (has_kind k Star || (has_kind k (Keyword KwPosedge) || (has_kind k (Keyword KwNegedge) || (has_kind k (Keyword KwEdge) || opens Expression k))))
unfolding event_list event_expression edge
event_list_starts k = simp (or_none, or_or)

pub event_list_full : empties event_list ≡ false
unfolding event_list event_expression edge
event_list_full = refl

pub event_control_starts : (k : Option Kind) → starts event_control k ≡ (has_kind k Star || (has_kind k LeftParen || has_kind k Identifier))
unfolding event_control
event_control_starts k = simp or_none

pub event_control_full : empties event_control ≡ false
unfolding event_control
event_control_full = refl

pub clocked_keyword_starts : (k : Option Kind) → starts clocked_keyword k ≡ (has_kind k (Keyword KwAlways) || has_kind k (Keyword KwAlwaysFf))
unfolding clocked_keyword
clocked_keyword_starts k = refl

pub clocked_keyword_full : empties clocked_keyword ≡ false
unfolding clocked_keyword
clocked_keyword_full = refl

pub clocked_procedure_starts : (k : Option Kind) → starts clocked_procedure k ≡ (has_kind k (Keyword KwAlways) || has_kind k (Keyword KwAlwaysFf))
unfolding clocked_procedure clocked_keyword
clocked_procedure_starts k = or_none ((has_kind k (Keyword KwAlways) || has_kind k (Keyword KwAlwaysFf)))

pub clocked_procedure_full : empties clocked_procedure ≡ false
unfolding clocked_procedure clocked_keyword
clocked_procedure_full = refl

pub plain_keyword_starts : (k : Option Kind) → starts plain_keyword k ≡ (has_kind k (Keyword KwAlwaysComb) || (has_kind k (Keyword KwAlwaysLatch) || has_kind k (Keyword KwInitial)))
unfolding plain_keyword
plain_keyword_starts k = refl

pub plain_keyword_full : empties plain_keyword ≡ false
unfolding plain_keyword
plain_keyword_full = refl

pub plain_procedure_starts : (k : Option Kind) → starts plain_procedure k ≡ (has_kind k (Keyword KwAlwaysComb) || (has_kind k (Keyword KwAlwaysLatch) || has_kind k (Keyword KwInitial)))
unfolding plain_procedure plain_keyword
plain_procedure_starts k = or_none ((has_kind k (Keyword KwAlwaysComb) || (has_kind k (Keyword KwAlwaysLatch) || has_kind k (Keyword KwInitial))))

pub plain_procedure_full : empties plain_procedure ≡ false
unfolding plain_procedure plain_keyword
plain_procedure_full = refl

pub items_starts : (k : Option Kind) → starts items k ≡ opens Item k
unfolding items
items_starts k = refl

pub generate_region_starts : (k : Option Kind) → starts generate_region k ≡ has_kind k (Keyword KwGenerate)
unfolding generate_region
generate_region_starts k = or_none (has_kind k (Keyword KwGenerate))

pub generate_region_full : empties generate_region ≡ false
unfolding generate_region
generate_region_full = refl

pub generate_block_starts : (k : Option Kind) → starts generate_block k ≡ (has_kind k (Keyword KwBegin) || opens Item k)
unfolding generate_block
generate_block_starts k = simp or_none

pub generate_block_full : empties generate_block ≡ false
unfolding generate_block
generate_block_full = refl

pub genvar_iteration_starts : (k : Option Kind) → starts genvar_iteration k ≡ (has_kind k PlusPlus || (has_kind k MinusMinus || has_kind k Identifier))
unfolding genvar_iteration increment_operator
genvar_iteration_starts k = simp (or_none, or_or)

pub genvar_iteration_full : empties genvar_iteration ≡ false
unfolding genvar_iteration increment_operator
genvar_iteration_full = refl

pub loop_generate_starts : (k : Option Kind) → starts loop_generate k ≡ has_kind k (Keyword KwFor)
unfolding loop_generate
loop_generate_starts k = or_none (has_kind k (Keyword KwFor))

pub loop_generate_full : empties loop_generate ≡ false
unfolding loop_generate
loop_generate_full = refl

pub else_generate_starts : (k : Option Kind) → starts else_generate k ≡ has_kind k (Keyword KwElse)
unfolding else_generate
else_generate_starts k = or_none (has_kind k (Keyword KwElse))

pub else_generate_full : empties else_generate ≡ false
unfolding else_generate
else_generate_full = refl

pub if_generate_starts : (k : Option Kind) → starts if_generate k ≡ has_kind k (Keyword KwIf)
unfolding if_generate
if_generate_starts k = or_none (has_kind k (Keyword KwIf))

pub if_generate_full : empties if_generate ≡ false
unfolding if_generate
if_generate_full = refl

pub case_generate_item_starts : (k : Option Kind) → starts case_generate_item k ≡ (has_kind k (Keyword KwDefault) || opens Expression k)
unfolding case_generate_item
case_generate_item_starts k = simp or_none

pub case_generate_item_full : empties case_generate_item ≡ false
unfolding case_generate_item
case_generate_item_full = refl

pub case_generate_items_starts : (k : Option Kind) → starts case_generate_items k ≡ (has_kind k (Keyword KwDefault) || opens Expression k)
unfolding case_generate_items case_generate_item
case_generate_items_starts k = simp or_none

pub case_generate_starts : (k : Option Kind) → starts case_generate k ≡ has_kind k (Keyword KwCase)
unfolding case_generate
case_generate_starts k = or_none (has_kind k (Keyword KwCase))

pub case_generate_full : empties case_generate ≡ false
unfolding case_generate
case_generate_full = refl

pub more_modport_items_starts : (k : Option Kind) → starts more_modport_items k ≡ has_kind k Comma
unfolding more_modport_items
more_modport_items_starts k = or_none (has_kind k Comma)

pub modport_declaration_starts : (k : Option Kind) → starts modport_declaration k ≡ has_kind k (Keyword KwModport)
unfolding modport_declaration
modport_declaration_starts k = or_none (has_kind k (Keyword KwModport))

pub modport_declaration_full : empties modport_declaration ≡ false
unfolding modport_declaration
modport_declaration_full = refl

pub instance_starts : (k : Option Kind) → starts instance k ≡ has_kind k Identifier
unfolding instance
instance_starts k = or_none (has_kind k Identifier)

pub instance_full : empties instance ≡ false
unfolding instance
instance_full = refl

pub more_instances_starts : (k : Option Kind) → starts more_instances k ≡ has_kind k Comma
unfolding more_instances
more_instances_starts k = or_none (has_kind k Comma)

pub instances_or_variables_starts : (k : Option Kind) → starts instances_or_variables k ≡ (has_kind k LeftParen || (has_kind k LeftBracket || (has_kind k Assign || (has_kind k Comma || has_kind k Semicolon))))
unfolding instances_or_variables argument_list dimensions dimension declaration_end initializer more_declarators
instances_or_variables_starts k = simp (or_none, or_or)

pub instances_or_variables_full : empties instances_or_variables ≡ false
unfolding instances_or_variables argument_list dimensions declaration_end initializer more_declarators
instances_or_variables_full = refl

pub named_item_starts : (k : Option Kind) → starts named_item k ≡ (has_kind k Hash || (has_kind k ColonColon || (has_kind k LeftBracket || has_kind k Identifier)))
unfolding named_item dimension
named_item_starts k = simp or_none

pub named_item_full : empties named_item ≡ false
unfolding named_item dimension
named_item_full = refl

pub unit_item_starts : (k : Option Kind) → starts unit_item k ≡ (has_kind k Semicolon || (has_kind k (Keyword KwImport) || (has_kind k (Keyword KwParameter) || (has_kind k (Keyword KwLocalparam) || (has_kind k (Keyword KwTypedef) || has_kind k (Keyword KwFunction))))))
unfolding unit_item import_declaration parameter_declaration parameter_keyword type_declaration function_declaration
unit_item_starts k = simp (or_none, or_or)

pub unit_item_full : empties unit_item ≡ false
unfolding unit_item import_declaration parameter_declaration parameter_keyword type_declaration function_declaration
unit_item_full = refl

pub unit_items_starts : (k : Option Kind) → starts unit_items k ≡ (has_kind k Semicolon || (has_kind k (Keyword KwImport) || (has_kind k (Keyword KwParameter) || (has_kind k (Keyword KwLocalparam) || (has_kind k (Keyword KwTypedef) || has_kind k (Keyword KwFunction))))))
unfolding unit_items unit_item import_declaration parameter_declaration parameter_keyword type_declaration function_declaration
unit_items_starts k = simp (or_none, or_or)

pub module_keyword_starts : (k : Option Kind) → starts module_keyword k ≡ (has_kind k (Keyword KwModule) || has_kind k (Keyword KwMacromodule))
unfolding module_keyword
module_keyword_starts k = refl

pub module_keyword_full : empties module_keyword ≡ false
unfolding module_keyword
module_keyword_full = refl

pub module_declaration_starts : (k : Option Kind) → starts module_declaration k ≡ (has_kind k (Keyword KwModule) || has_kind k (Keyword KwMacromodule))
unfolding module_declaration module_keyword
module_declaration_starts k = or_none ((has_kind k (Keyword KwModule) || has_kind k (Keyword KwMacromodule)))

pub module_declaration_full : empties module_declaration ≡ false
unfolding module_declaration module_keyword
module_declaration_full = refl

pub interface_declaration_starts : (k : Option Kind) → starts interface_declaration k ≡ has_kind k (Keyword KwInterface)
unfolding interface_declaration
interface_declaration_starts k = or_none (has_kind k (Keyword KwInterface))

pub interface_declaration_full : empties interface_declaration ≡ false
unfolding interface_declaration
interface_declaration_full = refl

pub package_declaration_starts : (k : Option Kind) → starts package_declaration k ≡ has_kind k (Keyword KwPackage)
unfolding package_declaration
package_declaration_starts k = or_none (has_kind k (Keyword KwPackage))

pub package_declaration_full : empties package_declaration ≡ false
unfolding package_declaration
package_declaration_full = refl

pub design_starts : (k : Option Kind) → starts design k ≡ (has_kind k (Keyword KwModule) || (has_kind k (Keyword KwMacromodule) || (has_kind k (Keyword KwInterface) || has_kind k (Keyword KwPackage))))
unfolding design module_declaration module_keyword interface_declaration package_declaration
design_starts k = simp (or_none, or_or)

pub design_full : empties design ≡ false
unfolding design module_declaration module_keyword interface_declaration package_declaration
design_full = refl

pub chunk_starts : (k : Option Kind) → starts chunk k ≡ (has_kind k Semicolon || (has_kind k (Keyword KwImport) || (has_kind k (Keyword KwParameter) || (has_kind k (Keyword KwLocalparam) || (has_kind k (Keyword KwTypedef) || (has_kind k (Keyword KwFunction) || (has_kind k (Keyword KwModule) || (has_kind k (Keyword KwMacromodule) || (has_kind k (Keyword KwInterface) || has_kind k (Keyword KwPackage))))))))))
unfolding chunk unit_items unit_item import_declaration parameter_declaration parameter_keyword type_declaration function_declaration design module_declaration module_keyword interface_declaration package_declaration
chunk_starts k = simp (or_none, or_or)
