-- What each step of the elaboration of a body does to what was found so far (IEEE 1800-2017, clauses 6, 23, 25, 26 and 27).
use Rattle.sve_body.specs.Steps.{Steps}
use Rattle.sve_elaboration.specs.State.{Found}
use Rattle.sve_elaboration.specs.Scopes.{construct_in, depth_in, entered_block, genvar_fault_of, genvar_in, known_in, label_fault_of, left_block, next_number_in}
use Rattle.sve_elaboration.specs.Names.{implied_in, is_declared_in, local_in, local_nodes_in, said_in, used_in}
use Rattle.sve_elaboration.specs.Declarations.{data_in, function_in, header_imports_in, header_parameters_in, header_ports_in, import_in, modport_in, nets_in, parameters_in, typedef_in, variables_in}
use Rattle.sve_elaboration.specs.Instances.{child_in, connection_tokens_in, definition_in, overrides_in, specialized_by, undefined_in, unknown_in, unknown_tokens_in}

abbrev pub elaborating : Steps Found
elaborating = record {
  told = known_in;
  say = said_in;
  use_name = used_in;
  is_declared = is_declared_in;
  implicit_net = implied_in;
  header_imports = header_imports_in;
  header_parameters = header_parameters_in;
  header_ports = header_ports_in;
  import = import_in;
  parameters = parameters_in;
  typedef = typedef_in;
  function = function_in;
  genvar = genvar_in;
  nets = nets_in;
  variables = variables_in;
  data_of_type = data_in;
  modport = modport_in;
  local = local_in;
  local_nodes = local_nodes_in;
  genvar_fault = genvar_fault_of;
  next_number = next_number_in;
  count_construct = construct_in;
  depth = depth_in;
  label_fault = label_fault_of;
  enter = entered_block;
  leave = left_block;
  overrides = overrides_in;
  definition_at = definition_in;
  no_definition = undefined_in;
  specialized = specialized_by;
  connection_tokens = connection_tokens_in;
  child = child_in;
  unknown_tokens = unknown_tokens_in;
  unknown = unknown_in;
}
