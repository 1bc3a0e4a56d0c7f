-- The parameters of modules and interfaces, in the order of the text, and which of them an instance may override (IEEE 1800-2017, 6.20 and 23.10).
use Rattle.std.specs.Prelude.{ℕ, Bool, true, false, not, if◌then◌else◌, List, [], ◌∷◌, ◌++◌, map, Option, Some, None, is_some}
use Rattle.std.specs.List.{count_by, flat_map}
use Rattle.sve_tree.specs.declared.word.Mark.{Mark}
use Rattle.sve_tree.specs.declared.word.ParameterKeyword.{ParameterKeyword}
use Rattle.sve_tree.specs.declared.word.ParameterKeyword.TheVariants.{Parameter, Localparam}
use Rattle.sve_tree.specs.declared.header.ParameterPort.{ParameterPort}
use Rattle.sve_tree.specs.declared.header.ParameterPorts.{ParameterPorts}
use Rattle.sve_tree.specs.declared.declaration.ParameterAssignment.{ParameterAssignment}
use Rattle.sve_tree.specs.declared.declaration.Parameters.{Parameters}
use Rattle.sve_tree.specs.declared.element.Definition.{Definition}
use Rattle.sve_tree.specs.declared.item.Item.{Item}
use Rattle.sve_tree.specs.declared.item.GenerateRegion.{Row_of-Item, end_of-Item, more_of-Item}
use Rattle.sve_tree.specs.declared.item.Item.TheVariants as is_item
use Rattle.sve_formal.specs.declared.formal.Formal.{Formal}

abbrev pub is_local_keyword : ParameterKeyword → Bool
is_local_keyword Parameter = false
is_local_keyword Localparam = true

-- ---- the list of a header: a keyword is in force up to the next one, and in front of the first they can be overridden

abbrev pub keyword_after : ParameterKeyword → Option (Mark ParameterKeyword) → ParameterKeyword
keyword_after before None = before
keyword_after before (Some mark) = mark.kind

abbrev pub header_formal : ParameterKeyword → ParameterPort → Formal
header_formal keyword port = record { token = port.parameter.declarator.name; is_local = is_local_keyword keyword; has_value = is_some port.value }

unfoldable pub header_formals : ParameterKeyword → List ParameterPort → List Formal
header_formals before [] = []
header_formals before (port ∷ ports) = header_formal (keyword_after before port.keyword) port ∷ header_formals (keyword_after before port.keyword) ports

abbrev pub list_formals : Option ParameterPorts → List Formal
list_formals None = []
list_formals (Some list) = header_formals Parameter list.parameters.items.items

-- ---- the body: a parameter of it is local where it says so, or where the header has a list

abbrev pub assignment_formal : Bool → ParameterAssignment → Formal
assignment_formal local assignment = record { token = assignment.declarator.name; is_local = local; has_value = true }

abbrev pub parameters_formals : Bool → Parameters → List Formal
parameters_formals has_list p = map (assignment_formal (if has_list then true else is_local_keyword p.keyword.kind)) p.assignments.items.items

-- a generate block has a scope of its own, a generate region has not (27.3)
unfoldable mutual
  pub item_formals : Bool → Item → List Formal
  item_formals has_list (is_item.Parameters declaration) = parameters_formals has_list declaration.value
  item_formals has_list (is_item.Region' _ keyword _ items end) = row_formals has_list items
  item_formals has_list item = []

  pub row_formals : {n : _} → Bool → Row_of-Item n → List Formal
  row_formals has_list end_of-Item = []
  row_formals has_list (more_of-Item item rest) = item_formals has_list item ++ row_formals has_list rest

-- ---- all of them

abbrev pub formals_of : Definition → List Formal
formals_of d = list_formals d.header.parameters ++ flat_map (item_formals (is_some d.header.parameters)) d.items.items

-- those that an instance may override
abbrev pub can_be_overridden : Formal → Bool
can_be_overridden formal = not formal.is_local

abbrev pub overridable_count : List Formal → ℕ
overridable_count formals = count_by can_be_overridden formals
