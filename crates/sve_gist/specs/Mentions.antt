-- What a chunk mentions, read off its tree: the modules and interfaces that it instantiates, and the labels behind end words (IEEE 1800-2017, 9.3.4, 23.3.2
-- and clause 27).
use Rattle.std.specs.Prelude.{ℕ, List, [], ◌∷◌, ◌++◌, Option, Some, None}
use Rattle.sve_grammar.specs.Reading.{Tree, leaf, pair, left, right, turn}
use Rattle.sve_mention.specs.declared.mention.Mention.{Mention}
use Rattle.sve_mention.specs.declared.mention.Mention.TheVariants.{Instance, EndLabel}

-- the name that a label gives, where one is written
abbrev pub label_in : Tree → Option ℕ
label_in (left (pair colon (leaf name))) = Some name
label_in t = None

-- the label behind an end word, where one is written, of what has this name
abbrev pub end_label_in : Option ℕ → Tree → List Mention
end_label_in name (left (pair colon (leaf label))) = EndLabel name label ∷ []
end_label_in name t = []

-- statements, and the blocks in them
unfoldable mutual
  pub statement_in : Tree → List Mention
  statement_in (right (left (pair begin (pair label (pair items (pair end last)))))) = block_items_in items ++ end_label_in (label_in label) last
  statement_in (right (right (left (pair uniqueness (left statement))))) = if_in statement
  statement_in (right (right (left (pair uniqueness (right (pair keyword (pair selector (pair first (pair others end))))))))) = case_item_in first ++ case_items_in others
  statement_in (right (right (right (left (pair keyword (pair opening (pair initialization (pair first_semicolon (pair condition (pair second_semicolon (pair steps (pair closing body)))))))))))) = statement_in body
  statement_in (right (right (right (right (left (pair keyword (pair opening (pair array (pair opening_bracket (pair first (pair others (pair closing_bracket (pair closing body))))))))))))) = statement_in body
  statement_in (right (right (right (right (right (left (pair keyword (pair condition body)))))))) = statement_in body
  statement_in (right (right (right (right (right (right (left (pair keyword (pair body behind))))))))) = statement_in body
  statement_in t = []

  pub block_item_in : Tree → List Mention
  block_item_in (right (right (right (right (right (right statement)))))) = statement_in statement
  block_item_in t = []

  pub if_in : Tree → List Mention
  if_in (pair keyword (pair condition (pair chosen otherwise))) = statement_in chosen ++ else_in otherwise
  if_in t = []

  pub else_in : Tree → List Mention
  else_in (left (pair keyword statement)) = statement_in statement
  else_in t = []

  pub case_item_in : Tree → List Mention
  case_item_in (left (pair keyword (pair colon statement))) = statement_in statement
  case_item_in (right (pair first (pair others (pair colon statement)))) = statement_in statement
  case_item_in t = []

  pub block_items_in : Tree → List Mention
  block_items_in (turn item rest) = block_item_in item ++ block_items_in rest
  block_items_in t = []

  pub case_items_in : Tree → List Mention
  case_items_in (turn item rest) = case_item_in item ++ case_items_in rest
  case_items_in t = []

-- the name of a function, which stands behind its result's type
abbrev pub typed_name_in : Tree → Option ℕ
typed_name_in (left (pair data_type (pair (leaf name) dimensions))) = Some name
typed_name_in (right (left (pair sign (pair ranges (pair (leaf name) dimensions))))) = Some name
typed_name_in (right (right (left (pair range (pair ranges (pair (leaf name) dimensions)))))) = Some name
typed_name_in (right (right (right (pair scope (left (pair colons (pair type_name (pair ranges (pair (leaf name) dimensions))))))))) = Some name
typed_name_in (right (right (right (pair type_name (right (pair ranges (left (pair (leaf name) dimensions)))))))) = Some name
typed_name_in (right (right (right (pair (leaf name) (right (pair dimensions (right end))))))) = Some name
typed_name_in t = None

abbrev pub result_name_in : Tree → Option ℕ
result_name_in (left (pair keyword (leaf name))) = Some name
result_name_in (right result) = typed_name_in result
result_name_in t = None

abbrev pub function_in : Tree → List Mention
function_in (pair keyword (pair lifetime (pair result (pair formals (pair semicolon (pair items (pair end label))))))) = block_items_in items ++ end_label_in (result_name_in result) label
function_in t = []

-- items, and the blocks of generate constructs in them, selected or not
unfoldable mutual
  pub item_in : Tree → List Mention
  item_in (right (right (right (right (left function))))) = function_in function
  item_in (right (right (right (right (right (right (right (right (right (right (left (pair keyword (pair at (pair control statement)))))))))))))) = statement_in statement
  item_in (right (right (right (right (right (right (right (right (right (right (right (left (pair keyword statement))))))))))))) = statement_in statement
  item_in (right (right (right (right (right (right (right (right (right (right (right (right (left (pair keyword (pair items end))))))))))))))) = items_in items
  item_in (right (right (right (right (right (right (right (right (right (right (right (right (right (left (pair keyword (pair opening (pair genvar (pair name (pair equals (pair start (pair first_semicolon (pair condition (pair second_semicolon (pair step (pair closing block))))))))))))))))))))))))) = block_in block
  item_in (right (right (right (right (right (right (right (right (right (right (right (right (right (right (left construct))))))))))))))) = if_generate_in construct
  item_in (right (right (right (right (right (right (right (right (right (right (right (right (right (right (right (left (pair keyword (pair selector (pair first (pair others end)))))))))))))))))))) = choice_in first ++ choices_in others
  item_in (right (right (right (right (right (right (right (right (right (right (right (right (right (right (right (right (right (right (pair (leaf definition) (left overrides)))))))))))))))))))) = Instance definition ∷ []
  item_in (right (right (right (right (right (right (right (right (right (right (right (right (right (right (right (right (right (right (pair (leaf definition) (right (right (right (pair name (left instances)))))))))))))))))))))))) = Instance definition ∷ []
  item_in t = []

  pub block_in : Tree → List Mention
  block_in (left (pair begin (pair label (pair items (pair end last))))) = items_in items ++ end_label_in (label_in label) last
  block_in (right item) = item_in item
  block_in t = []

  pub if_generate_in : Tree → List Mention
  if_generate_in (pair keyword (pair condition (pair chosen otherwise))) = block_in chosen ++ else_generate_in otherwise
  if_generate_in t = []

  pub else_generate_in : Tree → List Mention
  else_generate_in (left (pair keyword block)) = block_in block
  else_generate_in t = []

  pub choice_in : Tree → List Mention
  choice_in (left (pair keyword (pair colon block))) = block_in block
  choice_in (right (pair first (pair others (pair colon block)))) = block_in block
  choice_in t = []

  pub items_in : Tree → List Mention
  items_in (turn item rest) = item_in item ++ items_in rest
  items_in t = []

  pub choices_in : Tree → List Mention
  choices_in (turn choice rest) = choice_in choice ++ choices_in rest
  choices_in t = []

-- items of the compilation unit's scope or of a package
abbrev pub unit_item_in : Tree → List Mention
unit_item_in (right (right (right (right function)))) = function_in function
unit_item_in t = []

unfoldable pub unit_items_in : Tree → List Mention
unit_items_in (turn item rest) = unit_item_in item ++ unit_items_in rest
unit_items_in t = []

-- the name of a module or an interface, in its header
abbrev pub header_name_in : Tree → Option ℕ
header_name_in (pair lifetime (pair (leaf name) rest)) = Some name
header_name_in t = None

-- what a module or an interface mentions, behind its keyword
abbrev pub definition_in : Tree → List Mention
definition_in (pair header (pair items (pair end label))) = items_in items ++ end_label_in (header_name_in header) label
definition_in t = []

abbrev pub package_in : Tree → List Mention
package_in (pair keyword (pair lifetime (pair (leaf name) (pair semicolon (pair items (pair end label)))))) = unit_items_in items ++ end_label_in (Some name) label
package_in t = []

abbrev pub design_in : Tree → List Mention
design_in (left (pair keyword definition)) = definition_in definition
design_in (right (left (pair keyword definition))) = definition_in definition
design_in (right (right unit)) = package_in unit
design_in t = []

abbrev pub optional_design_in : Tree → List Mention
optional_design_in (left design) = design_in design
optional_design_in t = []

-- what a chunk mentions, in the order of its text
abbrev pub mentions_in : Tree → List Mention
mentions_in (pair items design) = unit_items_in items ++ optional_design_in design
mentions_in t = []
