-- Constant expressions: what each means, or its first fault in token order (IEEE 1800-2017, 11.2.1, 11.6 and 11.8). How many nodes
-- they have is a recursion of its own. What this profile leaves out is no constant, at its first token.
use Rattle.std.specs.Global.{Vec}
use Rattle.std.specs.Prelude.{ℕ, Bool, true, false, List, [], ◌∷◌, Option, Some, None, Result, Ok, Err}
use Rattle.sve_tree.specs.declared.row.Row.{Row}
use Rattle.sve_tree.specs.declared.word.ScopedName.{ScopedName}
use Rattle.sve_tree.specs.declared.expression.Expr.{Expr, Row_of-Arg, Row_of-Dimension, Row_of-Expr, Row_of-Operation, Row_of-Postfix, Row_of-RangeSelect, end_of-Arg, end_of-Dimension, end_of-Expr, end_of-Operation, end_of-Postfix, end_of-RangeSelect, items-the_row-Arg, more_of-Arg, more_of-Dimension, more_of-Expr, more_of-Operation, more_of-Postfix, more_of-RangeSelect}
use Rattle.sve_tree.specs.declared.expression.Operation.{Operation}
use Rattle.sve_tree.specs.declared.expression.Dimension.{Dimension}
use Rattle.sve_tree.specs.declared.expression.Range as places
use Rattle.sve_tree.specs.declared.expression.RangeSelect.{RangeSelect}
use Rattle.sve_tree.specs.declared.expression.Select.{Select}
use Rattle.sve_tree.specs.declared.expression.Postfix.{Postfix}
use Rattle.sve_tree.specs.declared.expression.ArgumentList.{ArgumentList}
use Rattle.sve_tree.specs.declared.expression.Arg.{Arg}
use Rattle.sve_tree.specs.declared.expression.Arg.TheBlock.{hidden-the_row-Expr-1, hidden-the_row-RangeSelect-2, hidden-the_row-Dimension-3, hidden-the_row-Arg-5, hidden-the_row-Postfix-6, hidden-the_row-Operation-7}
use Rattle.sve_tree.specs.declared.expression.Expr.TheVariants as is_expr
use Rattle.sve_tree.specs.declared.expression.Operation.TheVariants as is_operation
use Rattle.sve_tree.specs.declared.expression.Dimension.TheVariants as is_dimension
use Rattle.sve_tree.specs.declared.expression.Range.TheVariants as is_range
use Rattle.sve_tree.specs.declared.expression.Select.TheVariants as is_select
use Rattle.sve_tree.specs.declared.expression.Postfix.TheVariants as is_postfix
use Rattle.sve_tree.specs.declared.expression.Arg.TheVariants as is_arg
use Rattle.sve_types.specs.declared.ty.Range.{Range}
use Rattle.sve_types.specs.declared.value.Value.{Value}
use Rattle.sve_fault.specs.declared.fault.Fault.{Fault}
use Rattle.sve_rule.specs.Judged.{Judged, judged}
use Rattle.sve_rule.specs.Rows.{Line}
use Rattle.sve_rule.specs.Rules.{decimal_judged, sized_judged, based_judged, unbased_judged, text_judged, unary_judged, binary_judged, choice_judged, outside_judged, inside_judged, size_cast_judged, sign_cast_judged, type_cast_judged, part_judged, appended_judged, replication_judged, whole_judged}
use Rattle.sve_rule.specs.Systems.{function_named, bits_judged, system_judged}
use Rattle.sve_rule.specs.Dimensions.{range_judged, size_judged, extended}
use Rattle.sve_rule.specs.declared.system.SystemFunction.{SystemFunction}
use Rattle.sve_rule.specs.declared.system.SystemFunction.TheVariants as is_function
use Rattle.sve_select.specs.Choices.{place_judged, between_judged, upward_judged, downward_judged}
use Rattle.sve_select.specs.Pieces.{Piece}
use Rattle.sve_select.specs.Selects.{row_judged, selected_judged, ended_judged}
use Rattle.sve_select.specs.declared.choice.Choice.{Choice}
use Rattle.sve_env.specs.Told.{Told}
use Rattle.sve_form.specs.Operators.{unary_named, binary_named, implication_named, is_signed}
use Rattle.sve_form.specs.Keywords.{keyword_fault, keyword_target, target_size}
use Rattle.sve_form.specs.Tokens.{name_token, token_of, unsized_at, row_empty_at, empty_at, is_plain, opening_of}
use Rattle.sve_leaf.specs.LeftOut.{unless_part}
use Rattle.sve_path.specs.Named.{State, bare, whole, named, stepped, called, cast_after, named_bits}
use Rattle.sve_measure.specs.declared.act.Act.{Act}
use Rattle.sve_measure.specs.declared.act.Act.TheVariants as is_act
use Rattle.sve_path.specs.declared.steps.Step.{Step}
use Rattle.sve_path.specs.declared.steps.Step.TheVariants as is_step

-- an operand of a concatenation: a replication as its bits, of which there may be none, and any other as its value
abbrev pub operand_line : Option (Result Line Fault) → Option ℕ → Judged → Result Line Fault
operand_line (Some line) unsized a = line
operand_line None unsized a = part_judged unsized a

-- the bits of a replication, unless some of them are selected
abbrev pub unless_selected : {n : _} → Row_of-RangeSelect n → Result Line Fault → Option (Result Line Fault)
unless_selected end_of-RangeSelect line = Some line
unless_selected (more_of-RangeSelect opening range closing rest) line = None

abbrev pub has_no_selects : {n : _} → Row_of-RangeSelect n → Bool
has_no_selects end_of-RangeSelect = true
has_no_selects (more_of-RangeSelect opening range closing rest) = false

abbrev pub no_selects : Vec RangeSelect → Bool
no_selects selects = has_no_selects (hidden-the_row-RangeSelect-2 selects)

-- a replication of which no bits are selected
unfoldable pub is_bare : Expr → Bool
is_bare (is_expr.Replication' opening _ count inner_opening _ operands commas inner_closing closing _ selects) = has_no_selects selects
is_bare _ = false

-- a system function of a value; what `$bits` is asks for more than the value, since it takes a type too (20.6.2)
abbrev pub function_value : SystemFunction → Judged → Judged → Judged
function_value is_function.Bits bits a = bits
function_value is_function.Clog2 bits a = system_judged is_function.Clog2 a
function_value is_function.Signed bits a = system_judged is_function.Signed a
function_value is_function.Unsigned bits a = system_judged is_function.Unsigned a

abbrev pub system_value : ℕ → Option SystemFunction → Judged → Judged → Judged
system_value token None bits a = outside_judged token
system_value token (Some f) bits a = function_value f bits a

-- What is applied to a name, by itself.
pub data Applied : Type 0 where
  -- a select
  selecting : Step → Applied
  -- a call, by its value
  calling : Result Value Fault → Applied
  -- a cast, by what is cast
  casting : Judged → Applied
  -- what makes it no constant
  outside : Judged → Applied

unfoldable pub applied_after : Told → ScopedName → State → Applied → State
applied_after m name before (selecting step) = stepped name before step
applied_after m name before (calling value) = called m name before value
applied_after m name before (casting a) = cast_after m name before a
applied_after m name before (outside a) = whole a

unfoldable mutual
  pub measured : Told → Expr → Judged
  measured m (is_expr.Decimal token) = decimal_judged token (m.text token)
  measured m (is_expr.Sized size based) = sized_judged size (m.text size) (m.text based)
  measured m (is_expr.SizeCast' size apostrophe opening _ value closing) = size_cast_judged size (decimal_judged size (m.text size)) (measured m value)
  measured m (is_expr.Based token) = based_judged (m.text token)
  measured m (is_expr.Unbased token) = unbased_judged (m.text token)
  measured m (is_expr.Text token) = text_judged token (m.text token)
  measured m (is_expr.Parenthesized' opening _ value closing) = measured m value
  measured m (is_expr.ParenthesizedCast' opening _ value closing apostrophe cast_opening _ cast_value cast_closing) = size_cast_judged opening (measured m value) (measured m cast_value)
  measured m (is_expr.Pattern' opening _ items commas closing) = outside_judged opening
  measured m (is_expr.Replication' opening _ count inner_opening _ operands commas inner_closing closing _ selects) =
      ended_judged (pieces_from m opening (row_judged (whole_judged opening (token_of count) (replication_judged opening (token_of count) (row_empty_at opening operands) (measured m count) (line_from m (Ok (Some [])) operands)))) selects)
  measured m (is_expr.Concatenation' opening _ operands commas closing _ selects) =
      ended_judged (pieces_from m opening (row_judged (whole_judged opening (row_empty_at opening operands) (line_from m (Ok (Some [])) operands))) selects)
  measured m (is_expr.SignCast' sign apostrophe opening _ value closing) = sign_cast_judged (is_signed sign.kind) (measured m value)
  measured m (is_expr.Type' keyword sign _ dimensions) = Err (keyword_fault keyword)
  measured m (is_expr.TypeCast' keyword sign _ dimensions apostrophe opening _ value closing) =
      type_cast_judged keyword.token (keyword_target keyword sign (is_plain dimensions) (places_from m (Ok 1) dimensions)) (measured m value)
  measured m (is_expr.SystemName' name _ selects) = outside_judged name
  measured m (is_expr.SystemCall' name opening _ arguments commas closing _ selects) = unless_part selects name (system_of m name arguments)
  measured m (is_expr.Name' name _ postfixes) = named m name (state_from m name bare postfixes)
  measured m (is_expr.Unary' operator _ operand) = unary_judged (unary_named operator.kind) (measured m operand)
  measured m (is_expr.Operations' _ first _ operations) = operations_from m (token_of first) (measured m first) operations
  measured m (is_expr.Conditional' _ condition question _ chosen colon _ otherwise) = choice_judged (measured m condition) (measured m chosen) (measured m otherwise)
  measured m (is_expr.Implication' _ l operator _ r) = binary_judged (implication_named operator.kind) (measured m l) (measured m r)

  -- a replication as an operand of a concatenation: the bits, which may be none (11.4.12.1); with selects it is as any other operand
  pub replicated_line : Told → Expr → Option (Result Line Fault)
  replicated_line m (is_expr.Replication' opening _ count inner_opening _ operands commas inner_closing closing _ selects) =
      unless_selected selects (replication_judged opening (token_of count) (row_empty_at opening operands) (measured m count) (line_from m (Ok (Some [])) operands))
  replicated_line m _ = None

  -- operands behind others
  pub line_from : {n : _} → Told → Result Line Fault → Row_of-Expr n → Result Line Fault
  line_from m before end_of-Expr = before
  line_from m before (more_of-Expr e rest) = line_from m (appended_judged before (operand_line (replicated_line m e) (unsized_at e) (measured m e))) rest

  -- selects of a concatenation, in order (11.4.12)
  pub pieces_from : {n : _} → Told → ℕ → Result Piece Fault → Row_of-RangeSelect n → Result Piece Fault
  pieces_from m opening before end_of-RangeSelect = before
  pieces_from m opening before (more_of-RangeSelect bracket range closing rest) = pieces_from m opening (selected_judged opening opening [] before (choice_of m range)) rest

  -- operators are grouped from the left (11.3.2); the token is the first of all that stands before
  pub operations_from : {n : _} → Told → ℕ → Judged → Row_of-Operation n → Judged
  operations_from m token before end_of-Operation = before
  operations_from m token before (more_of-Operation operation rest) = operations_from m token (operation_after m token before operation) rest

  pub operation_after : Told → ℕ → Judged → Operation → Judged
  operation_after m token before (is_operation.Binary operator r) = binary_judged (binary_named operator.kind) before (measured m r)
  operation_after m token before (is_operation.Inside' keyword opening _ ranges commas closing) = inside_judged token before

  -- what is applied to a name, in order
  pub state_from : {n : _} → Told → ScopedName → State → Row_of-Postfix n → State
  state_from m name before end_of-Postfix = before
  state_from m name before (more_of-Postfix postfix rest) = state_from m name (applied_after m name before (act_of m name postfix)) rest

  pub act_of : Told → ScopedName → Postfix → Applied
  act_of m name (is_postfix.Select select) = selecting (step_of m select)
  act_of m name (is_postfix.Call' opening _ arguments commas closing) = calling (m.call name (items-the_row-Arg _ arguments))
  act_of m name (is_postfix.Cast' apostrophe opening _ value closing) = casting (measured m value)
  act_of m name (is_postfix.Pattern' opening _ items commas closing) = outside (outside_judged (name_token name))

  -- a select, by what its brackets say
  pub step_of : Told → Select → Step
  step_of m (is_select.Member dot name) = is_step.Member name
  step_of m (is_select.Range' opening range closing) = is_step.Choice opening (choice_of m range)

  pub choice_of : Told → places.Range → Result Choice Fault
  choice_of m (is_range.Index' _ index) = place_judged (measured m index)
  choice_of m (is_range.Between' _ l colon _ r) = between_judged (token_of l) (measured m l) (token_of r) (measured m r)
  choice_of m (is_range.Upward' _ from at _ width) = upward_judged (measured m from) (token_of width) (measured m width)
  choice_of m (is_range.Downward' _ from at _ width) = downward_judged (measured m from) (token_of width) (measured m width)

  -- the places of packed dimensions, multiplied
  pub places_from : {n : _} → Told → Result ℕ Fault → Row_of-Dimension n → Result ℕ Fault
  places_from m before end_of-Dimension = before
  places_from m before (more_of-Dimension dimension rest) = places_from m (extended (opening_of dimension) before (range_of m dimension)) rest

  -- the bounds of a dimension
  pub range_of : Told → Dimension → Result Range Fault
  range_of m (is_dimension.Size' opening _ size closing) = size_judged opening (measured m size)
  range_of m (is_dimension.Range' opening _ l colon _ r closing) = range_judged opening (measured m l) (measured m r)

  -- a system function of one argument by its place
  pub system_of : {n : _} → Told → ℕ → Row_of-Arg n → Judged
  system_of m token end_of-Arg = outside_judged token
  system_of m token (more_of-Arg argument end_of-Arg) = system_argument m token argument
  system_of m token (more_of-Arg argument (more_of-Arg other rest)) = outside_judged token

  pub system_argument : Told → ℕ → Arg → Judged
  system_argument m token (is_arg.Ordered' _ value) = system_value token (function_named (m.text token)) (bits_of m (measured m value) value) (measured m value)
  system_argument m token _ = outside_judged token

  -- `$bits` of an argument, by what it means as an expression
  pub bits_of : Told → Judged → Expr → Judged
  bits_of m a (is_expr.Type' keyword sign _ dimensions) = bits_judged (target_size (keyword_target keyword sign (is_plain dimensions) (places_from m (Ok 1) dimensions)))
  bits_of m a (is_expr.Name' name _ postfixes) = named_bits m name (state_from m name bare postfixes)
  bits_of m a _ = system_judged is_function.Bits a

-- the bits of an operand of a concatenation
unfoldable pub operand_of : Told → Expr → Result Line Fault
operand_of m e = operand_line (replicated_line m e) (unsized_at e) (measured m e)

-- one thing more that is applied to a name
abbrev pub state_after : Told → ScopedName → State → Postfix → State
state_after m name before postfix = applied_after m name before (act_of m name postfix)

-- what a select of a concatenation leads to
abbrev pub piece_after : Told → ℕ → Result Piece Fault → places.Range → Result Piece Fault
piece_after m opening before range = selected_judged opening opening [] before (choice_of m range)

-- the same over lists
unfoldable pub line_behind : Told → Result Line Fault → List Expr → Result Line Fault
line_behind m before [] = before
line_behind m before (e ∷ es) = line_behind m (appended_judged before (operand_of m e)) es

unfoldable pub pieces_behind : Told → ℕ → Result Piece Fault → List RangeSelect → Result Piece Fault
pieces_behind m opening before [] = before
pieces_behind m opening before (x ∷ xs) = pieces_behind m opening (piece_after m opening before x.range) xs

unfoldable pub operations_behind : Told → ℕ → Judged → List Operation → Judged
operations_behind m token before [] = before
operations_behind m token before (operation ∷ rest) = operations_behind m token (operation_after m token before operation) rest

unfoldable pub state_behind : Told → ScopedName → State → List Postfix → State
state_behind m name before [] = before
state_behind m name before (postfix ∷ rest) = state_behind m name (state_after m name before postfix) rest

unfoldable pub places_behind : Told → Result ℕ Fault → List Dimension → Result ℕ Fault
places_behind m before [] = before
places_behind m before (dimension ∷ rest) = places_behind m (extended (opening_of dimension) before (range_of m dimension)) rest

unfoldable pub system_list : Told → ℕ → List Arg → Judged
system_list m token [] = outside_judged token
system_list m token (argument ∷ []) = system_argument m token argument
system_list m token (argument ∷ other ∷ rest) = outside_judged token

-- the same over what a tree holds
abbrev pub line_of_operands : Told → Row Expr ℕ → Result Line Fault
line_of_operands m operands = line_from m (Ok (Some [])) (hidden-the_row-Expr-1 operands.items)

abbrev pub value_of_operations : Told → ℕ → Judged → Vec Operation → Judged
value_of_operations m token before operations = operations_from m token before (hidden-the_row-Operation-7 operations)

abbrev pub state_of_postfixes : Told → ScopedName → Vec Postfix → State
state_of_postfixes m name postfixes = state_from m name bare (hidden-the_row-Postfix-6 postfixes)

abbrev pub places_of_dimensions : Told → Vec Dimension → Result ℕ Fault
places_of_dimensions m dimensions = places_from m (Ok 1) (hidden-the_row-Dimension-3 dimensions)

abbrev pub value_of_arguments : Told → ℕ → ArgumentList → Judged
value_of_arguments m token list = system_of m token (hidden-the_row-Arg-5 list.arguments.items)

abbrev pub concatenated : Told → ℕ → Row Expr ℕ → Judged
concatenated m opening operands = whole_judged opening (empty_at opening operands) (line_of_operands m operands)

abbrev pub replicated_over : Told → ℕ → ℕ → Judged → Row Expr ℕ → Result Line Fault
replicated_over m opening token count operands = replication_judged opening token (empty_at opening operands) count (line_of_operands m operands)

abbrev pub selected_of : Told → ℕ → Judged → Vec RangeSelect → Judged
selected_of m opening a selects = ended_judged (pieces_from m opening (row_judged a) (hidden-the_row-RangeSelect-2 selects))

-- the forms of several operands, and those with a row of operands or of dimensions
abbrev pub has_operands : Expr → Bool
has_operands (is_expr.ParenthesizedCast' opening _ value closing apostrophe cast_opening _ cast_value cast_closing) = true
has_operands (is_expr.Operations' _ first _ operations) = true
has_operands (is_expr.Conditional' _ condition question _ chosen colon _ otherwise) = true
has_operands (is_expr.Implication' _ l operator _ r) = true
has_operands _ = false

abbrev pub has_row : Expr → Bool
has_row (is_expr.Replication' opening _ count inner_opening _ operands commas inner_closing closing _ selects) = true
has_row (is_expr.Concatenation' opening _ operands commas closing _ selects) = true
has_row (is_expr.TypeCast' keyword sign _ dimensions apostrophe opening _ value closing) = true
has_row _ = false

-- what the program holds of what is applied
abbrev pub act_seen : Act → Applied
act_seen (is_act.Select step) = selecting step
act_seen (is_act.Call value) = calling value
act_seen (is_act.Cast a) = casting (judged a)
act_seen (is_act.Pattern a) = outside (judged a)
