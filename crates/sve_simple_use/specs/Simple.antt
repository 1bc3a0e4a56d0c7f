-- The names that statements use in which no statement stands, and those that events use, in the order of the text (IEEE 1800-2017, 9.4.2, 10.4, 12.7.1, 12.8 and 13.5).
use Rattle.std.specs.Global.{Box, Vec}
use Rattle.std.specs.Prelude.{List, [], ◌∷◌, ◌++◌, Option, Some, None, if◌then◌else◌}
use Rattle.std.specs.List.{flat_map}
use Rattle.std.specs.Option.{is_none}
use Rattle.sve_tree.specs.declared.word.ScopedName.{ScopedName}
use Rattle.sve_tree.specs.declared.expression.ArgumentList.{ArgumentList}
use Rattle.sve_tree.specs.declared.expression.Expr.{Expr}
use Rattle.sve_tree.specs.declared.expression.Select.{Select}
use Rattle.sve_tree.specs.declared.statement.Change.{Change}
use Rattle.sve_tree.specs.declared.statement.Change.TheVariants as is_change
use Rattle.sve_tree.specs.declared.statement.ForStep.{ForStep}
use Rattle.sve_tree.specs.declared.statement.ForStep.TheVariants as is_for_step
use Rattle.sve_tree.specs.declared.statement.NameStatement.{NameStatement}
use Rattle.sve_tree.specs.declared.statement.StatementTail.{StatementTail}
use Rattle.sve_tree.specs.declared.statement.StatementTail.TheVariants as is_statement_tail
use Rattle.sve_tree.specs.declared.statement.Stmt.{Stmt}
use Rattle.sve_tree.specs.declared.statement.Stmt.TheVariants as is_stmt
use Rattle.sve_tree.specs.declared.item.Event.{Event}
use Rattle.sve_tree.specs.declared.item.EventControl.{EventControl}
use Rattle.sve_tree.specs.declared.item.EventControl.TheVariants as is_event_control
use Rattle.sve_use.specs.Use.{Called, Named, Use, left_use}
use Rattle.sve_use.specs.Uses.{uses, uses_of_arguments, uses_of_selects}
use Rattle.sve_use.specs.LeftSides.{left_side_uses, selected_uses}

-- how a name is used that is assigned to; one of a package stands for what the package declares
abbrev pub target_use : ScopedName → List Select → Use
target_use name selects = if is_none name.scope then left_use name.name selects else Named name

-- how a name is used that is called; what has selects is no plain name of a function
abbrev pub call_use : ScopedName → List Select → Use
call_use name [] = Called name
call_use name (select ∷ selects) = target_use name (select ∷ selects)

-- how the name at the front of a statement is used, by what is done with it
abbrev pub front_use : StatementTail → ScopedName → List Select → Use
front_use (is_statement_tail.Assign operator value) name selects = target_use name selects
front_use (is_statement_tail.Step operator) name selects = target_use name selects
front_use (is_statement_tail.Call arguments) name selects = call_use name selects

abbrev pub tail_uses : StatementTail → List Use
tail_uses (is_statement_tail.Assign operator value) = uses value.value
tail_uses (is_statement_tail.Step operator) = []
tail_uses (is_statement_tail.Call arguments) = uses_of_arguments arguments

-- a name with selects that is assigned to, and the names in these
abbrev pub target_uses : ScopedName → Vec Select → List Use
target_uses name selects = target_use name selects.items ∷ uses_of_selects selects

abbrev pub front_uses : NameStatement → List Use
front_uses s = front_use s.tail s.name s.selects.items ∷ uses_of_selects s.selects

abbrev pub name_statement_uses : NameStatement → List Use
name_statement_uses s = front_uses s ++ tail_uses s.tail

abbrev pub optional_uses : Option (Box Expr) → List Use
optional_uses None = []
optional_uses (Some e) = uses e.value

abbrev pub optional_argument_uses : Option ArgumentList → List Use
optional_argument_uses None = []
optional_argument_uses (Some arguments) = uses_of_arguments arguments

-- a statement in which no statement stands
abbrev pub simple_uses : Stmt → List Use
simple_uses (is_stmt.Return statement) = optional_uses statement.value.value
simple_uses (is_stmt.SystemTask task) = optional_argument_uses task.value.arguments
simple_uses (is_stmt.VoidCall call) = uses call.value.cast.value.value.value
simple_uses (is_stmt.Step statement) = selected_uses statement.value.name statement.value.selects
simple_uses (is_stmt.Concatenation assignment) = flat_map left_side_uses assignment.value.left.sides.items.items ++ uses assignment.value.value.value
simple_uses (is_stmt.Name statement) = name_statement_uses statement.value
simple_uses statement = []

-- ---- the head of a `for`

abbrev pub change_uses : Change → List Use
change_uses (is_change.Assign operator value) = uses value.value
change_uses (is_change.Step operator) = []

abbrev pub for_step_uses : ForStep → List Use
for_step_uses (is_for_step.Before operator name selects) = selected_uses name selects
for_step_uses (is_for_step.Change name selects change) = selected_uses name selects ++ change_uses change

-- ---- events (9.4.2)

abbrev pub event_value_uses : Event → List Use
event_value_uses event = uses event.value.value

abbrev pub event_uses : EventControl → List Use
event_uses (is_event_control.Any star) = []
event_uses (is_event_control.AnyParenthesized opening star closing) = []
event_uses (is_event_control.Events opening events closing) = flat_map event_value_uses events.items.items
event_uses (is_event_control.Name name selects) = selected_uses name selects
