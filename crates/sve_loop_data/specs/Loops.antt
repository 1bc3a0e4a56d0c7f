-- What `for` and `foreach` declare in their scopes (IEEE 1800-2017, 12.7.1 and 12.7.3).
use Rattle.std.specs.Prelude.{ℕ, true, List, [], Option, Some, None}
use Rattle.std.specs.List.{fold}
use Rattle.sve_types.specs.DataType.{DataType, data_type, atom}
use Rattle.sve_types.specs.declared.ty.Atom.TheVariants.{Int}
use Rattle.sve_env.specs.Told.{Told}
use Rattle.sve_tree.specs.declared.token_word.Word.{Word}
use Rattle.sve_tree.specs.declared.word.ScopedName.{ScopedName}
use Rattle.sve_tree.specs.declared.expression.Select.{Select}
use Rattle.sve_tree.specs.declared.data_type.DataType as keyword
use Rattle.sve_tree.specs.declared.data_type.Declarator.{Declarator}
use Rattle.sve_tree.specs.declared.data_type.Initializer.{Initializer}
use Rattle.sve_tree.specs.declared.statement.ForVariable.{ForVariable}
use Rattle.sve_use.specs.Use.{Use}
use Rattle.sve_use.specs.Uses.{uses}
use Rattle.sve_type_rule.specs.Outcomes.{Outcome, scalar}
use Rattle.sve_type_of.specs.TypeOf.{notes_in, written}
use Rattle.sve_scope.specs.declared.what.What.TheVariants as is_what
use Rattle.sve_contents.specs.declared.contents.Contents.{Contents}
use Rattle.sve_contents.specs.Reading.{noted_all}
use Rattle.sve_enumerated.specs.declared.passed.Passed.{Passed}
use Rattle.sve_enumerated.specs.Types.{named_in}
use Rattle.sve_data.specs.Said.{declared_at}
use Rattle.sve_data.specs.declared.kind.DataKind.TheVariants as is_kind
use Rattle.sve_data.specs.Declarators.{declarator_after}
use Rattle.sve_data.specs.Declarations.{name_begun, type_selected, type_token}
use Rattle.sve_loop_data.specs.declared.loops.Looping.{Looping}

-- ---- the variables of a `for`: one without a type has that of the one before

abbrev pub loop_typed : Told → DataType → Option keyword.DataType → Outcome
loop_typed m before None = record { ty = before; faults = [] }
loop_typed m before (Some d) = written m d []

-- where the text of one begins, with its type or with its name
abbrev pub loop_token : Option keyword.DataType → ℕ → ℕ
loop_token None name = name
loop_token (Some d) name = type_token d

-- the names that its type declares come first
unfoldable pub loop_names : List Word → DataType → Passed → Option keyword.DataType → Passed
loop_names ws ty p None = p
loop_names ws ty p (Some d) = named_in ws ty p d

-- where this is known in the scope, as far as its text was read, and where uses of names leave this
module _ (known : Contents → Told) (used : Contents → Use → Contents) (ws : List Word) where
  -- a variable is seen in its first value
  abbrev pub first_valued : DataType → Passed → Declarator → Initializer → Contents
  first_valued ty p d v = fold used (declarator_after known ws is_kind.Variable ty p d v.equals).contents (uses v.value.value)

  abbrev pub variable_over : Contents → ForVariable → Told → Outcome → Looping
  variable_over c v m o = record {
    contents = first_valued o.ty (loop_names ws o.ty (record { contents = noted_all c (notes_in m o.faults); at = loop_token v.data_type v.declarator.name }) v.data_type) v.declarator v.value;
    ty = o.ty;
  }

  unfoldable pub variable_after : Looping → ForVariable → Looping
  variable_after s v = variable_over s.contents v (known s.contents) (loop_typed (known s.contents) s.ty v.data_type)

  abbrev pub all_variables : Looping → List ForVariable → Looping
  all_variables s vs = fold variable_after s vs

  abbrev pub with_loop : Contents → List ForVariable → Contents
  with_loop c vs = (all_variables (record { contents = c; ty = scalar }) vs).contents

  -- one of a type by its name
  abbrev pub named_loop_over : Contents → ScopedName → Declarator → Initializer → Told → Outcome → Contents
  named_loop_over c name d v m o = first_valued o.ty (name_begun ws (noted_all c (notes_in m o.faults)) name) d v

  abbrev pub with_named_loop : Contents → ScopedName → List Select → Declarator → Initializer → Contents
  with_named_loop c name selects d v = named_loop_over c name d v (known c) (type_selected (known c) name selects)

-- ---- the loop variables of a `foreach` are of type `int`

abbrev pub int_type : DataType
int_type = data_type (atom Int true) [] []

abbrev pub index_after : List Word → Contents → ℕ → Contents
index_after ws c token = declared_at ws c token (is_what.Variable int_type) token

abbrev pub with_indices : List Word → Contents → List ℕ → Contents
with_indices ws c names = fold (index_after ws) c names
