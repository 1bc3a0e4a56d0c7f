-- The overrides of an instantiation, one after another: each by itself where it stands (IEEE 1800-2017, 23.10.2).
use Rattle.std.specs.Prelude.{ℕ, ◌+◌, Bool, true, false, List, [], ◌∷◌, ◌++◌, Option, Some, None, Result, Ok, Err, slice_get}
use Rattle.sve_diag.specs.declared.diag.Note.{Note}
use Rattle.sve_tree.specs.declared.token_word.Word.{Word}
use Rattle.sve_tree.specs.declared.expression.Arg.{Arg}
use Rattle.sve_tree.specs.declared.expression.Arg.TheVariants as is_arg
use Rattle.sve_tree.specs.declared.expression.Expr.{Expr}
use Rattle.sve_spec.specs.declared.given.Given.{Given}
use Rattle.sve_spec.specs.declared.given.Given.TheVariants.{Default, Value, Bad}
use Rattle.sve_env.specs.Told.{Told}
use Rattle.sve_form.specs.Tokens.{token_of}
use Rattle.sve_known.specs.Naming.{name_at}
use Rattle.sve_assigned.specs.declared.by_value.Assigned.{Assigned}
use Rattle.sve_assigned.specs.declared.form.Form.TheVariants.{Free}
use Rattle.sve_assigned.specs.Assignments.{default_value, told_of}
use Rattle.sve_override.specs.declared.argument.Overriding.{Overriding}

-- what an expression gives: its value, or that something is said of it
abbrev pub given_in : Result Assigned (Option Note) → Given
given_in (Ok a) = Value a.value
given_in (Err why) = Bad

abbrev pub note_in : Result Assigned (Option Note) → Option Note
note_in (Ok a) = None
note_in (Err why) = why

-- its value by itself is that of a parameter without a type
abbrev pub evaluated : Told → Expr → Result Assigned (Option Note)
evaluated m e = told_of m (default_value m Free e)

abbrev pub only : Option Note → List Note
only None = []
only (Some note) = note ∷ []

abbrev pub no_overrides : Overriding
no_overrides = record { overrides = []; notes = [] }

-- an override more; its name is that behind the dot, and one by order has none
abbrev pub with_override : Overriding → Option (List ℕ) → ℕ → Given → Option Note → Overriding
with_override o name token given note = record { overrides = o.overrides ++ (record { name = name; given = given; token = token }) ∷ []; notes = o.notes ++ only note }

-- without an expression it gives nothing
abbrev pub left_out : Overriding → Option (List ℕ) → ℕ → Overriding
left_out o name token = with_override o name token Default None

abbrev pub valued_by : Overriding → Option (List ℕ) → ℕ → Result Assigned (Option Note) → Overriding
valued_by o name token r = with_override o name token (given_in r) (note_in r)

abbrev pub with_value : Told → Overriding → Option (List ℕ) → ℕ → Expr → Overriding
with_value m o name token e = valued_by o name token (evaluated m e)

-- Something is said of it by name at that name, by order at its first token, or at the one behind it where it is empty. `.*` is none (own).
unfoldable pub with_argument : Told → List Word → Overriding → ℕ → Arg → Overriding
with_argument m ws o behind (is_arg.Wildcard token) = o
with_argument m ws o behind (is_arg.Implicit dot name) = left_out o (name_at ws name) name
with_argument m ws o behind (is_arg.Unconnected dot name opening closing) = left_out o (name_at ws name) name
with_argument m ws o behind (is_arg.Named' dot name opening _ value closing) = with_value m o (name_at ws name) name value
with_argument m ws o behind (is_arg.Ordered' _ value) = with_value m o None (token_of value) value
with_argument m ws o behind is_arg.Empty = left_out o None behind

-- the token behind the override at a place of a list: the comma, or what closes the list
abbrev pub token_or : ℕ → Option ℕ → ℕ
token_or closing None = closing
token_or closing (Some token) = token

abbrev pub separator : List ℕ → ℕ → ℕ → ℕ
separator commas closing place = token_or closing (slice_get commas place)

-- one after another
unfoldable pub with_arguments : Told → List Word → List ℕ → ℕ → ℕ → Overriding → List Arg → Overriding
with_arguments m ws commas closing place o [] = o
with_arguments m ws commas closing place o (a ∷ more) = with_arguments m ws commas closing (place + 1) (with_argument m ws o (separator commas closing place) a) more

-- a list of one argument that is nothing is a list without any
abbrev pub is_empty : Arg → Bool
is_empty is_arg.Empty = true
is_empty argument = false

abbrev pub is_nothing : List Arg → Bool
is_nothing [] = false
is_nothing (a ∷ []) = is_empty a
is_nothing (a ∷ b ∷ more) = false
