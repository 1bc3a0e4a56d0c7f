-- What an instance without a specialization leaves in its scope (IEEE 1800-2017, 6.10 and 23.3.2).
use Rattle.std.specs.Prelude.{ℕ, Bool, true, false, if◌then◌else◌, List, [], Option, Some, None}
use Rattle.std.specs.List.{flat_map, fold}
use Rattle.sve_diag.specs.declared.code.Code.TheVariants.{E09}
use Rattle.sve_tree.specs.declared.token_word.Word.{Word}
use Rattle.sve_tree.specs.declared.expression.Arg.{Arg}
use Rattle.sve_tree.specs.declared.expression.Arg.TheVariants as is_arg
use Rattle.sve_tree.specs.declared.item.Instance.{Instance}
use Rattle.sve_scope.specs.declared.what.What.TheVariants as is_what
use Rattle.sve_known.specs.Naming.{name_at}
use Rattle.sve_contents.specs.declared.contents.Contents.{Contents}
use Rattle.sve_contents.specs.Reading.{remarked}
use Rattle.sve_contents.specs.Uses.{with_use}
use Rattle.sve_scoped.specs.Said.{declared_at}
use Rattle.sve_connect.specs.declared.around.Net.{Net}
use Rattle.sve_connect.specs.Seen.{Seen, Stands, unknown, typed, faced, other}

-- the uses of names in its connections that declare nets
unfoldable pub argument_nets : Seen → Arg → List Net
argument_nets s (is_arg.Named' dot name opening _ value closing) = s.nets value
argument_nets s (is_arg.Ordered' _ value) = s.nets value
argument_nets s argument = []

abbrev pub instance_nets : Seen → Instance → List Net
instance_nets s i = flat_map (argument_nets s) i.connections.arguments.items.items

abbrev pub is_there : Stands → Bool
is_there unknown = false
is_there (typed t) = true
is_there (faced interface) = true
is_there other = true

-- where this is known around it in the scope, as far as its text was read
module _ (seen : Contents → Seen) (ws : List Word) where
  -- a name that is connected by itself is used, and must stand for something
  abbrev pub named_where : Contents → ℕ → Option (List ℕ) → Contents
  named_where c token None = c
  named_where c token (Some n) = if is_there ((seen c).thing n) then with_use c token (Some n) else remarked c token E09 (Some n)

  unfoldable pub unknown_argument : Contents → Arg → Contents
  unknown_argument c (is_arg.Implicit dot name) = named_where c name (name_at ws name)
  unknown_argument c argument = c

  abbrev pub unknown_arguments : Contents → List Arg → Contents
  unknown_arguments c arguments = fold unknown_argument c arguments

  -- its name is declared behind them
  abbrev pub with_unknown : Contents → Instance → Contents
  with_unknown c i = declared_at ws (unknown_arguments c i.connections.arguments.items.items) i.name is_what.Instance i.name
