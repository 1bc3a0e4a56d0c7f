-- What an instance with a specialization leaves in its scope (IEEE 1800-2017, 23.3.2, 25.3 and 26.3).
use Rattle.std.specs.Prelude.{List}
use Rattle.std.specs.List.{fold}
use Rattle.sve_tree.specs.declared.token_word.Word.{Word}
use Rattle.sve_tree.specs.declared.expression.Arg.{Arg}
use Rattle.sve_tree.specs.declared.expression.Arg.TheVariants as is_arg
use Rattle.sve_tree.specs.declared.item.Instance.{Instance}
use Rattle.sve_scope.specs.declared.what.What.TheVariants as is_what
use Rattle.sve_facts.specs.declared.facts.Port.{Port}
use Rattle.sve_known.specs.Naming.{name_at}
use Rattle.sve_contents.specs.declared.contents.Contents.{Contents}
use Rattle.sve_contents.specs.Uses.{with_use}
use Rattle.sve_contents.specs.Reading.{noted_all}
use Rattle.sve_scoped.specs.Said.{declared_at}
use Rattle.sve_connect.specs.declared.connecting.Connected.{Connected}
use Rattle.sve_connect.specs.Seen.{Seen}
use Rattle.sve_connect.specs.Connections.{connected}
use Rattle.sve_instance.specs.declared.connections.Connections.{Connections}

-- how it connects ports, by what is known around it
abbrev pub connected_in : Seen → List Port → Instance → Connected
connected_in s ports i = connected s ports i.connections.arguments.separators.items i.connections.closing i.connections.arguments.items.items i.name

-- a name that is connected by itself is used
unfoldable pub named_itself : List Word → Contents → Arg → Contents
named_itself ws c (is_arg.Implicit dot name) = with_use c name (name_at ws name)
named_itself ws c argument = c

abbrev pub names_used : List Word → Contents → List Arg → Contents
names_used ws c arguments = fold (named_itself ws) c arguments

-- its name is declared behind what is said of its connections and what is used in them
abbrev pub connections_left : List Word → Contents → Instance → Connected → Connections
connections_left ws c i found = record {
  contents = declared_at ws (names_used ws (noted_all c found.notes) i.connections.arguments.items.items) i.name is_what.Instance i.name;
  pairs = found.pairs;
  unconnected = found.unconnected;
}

-- where this is known around it in the scope, as far as its text was read
abbrev pub with_connections : (Contents → Seen) → List Word → Contents → List Port → Instance → Connections
with_connections seen ws c ports i = connections_left ws c i (connected_in (seen c) ports i)
