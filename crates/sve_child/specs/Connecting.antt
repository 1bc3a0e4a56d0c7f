-- The names in the connections of an instance whose ports are known (IEEE 1800-2017, 6.10, 23.3.2 and 25.3). A plain name that stands for nothing
-- is said where it would make a net. Connected to an interface port it makes none, and what is wrong is said of the port alone.
use Rattle.std.specs.Prelude.{ℕ, Bool, not, ◌&&◌, if◌then◌else◌, List, Option, Some, None, is_none}
use Rattle.std.specs.List.{fold}
use Rattle.sve_diag.specs.declared.code.Code.TheVariants.{N01}
use Rattle.sve_tree.specs.declared.expression.Arg.{Arg}
use Rattle.sve_tree.specs.declared.expression.Arg.TheVariants as is_arg
use Rattle.sve_tree.specs.declared.expression.Expr.{Expr}
use Rattle.sve_tree.specs.declared.item.Instance.{Instance}
use Rattle.sve_tree.specs.declared.token_word.Word.{Word}
use Rattle.sve_tree.specs.declared.word.ScopedName.{ScopedName}
use Rattle.sve_use.specs.Use.{Called, Dotted, Named, Use}
use Rattle.sve_use.specs.Uses.{uses}
use Rattle.sve_scope.specs.declared.declared.Declared.{Declared}
use Rattle.sve_facts.specs.declared.facts.Port.{Port}
use Rattle.sve_known.specs.Packages.{Known}
use Rattle.sve_contents.specs.declared.contents.Contents.{Contents}
use Rattle.sve_known.specs.Naming.{name_at}
use Rattle.sve_contents.specs.Uses.{named_use, with_use}
use Rattle.sve_used.specs.Used.{dotted_use}
use Rattle.sve_around.specs.References.{member_behind, reference_of}
use Rattle.sve_child.specs.Saying.{all_said}
use Rattle.sve_child.specs.Nets.{net_tokens, stands_for_something}

-- a name of no package that stands for nothing
abbrev pub is_undeclared : List Word → Contents → ScopedName → Bool
is_undeclared ws c name = is_none name.scope && not (stands_for_something ws c name.name)

-- the expression that an argument connects, where it has one
unfoldable pub argument_value : Arg → Option Expr
argument_value (is_arg.Named' dot name opening _ value closing) = Some value
argument_value (is_arg.Ordered' _ value) = Some value
argument_value argument = None

-- the name in front, where an expression is a plain name with one member and nothing else
abbrev pub lone_by : Option ℕ → Option ℕ → Option ℕ
lone_by None name = None
lone_by (Some member) name = name

abbrev pub lone : Expr → Option ℕ
lone e = lone_by (member_behind e) (reference_of e)

-- where these packages are known
module _ (packages : List Known) (ws : List Word) where
  abbrev pub declared_use : Contents → ScopedName → Contents
  declared_use c name = if is_undeclared ws c name then c else named_use packages ws c name

  abbrev pub connected_use : Contents → Use → Contents
  connected_use c (Named name) = declared_use c name
  connected_use c (Called name) = named_use packages ws c name
  connected_use c (Dotted token postfixes) = dotted_use packages ws c token postfixes

  abbrev pub names_in_value : Contents → Expr → Contents
  names_in_value c e = fold connected_use c (uses e)

  -- a name with one member may be an interface with a modport, so that only an import takes effect for it here
  abbrev pub used_by : Contents → Expr → Option ℕ → Contents
  used_by c e None = names_in_value c e
  used_by c e (Some token) = with_use c token (name_at ws token)

  abbrev pub value_used : Contents → Expr → Contents
  value_used c e = used_by c e (lone e)

  abbrev pub used_in : Contents → Option Expr → Contents
  used_in c None = c
  used_in c (Some e) = value_used c e

  abbrev pub argument_used : Contents → Arg → Contents
  argument_used c argument = used_in c (argument_value argument)

  -- the names are used, and then those are said that would make nets, where these instances are those of interfaces
  abbrev pub names_connected : (Declared → Option (List ℕ)) → Contents → List Port → Instance → Contents
  names_connected interfaces c ports i = all_said ws N01 (fold argument_used c i.connections.arguments.items.items) (net_tokens packages ws interfaces c ports i)
