-- The overrides of an instantiation in the scope in which it stands (IEEE 1800-2017, 23.10.2).
use Rattle.std.specs.Prelude.{ℕ, if◌then◌else◌, List, [], Option, Some, None}
use Rattle.sve_tree.specs.declared.token_word.Word.{Word}
use Rattle.sve_tree.specs.declared.expression.ArgumentList.{ArgumentList}
use Rattle.sve_tree.specs.declared.item.Overrides.{Overrides}
use Rattle.sve_env.specs.Told.{Told}
use Rattle.sve_env.specs.Nodes.{argument_count}
use Rattle.sve_contents.specs.declared.contents.Contents.{Contents}
use Rattle.sve_enumerated.specs.Passing.{passed_to}
use Rattle.sve_contents.specs.Reading.{noted_all}
use Rattle.sve_plan.specs.Plan.{Counted}
use Rattle.sve_override.specs.declared.argument.Overriding.{Overriding}
use Rattle.sve_override.specs.declared.overridden.Overridden.{Overridden}
use Rattle.sve_override.specs.Arguments.{is_nothing, no_overrides, with_arguments}

-- the overrides of a list, and what they count
abbrev pub found_in : Told → List Word → ArgumentList → Overriding
found_in m ws list = if is_nothing list.arguments.items.items then no_overrides else with_arguments m ws list.arguments.separators.items list.closing 0 no_overrides list.arguments.items.items

abbrev pub list_nodes : Told → ArgumentList → ℕ
list_nodes m list = if is_nothing list.arguments.items.items then 0 else argument_count m list.arguments.items.items

-- what is said of them is said in the scope, and all names in them are used
abbrev pub overrides_left : List Word → Contents → ArgumentList → Overriding → Overridden
overrides_left ws c list o = record { contents = (passed_to ws (record { contents = noted_all c o.notes; at = list.opening }) list.closing).contents; overrides = o.overrides }

abbrev pub nothing_overridden : Contents → Overridden
nothing_overridden c = record { contents = c; overrides = [] }

-- where this is known in the scope, as far as its text was read
module _ (known : Contents → Told) (ws : List Word) where
  abbrev pub with_list : Contents → ArgumentList → Counted Overridden
  with_list c list = (list_nodes (known c) list, overrides_left ws c list (found_in (known c) ws list))

  abbrev pub with_overrides : Contents → Option Overrides → Counted Overridden
  with_overrides c None = (0, nothing_overridden c)
  with_overrides c (Some overrides) = with_list c overrides.arguments
