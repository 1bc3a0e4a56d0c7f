-- The packages that an element sees (IEEE 1800-2017, 3.12.1 and 26.3).
use Rattle.std.specs.Prelude.{ℕ, Bool, ◌&&◌, List, [], is_some, is_none, if◌then◌else◌}
use Rattle.sve_table.specs.Tables.{item_of, with_item}
use Rattle.sve_tree.specs.declared.element.Element.{Element}
use Rattle.sve_index.specs.declared.whole.Index.{Index}
use Rattle.sve_index.specs.Defs.{def_name}
use Rattle.sve_facts.specs.declared.facts.Facts.{Facts}
use Rattle.sve_imports.specs.Naming.{own_words, packages_in, unit_words}
use Rattle.sve_known.specs.Packages.{Known, package_name}
use Rattle.sve_plan.specs.Plan.{Give, Plan, and_then, ask, each}
use Rattle.sve_look.specs.Questions.{PackageOf, Reply}
use Rattle.sve_unit_scope.specs.Elements.{ChunkElement}

-- what is found of a package is known by its name
abbrev pub with_facts : List Known → List ℕ → Facts → List Known
with_facts known n facts = with_item package_name known (record { name = n; facts = facts })

module _ (index : Index) where
  -- a package is sought where the design has one of this name, and once
  abbrev pub is_sought : List Known → List ℕ → Bool
  is_sought known n = is_some (item_of def_name n index.packages) && is_none (item_of package_name n known)

  abbrev pub with_package : List ℕ → List Known → Plan Reply (List Known)
  with_package n known = if is_sought known n then and_then (ask (PackageOf n)) (λ facts. Give (with_facts known n facts)) else Give known

  -- the packages of these names, in their order
  abbrev pub with_packages : List (List ℕ) → List Known → Plan Reply (List Known)
  with_packages names known = each with_package names known

  -- those that the items name which an element adds to the scope of its compilation unit
  abbrev pub with_unit_packages : ChunkElement → List Known → Plan Reply (List Known)
  with_unit_packages e known = with_packages (packages_in (unit_words e.element)) known

  -- those that the elements of the unit so far name there, and then those that the element itself names
  abbrev pub packages_named : List ChunkElement → Element → Plan Reply (List Known)
  packages_named es own = and_then (each with_unit_packages es []) (with_packages (packages_in (own_words own)))
