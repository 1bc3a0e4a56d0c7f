-- What is found of packages and of the scope of a compilation unit (IEEE 1800-2017, 3.12.1 and clause 26).
use Rattle.std.specs.Prelude.{ℕ, List, [], ◌∷◌, Option, Some, None}
use Rattle.std.specs.List.{fold}
use Rattle.sve_diag.specs.declared.code.Code.TheVariants.{N08}
use Rattle.sve_diag.specs.declared.diag.Note.{Note}
use Rattle.sve_scope.specs.Scopes.{empty_scope}
use Rattle.sve_facts.specs.declared.facts.Facts.{Facts}
use Rattle.sve_facts.specs.Facts.{no_facts}
use Rattle.sve_tree.specs.declared.element.Element.{Element}
use Rattle.sve_tree.specs.declared.element.UnitItem.{UnitItem}
use Rattle.sve_tree.specs.declared.element.UnitItem.TheVariants as is_item
use Rattle.sve_tree.specs.declared.element.Design.{Design}
use Rattle.sve_tree.specs.declared.element.Design.TheVariants as is_design
use Rattle.sve_tree.specs.declared.element.Package.{Package}
use Rattle.sve_tree.specs.declared.token_word.Word.{Word}
use Rattle.sve_known.specs.Packages.{Known}
use Rattle.sve_known.specs.Naming.{name_at}
use Rattle.sve_contents.specs.declared.contents.Contents.{Contents}
use Rattle.sve_contents.specs.Reading.{empty_contents}
use Rattle.sve_contents.specs.Imports.{with_items as importing_items}
use Rattle.sve_package.specs.Opening.{opened}
use Rattle.sve_package.specs.Readings.{Readings}

module _ (reads : Readings) (packages : List Known) (ws : List Word) where
  -- an item, over what those in front of it left
  abbrev pub with_item : Contents → UnitItem → Contents
  with_item c (is_item.Empty semicolon) = c
  with_item c (is_item.Import declaration) = importing_items packages ws c declaration.value.items.items.items
  with_item c (is_item.Parameters declaration) = reads.parameters packages ws c declaration.value
  with_item c (is_item.Typedef declaration) = reads.typedef packages ws c declaration.value
  with_item c (is_item.Function function) = reads.function packages ws c function.value

  -- the functions of items are seen by all of them; then one item after another, in the order of the text
  abbrev pub with_items : Contents → List UnitItem → Contents
  with_items c is = fold with_item (opened ws c is) is

-- The facts of a package that has these contents: one scope, whose path has no step, and the notes.
abbrev pub facts_of : Contents → Facts
facts_of c = record no_facts { scopes = record { path = record { steps = [] }; scope = c.scope } ∷ []; notes = c.notes }

-- the package of an element, where it has one
abbrev pub package_of_design : Design → Option Package
package_of_design (is_design.Module keyword definition) = None
package_of_design (is_design.Interface keyword definition) = None
package_of_design (is_design.Package unit) = Some unit.value

abbrev pub package_in : Option Design → Option Package
package_in None = None
package_in (Some design) = package_of_design design

-- A package sees nothing but its own text and the packages that it names: no compilation unit's scope is in front of it (own).
abbrev pub found_in : Readings → List Known → List ℕ → ℕ → List Word → Option Package → Facts
found_in reads packages file chunk ws None = no_facts
found_in reads packages file chunk ws (Some unit) = facts_of (with_items reads packages ws (empty_contents (empty_scope file chunk)) unit.items.items)

abbrev pub package_facts : Readings → List Known → List ℕ → ℕ → Element → Facts
package_facts reads packages file chunk e = found_in reads packages file chunk e.words.items (package_in e.design)

-- A package on a cycle of imports, or leading to one, has no scope, and this is said at its name (own).
abbrev pub cyclic_note : List ℕ → ℕ → List Word → ℕ → Note
cyclic_note file chunk ws token = record { file = file; chunk = chunk; token = token; code = N08; arg = name_at ws token }

-- nothing but a note
abbrev pub only_noted : Note → Facts
only_noted note = record no_facts { notes = note ∷ [] }

abbrev pub cyclic_in : List ℕ → ℕ → List Word → Option Package → Facts
cyclic_in file chunk ws None = no_facts
cyclic_in file chunk ws (Some unit) = only_noted (cyclic_note file chunk ws unit.name)

abbrev pub cyclic_facts : List ℕ → ℕ → Element → Facts
cyclic_facts file chunk e = cyclic_in file chunk e.words.items (package_in e.design)
