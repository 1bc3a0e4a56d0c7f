-- The scope of a compilation unit (IEEE 1800-2017, 3.12.1).
use Rattle.std.specs.Prelude.{ℕ, List}
use Rattle.std.specs.List.{fold}
use Rattle.sve_scope.specs.Scopes.{empty_scope}
use Rattle.sve_tree.specs.declared.element.Element.{Element}
use Rattle.sve_index.specs.declared.source.FileElement.{FileElement}
use Rattle.sve_index.specs.Sources.{element_in}
use Rattle.sve_known.specs.Packages.{Known}
use Rattle.sve_contents.specs.declared.contents.Contents.{Contents}
use Rattle.sve_contents.specs.Reading.{empty_contents}
use Rattle.sve_package.specs.Packages.{with_items}
use Rattle.sve_package.specs.Readings.{Readings}

-- the same scope, whose text goes on in this chunk of a file
abbrev pub turned : Contents → List ℕ → ℕ → Contents
turned c file chunk = record c { scope = record c.scope { file = file; chunk = chunk } }

-- It grows by the items in front of the definition of each element, in the order of the text.
abbrev pub with_unit : Readings → List Known → Contents → List ℕ → ℕ → Element → Contents
with_unit reads packages c file chunk e = with_items reads packages e.words.items (turned c file chunk) e.items.items

abbrev pub with_element : Readings → List Known → Contents → FileElement → Contents
with_element reads packages c e = with_unit reads packages c e.file e.chunk (element_in e)

-- as a chunk of a file sees it, behind these elements of the unit
abbrev pub unit_scope : Readings → List Known → List ℕ → ℕ → List FileElement → Contents
unit_scope reads packages file chunk es = turned (fold (with_element reads packages) (empty_contents (empty_scope file chunk)) es) file chunk
