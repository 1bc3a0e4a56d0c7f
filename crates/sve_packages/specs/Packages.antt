-- The packages of a design (IEEE 1800-2017, clause 26).
use Rattle.std.specs.Prelude.{ℕ, List, [], map, slice_get, Option, Some, None, option_map}
use Rattle.std.specs.List.{filter_map, fold}
use Rattle.sve_tree.specs.declared.element.Element.{Element}
use Rattle.sve_tree.specs.declared.element.Package.{Package}
use Rattle.sve_tree.specs.declared.token_word.Word.{Word}
use Rattle.sve_table.specs.Tables.{with_item}
use Rattle.sve_index.specs.declared.source.FileElement.{FileElement}
use Rattle.sve_index.specs.Sources.{element_in}
use Rattle.sve_package_order.specs.declared.package_imports.PackageImports.{PackageImports}
use Rattle.sve_package_order.specs.Rounds.{rounds_of}
use Rattle.sve_imports.specs.Naming.{own_words, packages_in}
use Rattle.sve_facts.specs.declared.facts.Facts.{Facts}
use Rattle.sve_known.specs.Packages.{Known, package_name}
use Rattle.sve_known.specs.Naming.{name_at}
use Rattle.sve_package.specs.Packages.{cyclic_facts, package_facts, package_in}
use Rattle.sve_function.specs.Readings.{readings}
use Rattle.sve_packages.specs.declared.design_package.DesignPackage as code
use Rattle.sve_packages.specs.declared.turn.Turn.{Turn}
use Rattle.sve_packages.specs.Turns.{turns}

-- the text of a package: its element, and in which chunk of which file that stands
pub record PackageText : Type 0 where
  pub file : List ℕ
  pub chunk : ℕ
  pub element : Element

abbrev pub package_text : FileElement → PackageText
package_text s = record { file = s.file; chunk = s.chunk; element = element_in s }

-- a package of a design: its name, and its text
pub record DesignPackage : Type 0 where
  pub name : List ℕ
  pub text : PackageText

-- the same as the program holds it
abbrev pub design_package : code.DesignPackage → DesignPackage
design_package p = record { name = p.name.now; text = package_text p.source.now }

-- the name of the package of an element, where there is one
abbrev pub name_in : List Word → Option Package → Option (List ℕ)
name_in ws None = None
name_in ws (Some unit) = name_at ws unit.name

abbrev pub name_of : Element → Option (List ℕ)
name_of e = name_in e.words.items (package_in e.design)

-- an element without a package has none, and one whose package has no name
unfoldable pub package_of : PackageText → Option DesignPackage
package_of t = option_map (λ n. record { name = n; text = t }) (name_of t.element)

abbrev pub packages_named : List PackageText → List DesignPackage
packages_named texts = filter_map package_of texts

-- a package imports those that its own text names (26.3)
unfoldable pub imports_of : DesignPackage → PackageImports
imports_of p = record { name = p.name; imports = packages_in (own_words p.text.element) }

-- What is found of a package that has a round, over those that are known. One without a round is on a cycle of imports, or leads to
-- one: it has no scope, and that is said of it (own).
unfoldable pub facts_of : List Known → Option ℕ → DesignPackage → Facts
facts_of known None p = cyclic_facts p.text.file p.text.chunk p.text.element
facts_of known (Some round) p = package_facts readings known p.text.file p.text.chunk p.text.element

abbrev pub with_package : List Known → Option ℕ → DesignPackage → List Known
with_package known round p = with_item package_name known (record { name = p.name; facts = facts_of known round p })

abbrev pub with_package_at : List Known → Option ℕ → Option DesignPackage → List Known
with_package_at known round None = known
with_package_at known round (Some p) = with_package known round p

-- the package whose turn it is, over those that had theirs
abbrev pub with_turn : List DesignPackage → List Known → Turn → List Known
with_turn ps known t = with_package_at known t.round (slice_get ps t.place)

abbrev pub known_of : List DesignPackage → List Known
known_of ps = fold (with_turn ps) [] (turns (rounds_of (map imports_of ps)))

-- The packages of these texts: one turn after another, those without a round first, and then round by round.
unfoldable pub packages_of : List PackageText → List Known
packages_of texts = known_of (packages_named texts)

-- what is found of a package that is known
abbrev pub found_of : Known → Facts
found_of known = known.facts
