-- On what the facts of a package depend (own): on its text, and on what the packages tell whose names stand in it.
use Rattle.std.specs.Prelude.{◌≡◌, ℕ, List}
use Rattle.sve_tree.specs.declared.element.Element.{Element}
use Rattle.sve_known.specs.Packages.{Known}
use Rattle.sve_package.specs.Packages.{package_facts}
use Rattle.sve_declare.specs.Alike.{TellAlike}
use Rattle.sve_function.specs.Readings.{readings}

abbrev pub FactsFollow : Type 0
FactsFollow = (ps qs : List Known) (file : List ℕ) (chunk : ℕ) (e : Element) → TellAlike e.words.items ps qs → package_facts readings ps file chunk e ≡ package_facts readings qs file chunk e
