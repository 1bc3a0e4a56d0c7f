-- What packages tell by the names that stand in a text (own).
use Rattle.std.specs.Prelude.{◌≡◌, ℕ, List, Option, Some, option_map}
use Rattle.sve_table.specs.Tables.{item_of}
use Rattle.sve_facts.specs.declared.facts.Facts.{Facts}
use Rattle.sve_tree.specs.declared.token_word.Word.{Word}
use Rattle.sve_known.specs.Naming.{name_at}
use Rattle.sve_known.specs.Packages.{Known, package_name}

-- what is found of the package of a name
abbrev pub told_by : List ℕ → List Known → Option Facts
told_by p ps = option_map (λ k. k.facts) (item_of package_name p ps)

-- by each name that stands in a text two lists of packages tell the same
abbrev pub TellAlike : List Word → List Known → List Known → Type 0
TellAlike ws ps qs = (token : ℕ) (p : List ℕ) → name_at ws token ≡ Some p → told_by p ps ≡ told_by p qs
