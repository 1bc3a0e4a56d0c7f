-- The module, interface or package of a chunk, read off its tree, and whether it may be a top (IEEE 1800-2017, 3.13, 6.20.1 and 23.3.1).
use Rattle.std.specs.Prelude.{ℕ, Bool, true, false, ◌||◌, not, Option, Some, None}
use Rattle.sve_grammar.specs.Reading.{Tree, leaf, pair, left, right, turn}
use Rattle.sve_gist.specs.Mentions.{header_name_in}

-- a parameter of a header without a value
abbrev pub lacks_value_in : Tree → Bool
lacks_value_in (pair keyword (pair parameter (right value))) = true
lacks_value_in t = false

-- some of the parameters behind the first, each behind its comma
unfoldable pub others_lack_in : Tree → Bool
others_lack_in (turn (pair comma port) rest) = lacks_value_in port || others_lack_in rest
others_lack_in t = false

-- some of the parameters of a header
abbrev pub some_lack_in : Tree → Bool
some_lack_in (left (pair hash (pair opening (pair (left (pair first others)) closing)))) = lacks_value_in first || others_lack_in others
some_lack_in t = false

abbrev pub header_lacks_in : Tree → Bool
header_lacks_in (pair lifetime (pair name (pair imports (pair parameters rest)))) = some_lack_in parameters
header_lacks_in t = false

abbrev pub header_in : Tree → Tree
header_in (pair header rest) = header
header_in t = t

abbrev pub package_name_in : Tree → Option ℕ
package_name_in (pair keyword (pair lifetime (pair (leaf name) rest))) = Some name
package_name_in t = None

-- of a module or an interface the number of its name
abbrev pub definition_of_design : Tree → Option ℕ
definition_of_design (left (pair keyword definition)) = header_name_in (header_in definition)
definition_of_design (right (left (pair keyword definition))) = header_name_in (header_in definition)
definition_of_design t = None

-- of a package the number of its name
abbrev pub package_of_design : Tree → Option ℕ
package_of_design (right (right unit)) = package_name_in unit
package_of_design t = None

-- a module that has no parameter without a default
abbrev pub stands_alone : Tree → Bool
stands_alone (left (pair keyword definition)) = not (header_lacks_in (header_in definition))
stands_alone t = false

-- the same of a chunk
abbrev pub definition_token_in : Tree → Option ℕ
definition_token_in (pair items (left design)) = definition_of_design design
definition_token_in t = None

abbrev pub package_token_in : Tree → Option ℕ
package_token_in (pair items (left design)) = package_of_design design
package_token_in t = None

abbrev pub may_be_top_in : Tree → Bool
may_be_top_in (pair items (left design)) = stands_alone design
may_be_top_in t = false
