-- The units of a revision, their tokens, and what stands where in them (IEEE 1800-2017, 3.12.1, and own).
use Rattle.std.specs.Prelude.{ℕ, Bool, ◌||◌, List, [], unwrap_or, length, codes, nat_eq}
use Rattle.std.specs.List.{ends_with, filter}
use Rattle.sve_bytes.specs.declared.net_type.NetType.{NetType}
use Rattle.sve_diag.specs.declared.diag.Place.{Place}
use Rattle.sve_token.specs.declared.token.Token.{Token}
use Rattle.sve_lex.specs.Tokens.{tokens, starts}
use Rattle.sve_text.specs.Rows.{Row, text_of, names_in}
use Rattle.sve_front.specs.Expansions.{expanded}
use Rattle.sve_front.specs.Nets.{nets_at}

-- a file of such a name is a unit (own); any other is only included
abbrev pub is_unit_name : List ℕ → Bool
is_unit_name name = ends_with nat_eq name (codes ".sv") || ends_with nat_eq name (codes ".v")

-- the names of the units, in file order
abbrev pub unit_names : List Row → List (List ℕ)
unit_names rows = filter is_unit_name (names_in rows)

-- the tokens of the file of this name
abbrev pub unit_tokens : List Row → List ℕ → List Token
unit_tokens rows name = tokens (expanded rows name).cells

-- the net type that is in force where each of them begins
abbrev pub unit_nets : List Row → List ℕ → List NetType
unit_nets rows name = nets_at (expanded rows name).net_types (starts (expanded rows name).cells)

-- the text of the file of this name; that of a file that is not there has no bytes
abbrev pub file_text : List Row → List ℕ → List ℕ
file_text rows name = unwrap_or (text_of rows name) []

-- the end of the file of this name
abbrev pub file_end : List Row → List ℕ → Place
file_end rows name = record { file = name; offset = length (file_text rows name) }
