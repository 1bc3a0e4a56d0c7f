-- How a path is spelled (own; identifiers by IEEE 1800-2017, 5.6 and 5.6.1).
use Rattle.std.specs.Prelude.{ℕ, Bool, false, not, ◌&&◌, Option, Some, None, ℤ, List, [], ◌∷◌, ◌++◌, if◌then◌else◌}
use Rattle.std.specs.Fmt.{signed_decimal}
use Rattle.std.specs.List.{list_all, flat_map}
use Rattle.sve_bytes.specs.declared.path.Step.{Step}
use Rattle.sve_bytes.specs.Bytes.{begins_identifier, continues_identifier}
pub use Rattle.sve_bytes.specs.Bytes.{begins_identifier as is_first_of_identifier, continues_identifier as is_part_of_identifier}
use Rattle.sve_bytes.specs.Keywords.{is_keyword_text}

-- a letter or `_`, then letters, digits, `_` and `$`
abbrev pub has_form_of_identifier : List ℕ → Bool
has_form_of_identifier [] = false
has_form_of_identifier (b ∷ bs) = begins_identifier b && list_all continues_identifier bs

-- a simple identifier: of that form, and no keyword
abbrev pub is_simple_identifier : List ℕ → Bool
is_simple_identifier name = has_form_of_identifier name && not (is_keyword_text name)

-- a backslash, the name and one space
abbrev pub escaped : List ℕ → List ℕ
escaped name = 92 ∷ name ++ 32 ∷ []

abbrev pub name_text : List ℕ → List ℕ
name_text name = if is_simple_identifier name then name else escaped name

-- the index of a loop block, `-` and canonical decimal in brackets
abbrev pub index_text : Option ℤ → List ℕ
index_text None = []
index_text (Some v) = 91 ∷ signed_decimal v ++ 93 ∷ []

abbrev pub step_text : Step → List ℕ
step_text s = name_text s.name ++ index_text s.index

-- the steps, a dot between each and the next
abbrev pub path_text : List Step → List ℕ
path_text [] = []
path_text (s ∷ ss) = step_text s ++ flat_map (λ t. 46 ∷ step_text t) ss
