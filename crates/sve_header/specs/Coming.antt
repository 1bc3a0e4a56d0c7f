-- How the names of a header come into its scope, one by one (IEEE 1800-2017, 6.5, 23.2 and 26.3).
use Rattle.std.specs.Prelude.{ℕ, List, Option, Some, None, slice_get}
use Rattle.sve_types.specs.DataType.{DataType}
use Rattle.sve_tree.specs.declared.token_word.Word.{Word}
use Rattle.sve_tree.specs.declared.data_type.DeclaredType.{DeclaredType}
use Rattle.sve_tree.specs.declared.data_type.DeclaredType.TheVariants as is_declared
use Rattle.sve_scope.specs.declared.what.What.{What}
use Rattle.sve_enumerated.specs.declared.passed.Passed.{Passed}
use Rattle.sve_enumerated.specs.Passing.{passed_to}
use Rattle.sve_enumerated.specs.Types.{named_in_ref}
use Rattle.sve_scoped.specs.Said.{declared_at}

-- the token behind the item at a place of a list: the comma, or what closes the list
abbrev pub token_or : ℕ → Option ℕ → ℕ
token_or closing None = closing
token_or closing (Some token) = token

abbrev pub separator : List ℕ → ℕ → ℕ → ℕ
separator separators closing place = token_or closing (slice_get separators place)

-- the names that a written type declares, whose types are found in this one
unfoldable pub names_of_type : List Word → Option DataType → Passed → DeclaredType → Passed
names_of_type ws ty p (is_declared.Implicit sign dimensions) = p
names_of_type ws None p (is_declared.Explicit t) = p
names_of_type ws (Some ty) p (is_declared.Explicit t) = named_in_ref ws ty p t

-- a name at a token, behind all that is used in front of another token, from which on it is seen
abbrev pub behind_uses : List Word → Passed → ℕ → ℕ → Passed
behind_uses ws p token from = passed_to ws (passed_to ws p token) from

abbrev pub come_in : List Word → Passed → ℕ → What → ℕ → Passed
come_in ws p token what from = record { contents = declared_at ws (behind_uses ws p token from).contents token what from; at = from }
