-- The packages that the words of an element name (IEEE 1800-2017, 26.3).
use Rattle.std.specs.Prelude.{ℕ, Bool, true, false, List, [], ◌∷◌, ◌++◌, ◌+◌, drop, take, slice_get, Option, Some, None, if◌then◌else◌}
use Rattle.sve_token.specs.declared.kind.Kind.{Kind}
use Rattle.sve_token.specs.declared.kind.Kind.TheVariants as is_kind
use Rattle.sve_tree.specs.declared.token_word.Word.{Word}
use Rattle.sve_tree.specs.declared.element.Element.{Element}
use Rattle.sve_tree.specs.declared.element.Design.{Design}
use Rattle.sve_tree.specs.declared.element.Design.TheVariants as is_design
use Rattle.sve_tree.specs.TokenWords.{name_in}
use Rattle.sve_table.specs.Tables.{table_of}

abbrev pub itself : List ℕ → List ℕ
itself name = name

abbrev pub is_colons : Kind → Bool
is_colons is_kind.ColonColon = true
is_colons kind = false

-- words that begin with `::`
abbrev pub begin_with_colons : List Word → Bool
begin_with_colons [] = false
begin_with_colons (w ∷ ws) = is_colons w.kind

abbrev pub as_list : Option (List ℕ) → List (List ℕ)
as_list None = []
as_list (Some name) = name ∷ []

-- The names that stand in front of `::`, in the order of the text: the grammar has the name of a package there, and nothing else.
unfoldable pub package_names : List Word → List (List ℕ)
package_names [] = []
package_names (w ∷ ws) = (if begin_with_colons ws then as_list (name_in w) else []) ++ package_names ws

-- each name once
abbrev pub packages_in : List Word → List (List ℕ)
packages_in ws = table_of itself (package_names ws)

-- the number of the first word of a module, an interface or a package
abbrev pub definition_start : Design → ℕ
definition_start (is_design.Module keyword definition) = keyword.token
definition_start (is_design.Interface keyword definition) = keyword
definition_start (is_design.Package unit) = unit.value.keyword

-- the words in front of the module, interface or package, or all where there is none
abbrev pub words_before : List Word → Option Design → List Word
words_before ws None = ws
words_before ws (Some design) = take (definition_start design) ws

-- A package does not see the items of the compilation unit's scope in front of it, so its text begins with its keyword (own).
abbrev pub words_of_its_own : List Word → Option Design → List Word
words_of_its_own ws None = ws
words_of_its_own ws (Some (is_design.Module keyword definition)) = ws
words_of_its_own ws (Some (is_design.Interface keyword definition)) = ws
words_of_its_own ws (Some (is_design.Package unit)) = drop unit.value.keyword ws

abbrev pub own_words : Element → List Word
own_words e = words_of_its_own e.words.items e.design

abbrev pub unit_words : Element → List Word
unit_words e = words_before e.words.items e.design

-- what a word is where there is one
abbrev pub is_colons_there : Option Word → Bool
is_colons_there None = false
is_colons_there (Some w) = is_colons w.kind

abbrev pub name_there : Option Word → Option (List ℕ)
name_there None = None
name_there (Some w) = name_in w

-- the name at a place, where `::` stands behind it
abbrev pub package_at : List Word → ℕ → Option (List ℕ)
package_at ws i = if is_colons_there (slice_get ws (i + 1)) then name_there (slice_get ws i) else None
