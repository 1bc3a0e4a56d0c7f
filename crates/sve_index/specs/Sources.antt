-- Elements in their files, and the names that their words are (own).
use Rattle.std.specs.Prelude.{ℕ, List, [], ◌∷◌, Option, Some, None}
use Rattle.std.specs.Arc.{arc_value}
use Rattle.std.specs.List.{slice_get}
use Rattle.std.specs.Option.{option_and_then}
use Rattle.sve_tree.specs.declared.element.Element.{Element}
use Rattle.sve_tree.specs.declared.token_word.Word.{Word}
use Rattle.sve_tree.specs.TokenWords.{name_in}
use Rattle.sve_index.specs.declared.source.FileElement.{FileElement}

abbrev pub element_in : FileElement → Element
element_in source = arc_value source.element

abbrev pub words_in : FileElement → List Word
words_in source = (element_in source).words.items

-- the name that the word of a number is
abbrev pub name_at : List Word → ℕ → Option (List ℕ)
name_at words token = option_and_then name_in (slice_get words token)

-- the same, where there is a number
abbrev pub called : List Word → Option ℕ → Option (List ℕ)
called words token = option_and_then (name_at words) token

-- none or one, as a list
abbrev pub listed : {X : Type 0} → Option X → List X
listed None = []
listed (Some x) = x ∷ []
