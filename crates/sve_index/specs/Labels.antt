-- The notes of labels behind end words that are not the name of what ends (IEEE 1800-2017, 9.3.4).
use Rattle.std.specs.Prelude.{ℕ, Bool, false, List, [], ◌∷◌, Option, Some, None, nat_eq, if◌then◌else◌}
use Rattle.std.specs.Cmp.Lexicographic.{pointwise}
use Rattle.std.specs.List.{flat_map}
use Rattle.sve_diag.specs.declared.code.Code.TheVariants.{S04}
use Rattle.sve_diag.specs.declared.diag.Note.{Note}
use Rattle.sve_mention.specs.declared.mention.Mention.{Mention}
use Rattle.sve_mention.specs.declared.mention.Mention.TheVariants.{Instance, EndLabel}
use Rattle.sve_mention.specs.InElements.{element_mentions}
use Rattle.sve_index.specs.declared.source.FileElement.{FileElement}
use Rattle.sve_index.specs.Sources.{element_in, words_in, name_at, called}
use Rattle.sve_index.specs.Defs.{note}

-- what has no name is called nothing
abbrev pub is_called : Option (List ℕ) → List ℕ → Bool
is_called None label = false
is_called (Some name) label = pointwise nat_eq name label

abbrev pub label_note : FileElement → Option (List ℕ) → ℕ → Option (List ℕ) → List Note
label_note source name token None = []
label_note source name token (Some label) = if is_called name label then [] else note source token S04 label ∷ []

abbrev pub mention_note : FileElement → Mention → List Note
mention_note source (Instance definition) = []
mention_note source (EndLabel name label) = label_note source (called (words_in source) name) label (name_at (words_in source) label)

-- the notes of an element's labels, in the order of its text
abbrev pub label_notes : FileElement → List Note
label_notes source = flat_map (mention_note source) (element_mentions (element_in source))
