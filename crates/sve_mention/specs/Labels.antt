-- Labels behind end words (IEEE 1800-2017, 9.3.4).
use Rattle.std.specs.Prelude.{ℕ, List, [], ◌∷◌, Option, Some, None}
use Rattle.sve_tree.specs.declared.word.Label.{Label}
use Rattle.sve_mention.specs.declared.mention.Mention.{Mention}
use Rattle.sve_mention.specs.declared.mention.Mention.TheVariants.{EndLabel}

-- the name that a label gives to a block
abbrev pub label_name : Option Label → Option ℕ
label_name None = None
label_name (Some label) = Some label.name

-- the label behind an end word, where one is written, of what has this name
abbrev pub end_label : Option ℕ → Option Label → List Mention
end_label name None = []
end_label name (Some label) = EndLabel name label.name ∷ []
