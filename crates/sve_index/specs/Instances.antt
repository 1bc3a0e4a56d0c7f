-- The names of modules and interfaces that elements instantiate (IEEE 1800-2017, 23.3.2).
use Rattle.std.specs.Prelude.{ℕ, ◌≡◌, Bool, List, [], Some, nat_eq}
use Rattle.std.specs.Cmp.Lexicographic.{pointwise}
use Rattle.std.specs.List.{flat_map, list_any}
use Rattle.sve_tree.specs.declared.token_word.Word.{Word}
use Rattle.sve_mention.specs.declared.mention.Mention.{Mention}
use Rattle.sve_mention.specs.declared.mention.Mention.TheVariants.{Instance, EndLabel}
use Rattle.sve_mention.specs.InElements.{element_mentions}
use Rattle.sve_mention.specs.Instantiations.{ElementInstantiates}
use Rattle.sve_index.specs.declared.source.FileElement.{FileElement}
use Rattle.sve_index.specs.Sources.{element_in, words_in, name_at, listed}

-- a name is its own name
abbrev pub itself : List ℕ → List ℕ
itself name = name

abbrev pub instantiated : List Word → Mention → List (List ℕ)
instantiated words (Instance definition) = listed (name_at words definition)
instantiated words (EndLabel name label) = []

-- an element instantiates a name: that is the word by which it tells what it instantiates
abbrev pub Instantiates : FileElement → List ℕ → Type 0
Instantiates source name = (token : ℕ) × ElementInstantiates (element_in source) token × (name_at (words_in source) token ≡ Some name)

-- the names that an element instantiates, at any depth, as a walk of its tree gives them
abbrev pub instances_in : FileElement → List (List ℕ)
instances_in source = flat_map (instantiated (words_in source)) (element_mentions (element_in source))

-- whether a name is among them
abbrev pub instantiates : List ℕ → FileElement → Bool
instantiates name source = list_any (λ instance. pointwise nat_eq name instance) (instances_in source)

-- whether an element of these does
abbrev pub is_instantiated : List FileElement → List ℕ → Bool
is_instantiated sources name = list_any (instantiates name) sources
