-- The trees of chunks (IEEE 1800-2017, A.1.2, and own).
use Rattle.std.specs.Global.{Global}
use Rattle.std.specs.Prelude.{◌≡◌, List, [], ◌∷◌, length, Option, Some, None, Ok, Err}
use Rattle.std.specs.Arc.{arc_value}
use Rattle.std.specs.declared.sync.Arc.{Arc}
use Rattle.sve_token.specs.declared.token.Token.{Token}
use Rattle.sve_grammar.specs.Items.{chunk}
use Rattle.sve_grammar.specs.Machine.{Halt}
use Rattle.sve_grammar.specs.Reading.{at_depth}
use Rattle.sve_tree.specs.declared.element.Element.{Element}
use Rattle.sve_tree.specs.Elements.{element_tree}
use Rattle.sve_tree.specs.TokenWords.{words_of}
use Rattle.sve_element.specs.Chunk.{read_whole}

-- a tree, wherever it lies in memory
abbrev pub tree_of : Option (Arc Element Global) → Option Element
tree_of None = None
tree_of (Some element) = Some (arc_value element)

-- the tree of the chunk with these tokens; none, where the grammar refuses it
abbrev pub IsTreeOf : List Token → Option Element → Type 0
IsTreeOf ts (Some e) = (at_depth ts 0 chunk 0 ≡ Ok (element_tree e, length ts)) × (e.words.items ≡ words_of ts)
IsTreeOf ts None = (h : Halt) × (read_whole ts ≡ Err h)

-- one for each of these chunks, in their order
abbrev pub AreTreesOf : List (List Token) → List (Option Element) → Type 0
AreTreesOf [] [] = Unit {0}
AreTreesOf [] (tree ∷ trees) = ⊥
AreTreesOf (ts ∷ chunks) [] = ⊥
AreTreesOf (ts ∷ chunks) (tree ∷ trees) = IsTreeOf ts tree × AreTreesOf chunks trees
