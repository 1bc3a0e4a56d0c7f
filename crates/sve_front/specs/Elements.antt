-- The elements of a revision: the trees of all chunks that the grammar accepts (IEEE 1800-2017, A.1.2).
use Rattle.std.specs.Prelude.{ℕ, ◌+◌, ◌≡◌, List, [], ◌∷◌, ◌++◌, length, Ok, Err}
use Rattle.sve_token.specs.declared.token.Token.{Token}
use Rattle.sve_grammar.specs.Items.{chunk}
use Rattle.sve_grammar.specs.Machine.{Halt}
use Rattle.sve_grammar.specs.Reading.{at_depth}
use Rattle.sve_tree.specs.Elements.{element_tree}
use Rattle.sve_tree.specs.TokenWords.{words_of}
use Rattle.sve_element.specs.Chunk.{read_whole}
use Rattle.sve_unit.specs.Chunks.{parts}
use Rattle.sve_index.specs.declared.source.FileElement.{FileElement}
use Rattle.sve_index.specs.Sources.{element_in, words_in}
use Rattle.sve_text.specs.Rows.{Row}
use Rattle.sve_front.specs.Units.{unit_tokens}

-- the element of the chunk with these tokens, which has this number in this file
pub record IsElementOf (file : List ℕ) (n : ℕ) (ts : List Token) (source : FileElement) : Type 0 where
  pub file_is : source.file ≡ file
  pub number_is : source.chunk ≡ n
  pub tree : at_depth ts 0 chunk 0 ≡ Ok (element_tree (element_in source), length ts)
  pub words : words_in source ≡ words_of ts

-- the elements of the chunks that the grammar accepts, in their order; the first of these chunks has number n
pub data AreElements (file : List ℕ) : ℕ → List (List Token) → List FileElement → Type 0 where
  none : {n : ℕ} → AreElements file n [] []
  accepted : {n : ℕ} {ts : List Token} {chunks : List (List Token)} {source : FileElement} {sources : List FileElement}
      → IsElementOf file n ts source → AreElements file (n + 1) chunks sources → AreElements file n (ts ∷ chunks) (source ∷ sources)
  refused : {n : ℕ} {ts : List Token} {chunks : List (List Token)} {sources : List FileElement} (h : Halt)
      → read_whole ts ≡ Err h → AreElements file (n + 1) chunks sources → AreElements file n (ts ∷ chunks) sources

-- the elements of the units of these names, in file order and then text order
pub data AreElementsOf (rows : List Row) : List (List ℕ) → List FileElement → Type 0 where
  no_unit : AreElementsOf rows [] []
  unit : {name : List ℕ} {names : List (List ℕ)} {own others : List FileElement}
      → AreElements name 0 (parts (unit_tokens rows name)) own → AreElementsOf rows names others → AreElementsOf rows (name ∷ names) (own ++ others)
