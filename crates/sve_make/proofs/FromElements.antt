-- What the front end finds, element by element, is what the keys say (own).
use Rattle.std.specs.Prelude.{ℕ, ◌+◌, ◌-◌, ◌≡◌, List, [], ◌∷◌, ◌++◌, length, map, Ok, refl}
use Rattle.std.proofs.Common.{sym, ap, ◌∙◌}
use Rattle.std.proofs.lemmas.Bool.{eq-eqb}
use Rattle.sve_token.specs.declared.token.Token.{Token}
use Rattle.sve_grammar.specs.Items.{chunk}
use Rattle.sve_grammar.specs.Reading.{Answer, at_depth}
use Rattle.sve_tree.specs.Elements.{element_tree}
use Rattle.sve_element.specs.Chunk.{read_whole, whole}
use Rattle.sve_index.specs.declared.source.FileElement.{FileElement}
use Rattle.sve_index.specs.Sources.{element_in, words_in}
use Rattle.sve_front.specs.Elements.{IsElementOf, AreElements}
use Rattle.sve_gist.specs.Gists.{Gist, gist_of, gist_of_words, read_words}
use Rattle.sve_gist.proofs.Decided.{decided, read_by_words}
use Rattle.sve_make.specs.Make.{read_as, reading_of, gists_in}

-- what the index takes from chunks with these tokens, of which the first has this number
abbrev pub parts_gists : List ℕ → ℕ → List (List Token) → List Gist
parts_gists file n [] = []
parts_gists file n (ts ∷ chunks) = gists_in file n (reading_of ts) ++ parts_gists file (n + 1) chunks

whole_is_read : (ts : List Token) (source : FileElement) → at_depth ts 0 chunk 0 ≡ Ok (element_tree (element_in source), length ts) → read_whole ts ≡ Ok (element_tree (element_in source), length ts)
whole_is_read ts source h = ap (whole (length ts)) h ∙ rw (eq-eqb (length ts) (length ts) refl) refl

accepted_gist : (file : List ℕ) (n : ℕ) (ts : List Token) (source : FileElement) → IsElementOf file n ts source → gist_of source ∷ [] ≡ gists_in file n (reading_of ts)
accepted_gist file n ts source is =
    let read : read_words (words_in source) ≡ Ok (element_tree (element_in source), length ts) = ap read_words is.words ∙ read_by_words ts ∙ is.tree in
    ap (λ (g : Gist). g ∷ []) (sym (decided source (length ts) read))
    ∙ (λ i. gist_of_words (is.file_is i) (is.number_is i) (is.words i) ∷ [])
    ∙ ap (λ (a : Answer). gists_in file n (read_as ts a)) (sym (whole_is_read ts source is.tree))

-- the elements of chunks are of the gists that their words have
pub elements_gists : (file : List ℕ) (n : ℕ) (chunks : List (List Token)) (sources : List FileElement) → AreElements file n chunks sources → map gist_of sources ≡ parts_gists file n chunks
elements_gists file n [] sources AreElements.none = refl
elements_gists file n chunks sources (AreElements.accepted {ts = ts} {chunks = others} {source = source} {sources = rest} is more) =
    λ i. accepted_gist file n ts source is i ++ elements_gists file (n + 1) others rest more i
elements_gists file n chunks sources (AreElements.refused {ts = ts} {chunks = others} {sources = rest} h is more) =
    elements_gists file (n + 1) others rest more ∙ ap (λ (a : Answer). gists_in file n (read_as ts a) ++ parts_gists file (n + 1) others) (sym is)
