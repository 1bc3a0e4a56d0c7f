-- The words of a chunk decide what the index takes from its element.
use Rattle.std.proofs.Common.{◌≡◌, ℕ, List, [], ◌∷◌, map, Ok, refl, ap, ◌∙◌}
use Rattle.sve_token.specs.declared.kind.Kind.{Kind}
use Rattle.sve_token.specs.declared.token.Token.{Token}
use Rattle.sve_grammar.specs.Token.{kinds}
use Rattle.sve_grammar.specs.Items.{chunk}
use Rattle.sve_grammar.specs.Reading.{Tree, Answer, at_depth}
use Rattle.sve_grammar.proofs.ByKind.{read_by_kinds}
use Rattle.sve_tree.specs.declared.token_word.Word.{Word}
use Rattle.sve_tree.specs.TokenWords.{words_of}
use Rattle.sve_tree.specs.Elements.{element_tree}
use Rattle.sve_outline.specs.Outline.{IsWhole}
use Rattle.sve_outline.proofs.Whole.{whole}
use Rattle.sve_index.specs.declared.source.FileElement.{FileElement}
use Rattle.sve_index.specs.Sources.{element_in, words_in}
use Rattle.sve_gist.specs.Gists.{gist_of, gist_in, stand_in, read_words, tree_in, gist_of_words}
use Rattle.sve_gist.proofs.InItems.{mentions_found}
use Rattle.sve_gist.proofs.InDesigns.{definition_found, package_found, top_found}

kinds_stay : (ts : List Token) → kinds (map stand_in (words_of ts)) ≡ kinds ts
kinds_stay [] = refl
kinds_stay (t ∷ ts) = ap (λ (ks : List Kind). t.kind ∷ ks) (kinds_stay ts)

pub read_by_words : (ts : List Token) → read_words (words_of ts) ≡ at_depth ts 0 chunk 0
unfolding read_words
read_by_words ts = read_by_kinds (map stand_in (words_of ts)) ts (kinds_stay ts) 0 chunk 0

whole_words : (words : List Word) (t : Tree) (n : ℕ) → read_words words ≡ Ok (t, n) → IsWhole t
unfolding read_words
whole_words words t n read = whole (map stand_in words) 0 chunk 0 t n read

pub decided : (source : FileElement) (n : ℕ) → read_words (words_in source) ≡ Ok (element_tree (element_in source), n) → gist_of_words source.file source.chunk (words_in source) ≡ gist_of source
decided source n read =
    ap (λ (a : Answer). gist_in source.file source.chunk (tree_in a) (words_in source)) read
    ∙ (λ i. record {
      file = source.file;
      chunk = source.chunk;
      definition = definition_found (element_in source) i;
      of_package = package_found (element_in source) i;
      alone = top_found (element_in source) (whole_words (words_in source) (element_tree (element_in source)) n read) i;
      mentions = mentions_found (element_in source) i;
      words = words_in source;
    })
