-- What the tokens of a chunk are read as.
use Rattle.std.proofs.Common.{◌≡◌, ℕ, List, length, Ok, Err, refl, sym, ap, ◌∙◌}
use Rattle.std.proofs.lemmas.Bool.{eq-eqb}
use Rattle.std.proofs.lemmas.List.{length-map}
use Rattle.sve_token.specs.declared.token.Token.{Token}
use Rattle.sve_grammar.specs.Items.{chunk}
use Rattle.sve_grammar.specs.Machine.{Halt}
use Rattle.sve_grammar.specs.Reading.{at_depth}
use Rattle.sve_tree.specs.declared.element.Element.{Element}
use Rattle.sve_tree.specs.TokenWords.{word_of, words_of}
use Rattle.sve_tree.specs.Elements.{element_tree}
use Rattle.sve_element.specs.Chunk.{read_whole, whole}
use Rattle.sve_gist.specs.Gists.{read_words}
use Rattle.sve_gist.proofs.Decided.{read_by_words}
use Rattle.sve_key.specs.Parts.{IsOfItsWords}
use Rattle.sve_make.specs.Make.{read_as, reading_of}

pub of_words : (ts : List Token) (e : Element) → at_depth ts 0 chunk 0 ≡ Ok (element_tree e, length ts) → e.words.items ≡ words_of ts → IsOfItsWords e
of_words ts e tree words =
    let long : length ts ≡ length e.words.items = sym (ap length words ∙ length-map ts word_of) in
    ap read_words words ∙ read_by_words ts ∙ tree ∙ ap (λ (n : ℕ). Ok (element_tree e, n)) long

pub whole_reads : (ts : List Token) (e : Element) → at_depth ts 0 chunk 0 ≡ Ok (element_tree e, length ts) → e.words.items ≡ words_of ts → Ok e.words.items ≡ reading_of ts
whole_reads ts e tree words =
    let read : read_whole ts ≡ Ok (element_tree e, length ts) = ap (whole (length ts)) tree ∙ rw (eq-eqb (length ts) (length ts) refl) refl in
    ap Ok words ∙ ap (read_as ts) (sym read)

pub stop_reads : (ts : List Token) (h : Halt) → read_whole ts ≡ Err h → Err h ≡ reading_of ts
stop_reads ts h is = ap (read_as ts) (sym is)
