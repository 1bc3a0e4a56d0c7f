-- An element is added, and its gist is made.
use Rattle.std.proofs.Common.{◌≡◌, ℕ, List, [], ◌∷◌, ◌++◌, Ok, sym, ap, ◌∙◌}
use Rattle.std.proofs.lemmas.List.{append-nil}
use Rattle.sve_index.specs.declared.source.FileElement.{FileElement}
use Rattle.sve_index.specs.Sources.{element_in, words_in}
use Rattle.sve_gist.specs.Gists.{Gist, gist_of_words}
use Rattle.sve_gist.proofs.Decided.{decided}
use Rattle.sve_store.specs.Made.{Made, Done}
use Rattle.sve_key.specs.declared.key.Key.{Key}
use Rattle.sve_key.specs.Parts.{ReadingValue, IsOfItsWords}
use Rattle.sve_make.specs.Make.{gists_in}
use Rattle.sve_making.specs.Added.{Adds}

pub adds_none : (m : Made Key (List Gist)) (old : List FileElement) → m ≡ Done [] → Adds m old old
adds_none m old is = ([], sym (append-nil old), is)

pub adds_one : (file : List ℕ) (n : ℕ) (r : ReadingValue) (source : FileElement) (old new : List FileElement) → r ≡ Ok (words_in source) → IsOfItsWords (element_in source) → source.file ≡ file → source.chunk ≡ n → new ≡ old ++ source ∷ [] → Adds (Done (gists_in file n r)) old new
adds_one file n r source old new is own here at e = (
  source ∷ [],
  e,
  ap (λ (x : ReadingValue). Done (gists_in file n x)) is
      ∙ (λ i. Done (gist_of_words (sym here i) (sym at i) (words_in source) ∷ []))
      ∙ ap (λ (g : Gist). Done (g ∷ [])) (decided source _ own),
)
