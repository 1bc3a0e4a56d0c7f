-- Tops depend on nothing but the names that are there and their texts.
use Rattle.std.specs.Prelude.{ℕ, zero, suc, ◌+◌, ◌≡◌, List, ◌++◌, length, Some, None, refl}
use Rattle.std.proofs.Common.{ap, ◌∙◌}
use Rattle.std.specs.List.{filter, flat_map, slice_get}
use Rattle.sve_token.specs.declared.token.Token.{Token}
use Rattle.sve_lex.specs.Tokens.{tokens}
use Rattle.sve_prep.specs.Told.{Told}
use Rattle.sve_prep.specs.Expansion.{expand, fresh}
use Rattle.sve_unit.specs.Chunks.{chunks_of}
use Rattle.sve_text.specs.Rows.{Row, text_of}
use Rattle.sve_front.specs.Expansions.{told_by, state_in}
use Rattle.sve_front.specs.Units.{is_unit_name}
use Rattle.sve_gist.specs.Index.{index_of_gists}
use Rattle.sve_key.specs.Parts.{names_there}
use Rattle.sve_make.specs.Make.{gists_in, reading_at}
use Rattle.sve_make.specs.AtFiles.{tokens_at, chunks_at}
use Rattle.sve_make.specs.IndexAt.{chunk_gist, chunk_gists, unit_gists}
use Rattle.sve_query.specs.AnswersAt.{index_at}

module _ (a b : List Row) (texts : (name : List ℕ) → text_of a name ≡ text_of b name) (names : names_there a ≡ names_there b) where
  told_same : told_by a ≡ told_by b
  told_same = λ i name. Some (texts name i)

  tokens_same : (file : List ℕ) → tokens_at a file ≡ tokens_at b file
  tokens_same file = ap (λ (told : Told). tokens (state_in (expand told fresh None file)).out) told_same

  chunk_same : (file : List ℕ) (n : ℕ) → chunk_gist a file n ≡ chunk_gist b file n
  chunk_same file n = ap (λ (ts : List Token). gists_in file n (reading_at ts (slice_get (chunks_of ts) n))) (tokens_same file)

  chunks_same : (file : List ℕ) (n left : ℕ) → chunk_gists a file n left ≡ chunk_gists b file n left
  unfolding chunk_gists
  chunks_same file n zero = refl
  chunks_same file n (suc left) = λ i. chunk_same file n i ++ chunks_same file (n + 1) left i

  unit_same : (file : List ℕ) → unit_gists a file ≡ unit_gists b file
  unit_same file = ap (λ (ts : List Token). chunk_gists a file 0 (length (chunks_of ts))) (tokens_same file) ∙ chunks_same file 0 (length (chunks_at b file))

  pub index_same : index_at a ≡ index_at b
  index_same = λ i. index_of_gists (flat_map (λ file. unit_same file i) (filter is_unit_name (names i)))
