-- What the front end finds at some files is what the keys say there (own).
use Rattle.std.specs.Prelude.{ℕ, zero, suc, ◌+◌, ◌≡◌, ◌<◌, ◌≤◌, List, [], ◌∷◌, ◌++◌, length, map, drop, Some, refl}
use Rattle.std.proofs.Common.{sym, ap, ◌∙◌, arith, add-one, inl, inr}
use Rattle.std.proofs.Math.Seq.{drop-cons}
use Rattle.std.proofs.lemmas.Bool.{le-leb}
use Rattle.std.proofs.lemmas.Option.{slice_get_cases}
use Rattle.std.specs.List.{flat_map, slice_get, slice_index_or, slice_range}
use Rattle.sve_token.specs.declared.token.Token.{Token}
use Rattle.sve_unit.specs.declared.chunk.Chunk.{Chunk}
use Rattle.sve_unit.specs.Chunks.{parts, chunks_of}
use Rattle.sve_index.specs.declared.source.FileElement.{FileElement}
use Rattle.sve_text.specs.Rows.{Row}
use Rattle.sve_front.specs.Elements.{AreElementsOf}
use Rattle.sve_front.specs.Units.{unit_tokens}
use Rattle.sve_front.proofs.Parts.{chunk_is_part, as_many}
use Rattle.sve_gist.specs.Gists.{Gist, gist_of}
use Rattle.sve_make.specs.Make.{part_of, reading_at, reading_of, gists_in}
use Rattle.sve_make.specs.AtFiles.{tokens_at, chunks_at}
use Rattle.sve_make.specs.IndexAt.{chunk_gist, chunk_gists, unit_gists}
use Rattle.sve_make.proofs.FromElements.{parts_gists, elements_gists}

within_by : (ts : List Token) (c : Chunk) → c.from ≤ c.to → c.to ≤ length ts → part_of ts c ≡ slice_range ts c.from c.to
within_by ts c forward within = rw (le-leb c.from c.to forward, le-leb c.to (length ts) within) refl

module _ (file : List ℕ) (ts : List Token) where
  -- the tokens of the chunk with a number are those of the part with that number
  pub part_tokens : (n : ℕ) (c : Chunk) → slice_get (chunks_of ts) n ≡ Some c → part_of ts c ≡ slice_index_or (parts ts) n []
  part_tokens n c is = let part = chunk_is_part ts n c is in within_by ts c part.forward part.within ∙ part.tokens

  -- and so it is read as that part
  pub chunk_reads : (n : ℕ) → n < length (parts ts) → reading_at ts (slice_get (chunks_of ts) n) ≡ reading_of (slice_index_or (parts ts) n [])
  chunk_reads n low =
      elim (slice_get_cases (chunks_of ts) n).1 [
        | inl there ↦ ap (reading_at ts) there.2 ∙ ap reading_of (part_tokens n there.0 there.2)
        | inr past ↦ absurd (omega (arith, past.0, as_many 0 (parts ts)))
      ]

  -- of so many chunks, from this one on
  unfoldable pub gists_by : ℕ → ℕ → List Gist
  gists_by n zero = []
  gists_by n (suc left) = gists_in file n (reading_at ts (slice_get (chunks_of ts) n)) ++ gists_by (n + 1) left

  pub first_part : (n : ℕ) (q : List Token) (qs : List (List Token)) → drop n (parts ts) ≡ q ∷ qs → n < length (parts ts) → slice_index_or (parts ts) n [] ≡ q
  first_part n q qs e low = let both : slice_index_or (parts ts) n [] ∷ drop (suc n) (parts ts) ≡ q ∷ qs = sym (drop-cons (parts ts) n [] low) ∙ e in cc

  pub other_parts : (n : ℕ) (q : List Token) (qs : List (List Token)) → drop n (parts ts) ≡ q ∷ qs → n < length (parts ts) → drop (n + 1) (parts ts) ≡ qs
  other_parts n q qs e low =
      let both : slice_index_or (parts ts) n [] ∷ drop (suc n) (parts ts) ≡ q ∷ qs = sym (drop-cons (parts ts) n [] low) ∙ e in
      let rest : drop (suc n) (parts ts) ≡ qs = cc in
      ap (λ (k : ℕ). drop k (parts ts)) (add-one n) ∙ rest

  gists_from : (n : ℕ) (qs : List (List Token)) → drop n (parts ts) ≡ qs → n + length qs ≡ length (parts ts) → parts_gists file n qs ≡ gists_by n (length qs)
  unfolding gists_by
  gists_from n [] e l = refl
  gists_from n (q ∷ qs) e l =
      let low : n < length (parts ts) = omega (arith, l) in
      let first : reading_of q ≡ reading_at ts (slice_get (chunks_of ts) n) = ap reading_of (sym (first_part n q qs e low)) ∙ sym (chunk_reads n low) in
      λ i. gists_in file n (first i) ++ gists_from (n + 1) qs (other_parts n q qs e low) (omega (arith, l)) i

chunk_gists_are : (rows : List Row) (file : List ℕ) (n left : ℕ) → gists_by file (tokens_at rows file) n left ≡ chunk_gists rows file n left
unfolding gists_by chunk_gists
chunk_gists_are rows file n zero = refl
chunk_gists_are rows file n (suc left) = ap (λ (gs : List Gist). chunk_gist rows file n ++ gs) (chunk_gists_are rows file (n + 1) left)

pub unit_gists_are : (rows : List Row) (file : List ℕ) → parts_gists file 0 (parts (unit_tokens rows file)) ≡ unit_gists rows file
unit_gists_are rows file =
    let ts = tokens_at rows file in
    gists_from file ts 0 (parts ts) refl (omega arith)
    ∙ ap (gists_by file ts 0) (sym (as_many 0 (parts ts)))
    ∙ chunk_gists_are rows file 0 (length (chunks_at rows file))

map_append : (xs ys : List FileElement) → map gist_of (xs ++ ys) ≡ map gist_of xs ++ map gist_of ys
map_append [] ys = refl
map_append (x ∷ xs) ys = ap (λ (gs : List Gist). gist_of x ∷ gs) (map_append xs ys)

-- the elements of units are of the gists that their words have
pub units_gists : (rows : List Row) (names : List (List ℕ)) (sources : List FileElement) → AreElementsOf rows names sources → map gist_of sources ≡ flat_map (unit_gists rows) names
units_gists rows [] sources AreElementsOf.no_unit = refl
units_gists rows names sources (AreElementsOf.unit {name = name} {names = others} {own = own} {others = rest} are more) =
    map_append own rest
    ∙ (λ i. (elements_gists name 0 (parts (unit_tokens rows name)) own are ∙ unit_gists_are rows name) i ++ units_gists rows others rest more i)
