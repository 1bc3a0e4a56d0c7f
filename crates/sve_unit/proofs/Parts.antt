-- The first chunk and the others; all chunks joined.
use Rattle.std.proofs.Common.{◌≡◌, ◌∙◌, sym, ap, refl, ℕ, suc, ◌+◌, ◌<◌, ◌≤◌, true, false, cond, List, [], ◌∷◌, ◌++◌, length, drop, take, arith, append_assoc}
use Rattle.std.proofs.lemmas.List.{append-nil, drop_all, drop-drop, length-drop}
use Rattle.sve_token.specs.declared.token.Token.{Token}
use Rattle.sve_unit.specs.declared.chunk.Chunk.{Chunk}
use Rattle.sve_unit.specs.Chunks.{chunks_of, ends_chunk, is_label, with_first, parts, spans, joined, label_size, first_size}

-- a token that ends no chunk stands in that of the token behind it
goes_on : (t : Token) (ts : List Token) → ends_chunk t ≡ false → parts (t ∷ ts) ≡ with_first t (parts ts)
unfolding parts
goes_on t [] e = refl
goes_on t (u ∷ []) e = rw e refl
goes_on t (u ∷ v ∷ ts) e = rw e refl

-- an end word ends its chunk, with the label behind it
ends : (t : Token) (ts : List Token) → ends_chunk t ≡ true → parts (t ∷ ts) ≡ (t ∷ take (label_size ts) ts) ∷ parts (drop (label_size ts) ts)
unfolding parts
ends t [] e = refl
ends t (u ∷ []) e = rw e refl
ends t (u ∷ v ∷ ts) e =
    rw e
    (elim (is_label u v) as (λ b. cond b ((t ∷ u ∷ v ∷ []) ∷ parts ts) ((t ∷ []) ∷ parts (u ∷ v ∷ ts)) ≡ (t ∷ take (cond b 2 0) (u ∷ v ∷ ts)) ∷ parts (drop (cond b 2 0) (u ∷ v ∷ ts))) [ true ↦ refl | false ↦ refl ])

label_within : (ts : List Token) → length (take (label_size ts) ts) ≡ label_size ts
label_within [] = refl
label_within (u ∷ []) = refl
label_within (u ∷ v ∷ ts) = elim (is_label u v) as (λ b. length (take (cond b 2 0) (u ∷ v ∷ ts)) ≡ cond b 2 0) [ true ↦ refl | false ↦ refl ]

-- the first chunk of tokens that are not none
record First (ts : List Token) : Type 0 where
  pub chunk : List Token
  pub is : parts ts ≡ chunk ∷ parts (drop (first_size ts) ts)
  pub size : length chunk ≡ first_size ts

first_ends : (t : Token) (ts : List Token) → ends_chunk t ≡ true → First (t ∷ ts)
unfolding first_size
first_ends t ts e = record {
  chunk = t ∷ take (label_size ts) ts;
  is = rw e (ends t ts e);
  size = rw e (ap suc (label_within ts));
}

alone : (t : Token) → ends_chunk t ≡ false → First (t ∷ [])
unfolding first_size parts
alone t e = record {
  chunk = t ∷ [];
  is = rw e refl;
  size = rw e refl;
}

first_goes_on : (t : Token) (ts : List Token) → ends_chunk t ≡ false → First ts → First (t ∷ ts)
unfolding first_size
first_goes_on t ts e f = record {
  chunk = t ∷ f.chunk;
  is = rw e (goes_on t ts e ∙ ap (with_first t) f.is);
  size = rw e (ap suc f.size);
}

first_of : (t : Token) (ts : List Token) → First (t ∷ ts)
first_of t [] = elim (ends_chunk t) as (λ b. ends_chunk t ≡ b → First (t ∷ [])) [ true ↦ λ e. first_ends t [] e | false ↦ λ e. alone t e ] refl
first_of t (u ∷ ts) = elim (ends_chunk t) as (λ b. ends_chunk t ≡ b → First (t ∷ u ∷ ts)) [ true ↦ λ e. first_ends t (u ∷ ts) e | false ↦ λ e. first_goes_on t (u ∷ ts) e (first_of u ts) ] refl

spans_of : (from : ℕ) (ts : List Token) → First ts → spans from (parts ts) ≡ record { from = from; to = from + first_size ts } ∷ spans (from + first_size ts) (parts (drop (first_size ts) ts))
unfolding spans
spans_of from ts f = rw (f.is, f.size) refl

not_none : (ts : List Token) → 0 < length ts → First ts
not_none [] h = absurd (omega arith)
not_none (t ∷ ts) h = first_of t ts

-- the chunk that begins at a token, and those behind it
pub next_chunk : (from : ℕ) (ts : List Token) → 0 < length (drop from ts) → spans from (parts (drop from ts)) ≡ record { from = from; to = from + first_size (drop from ts) } ∷ spans (from + first_size (drop from ts)) (parts (drop (from + first_size (drop from ts)) ts))
next_chunk from ts h = spans_of from (drop from ts) (not_none (drop from ts) h) ∙ ap (λ l. (record { from = from; to = from + first_size (drop from ts) }) ∷ spans (from + first_size (drop from ts)) (parts l)) (drop-drop (first_size (drop from ts)) from ts)

joined_first : (t : Token) (chunks : List (List Token)) → joined (with_first t chunks) ≡ t ∷ joined chunks
joined_first t [] = refl
joined_first t (chunk ∷ chunks) = refl

pub joined_parts : (ts : List Token) → joined (parts ts) ≡ ts
unfolding parts
joined_parts [] = refl
joined_parts (t ∷ []) = refl
joined_parts (t ∷ u ∷ []) =
    elim (ends_chunk t) as (λ b. joined (cond b ((t ∷ []) ∷ parts (u ∷ [])) (with_first t (parts (u ∷ [])))) ≡ t ∷ u ∷ []) [
      | true ↦ ap (λ l. t ∷ l) (joined_parts (u ∷ []))
      | false ↦ joined_first t (parts (u ∷ [])) ∙ ap (λ l. t ∷ l) (joined_parts (u ∷ []))
    ]
joined_parts (t ∷ u ∷ v ∷ ts) =
    elim (ends_chunk t) as (λ b. joined (cond b (cond (is_label u v) ((t ∷ u ∷ v ∷ []) ∷ parts ts) ((t ∷ []) ∷ parts (u ∷ v ∷ ts))) (with_first t (parts (u ∷ v ∷ ts)))) ≡ t ∷ u ∷ v ∷ ts) [
      | true ↦ elim (is_label u v) as (λ l. joined (cond l ((t ∷ u ∷ v ∷ []) ∷ parts ts) ((t ∷ []) ∷ parts (u ∷ v ∷ ts))) ≡ t ∷ u ∷ v ∷ ts) [
        | true ↦ ap (λ l. t ∷ u ∷ v ∷ l) (joined_parts ts)
        | false ↦ ap (λ l. t ∷ l) (joined_parts (u ∷ v ∷ ts))
      ]
      | false ↦ joined_first t (parts (u ∷ v ∷ ts)) ∙ ap (λ l. t ∷ l) (joined_parts (u ∷ v ∷ ts))
    ]

-- a chunk more
pub pushed : (done now : List Chunk) (from to : ℕ) (ts : List Token) → from < length ts → to ≡ from + first_size (drop from ts) → now ≡ done ++ record { from = from; to = to } ∷ [] → done ++ spans from (parts (drop from ts)) ≡ chunks_of ts → now ++ spans to (parts (drop to ts)) ≡ chunks_of ts
pushed done now from to ts h e n so_far =
    let some : 0 < length (drop from ts) = omega (arith, length-drop from ts) in
    let step : spans from (parts (drop from ts)) ≡ record { from = from; to = to } ∷ spans to (parts (drop to ts)) = rw e (next_chunk from ts some) in
    ap (λ (l : List Chunk). l ++ spans to (parts (drop to ts))) n
    ∙ append_assoc done (record { from = from; to = to } ∷ []) (spans to (parts (drop to ts)))
    ∙ ap (λ (l : List Chunk). done ++ l) (sym step)
    ∙ so_far

-- behind the last token there is no chunk
pub finished : (done : List Chunk) (from : ℕ) (ts : List Token) → length ts ≤ from → done ++ spans from (parts (drop from ts)) ≡ chunks_of ts → done ≡ chunks_of ts
unfolding parts spans
finished done from ts h so_far =
    let none : spans from (parts (drop from ts)) ≡ [] = rw (drop_all from ts h) refl in
    sym (ap (λ (l : List Chunk). done ++ l) none ∙ append-nil done) ∙ so_far
