-- The chunks of a file by the numbers of their tokens.
use Rattle.std.proofs.Common.{◌≡◌, ℕ, zero, suc, ◌+◌, ◌-◌, ◌≤◌, ◌<◌, List, [], ◌∷◌, ◌++◌, length, take, drop, Some, None, true, false, cond, refl, sym, ap, subst, ◌∙◌, arith, add-one, get_or, append_assoc, length-append}
use Rattle.std.specs.List.{slice_get, slice_index_or}
use Rattle.std.proofs.lemmas.Option.{slice_get_read, slice_get_past}
use Rattle.std.proofs.Math.Seq.{drop-append_seam, take-append_seam}
use Rattle.sve_token.specs.declared.token.Token.{Token}
use Rattle.sve_unit.specs.declared.chunk.Chunk.{Chunk}
use Rattle.sve_unit.specs.Chunks.{chunks_of, ends_chunk, is_label, joined, parts, spans, with_first}
use Rattle.sve_unit.proofs.Parts.{joined_parts}

-- the tokens between two numbers
abbrev pub between : List Token → Chunk → List Token
between ts c = take (c.to - c.from) (drop c.from ts)

pub record IsPart (ts : List Token) (ps : List (List Token)) (n : ℕ) (c : Chunk) : Type 0 where
  pub tokens : between ts c ≡ slice_index_or ps n []
  pub forward : c.from ≤ c.to
  pub within : c.to ≤ length ts

first_part : (front p : List Token) (ps : List (List Token)) → IsPart (front ++ (p ++ joined ps)) (p ∷ ps) zero (record { from = length front; to = length front + length p })
first_part front p ps =
    let long : length (front ++ (p ++ joined ps)) ≡ length front + (length p + length (joined ps)) = length-append front (p ++ joined ps) ∙ ap (λ (n : ℕ). length front + n) (length-append p (joined ps)) in
    let size : length front + length p - length front ≡ length p = omega arith in record {
      tokens =
          ap (λ (n : ℕ). take n (drop (length front) (front ++ (p ++ joined ps)))) size
          ∙ ap (take (length p)) (drop-append_seam front (p ++ joined ps))
          ∙ take-append_seam p (joined ps);
      forward = omega arith;
      within = omega (arith, long);
    }

-- the chunk of a number has the tokens of that part; some tokens stand in front
part_at : (front : List Token) (ps : List (List Token)) (n : ℕ) (c : Chunk) → slice_get (spans (length front) ps) n ≡ Some c → IsPart (front ++ joined ps) ps n c
unfolding spans
part_at front [] n c h = cc
part_at front (p ∷ ps) zero c h =
    let is : record { from = length front; to = length front + length p } ≡ c = cc (h) in
    subst (IsPart (front ++ (p ++ joined ps)) (p ∷ ps) zero) is (first_part front p ps)
part_at front (p ∷ ps) (suc n) c h =
    let later = part_at (front ++ p) ps n c (subst (λ (k : ℕ). slice_get (spans k ps) n ≡ Some c) (sym (length-append front p)) h) in
    let same : (front ++ p) ++ joined ps ≡ front ++ (p ++ joined ps) = append_assoc front p (joined ps) in record {
      tokens = ap (λ (ts : List Token). between ts c) (sym same) ∙ later.tokens;
      forward = later.forward;
      within = subst (λ (ts : List Token). c.to ≤ length ts) same later.within;
    }

no_part : (from : ℕ) (ps : List (List Token)) (n : ℕ) → slice_get (spans from ps) n ≡ None → slice_index_or ps n [] ≡ []
unfolding spans
no_part from [] n h = refl
no_part from (p ∷ ps) zero h = cc
no_part from (p ∷ ps) (suc n) h = no_part (from + length p) ps n h

pub chunk_is_part : (ts : List Token) (n : ℕ) (c : Chunk) → slice_get (chunks_of ts) n ≡ Some c → IsPart ts (parts ts) n c
chunk_is_part ts n c h = subst (λ (us : List Token). IsPart us (parts ts) n c) (joined_parts ts) (part_at [] (parts ts) n c h)

pub no_chunk_no_part : (ts : List Token) (n : ℕ) → slice_get (chunks_of ts) n ≡ None → slice_index_or (parts ts) n [] ≡ []
no_chunk_no_part ts n h = no_part 0 (parts ts) n h

pub as_many : (from : ℕ) (ps : List (List Token)) → length (spans from ps) ≡ length ps
unfolding spans
as_many from [] = refl
as_many from (p ∷ ps) = ap suc (as_many (from + length p) ps)

few_with_first : (t : Token) (ps : List (List Token)) → length (with_first t ps) ≤ suc (length ps)
few_with_first t [] = omega arith
few_with_first t (p ∷ ps) = omega arith

-- no chunk is empty
pub few_parts : (ts : List Token) → length (parts ts) ≤ length ts
unfolding parts
few_parts [] = omega arith
few_parts (t ∷ []) = omega arith
few_parts (t ∷ u ∷ []) =
    elim (ends_chunk t) as (λ b. length (cond b ((t ∷ []) ∷ parts (u ∷ [])) (with_first t (parts (u ∷ [])))) ≤ 2) [
      | true ↦ omega (arith, few_parts (u ∷ []))
      | false ↦ omega (arith, few_with_first t (parts (u ∷ [])), few_parts (u ∷ []))
    ]
few_parts (t ∷ u ∷ v ∷ ts) =
    elim (ends_chunk t) as (λ b. length (cond b (cond (is_label u v) ((t ∷ u ∷ v ∷ []) ∷ parts ts) ((t ∷ []) ∷ parts (u ∷ v ∷ ts))) (with_first t (parts (u ∷ v ∷ ts)))) ≤ length (t ∷ u ∷ v ∷ ts)) [
      | true ↦ elim (is_label u v) as (λ l. length (cond l ((t ∷ u ∷ v ∷ []) ∷ parts ts) ((t ∷ []) ∷ parts (u ∷ v ∷ ts))) ≤ length (t ∷ u ∷ v ∷ ts)) [
        | true ↦ omega (arith, few_parts ts)
        | false ↦ omega (arith, few_parts (u ∷ v ∷ ts))
      ]
      | false ↦ omega (arith, few_with_first t (parts (u ∷ v ∷ ts)), few_parts (u ∷ v ∷ ts))
    ]

-- and so chunks are no more than tokens
pub few_chunks : (ts : List Token) → length (chunks_of ts) ≤ length ts
few_chunks ts = omega (arith, as_many 0 (parts ts), few_parts ts)

-- what a chunk of a file's list of chunks is
pub part_of_chunk : (ts : List Token) (chunks : List Chunk) (n : ℕ) (c : Chunk) → chunks ≡ chunks_of ts → n < length chunks → c ≡ get_or chunks n c → IsPart ts (parts ts) n c
part_of_chunk ts chunks n c cut h is = chunk_is_part ts n c (subst (λ (cs : List Chunk). slice_get cs n ≡ Some c) cut (slice_get_read chunks (length chunks) n c refl h is))

pub no_part_past : (ts : List Token) (chunks : List Chunk) (n : ℕ) → chunks ≡ chunks_of ts → length chunks ≤ n → [] ≡ slice_index_or (parts ts) n []
no_part_past ts chunks n cut h = sym (no_chunk_no_part ts n (subst (λ (cs : List Chunk). slice_get cs n ≡ None) cut (slice_get_past chunks n h)))

part_then : (ps : List (List Token)) (n : ℕ) → n < length ps → drop n ps ≡ slice_index_or ps n [] ∷ drop (suc n) ps
part_then [] n h = absurd (omega (arith, h))
part_then (p ∷ ps) zero h = refl
part_then (p ∷ ps) (suc n) h = part_then ps n (omega (arith, h))

-- the parts from a number on: the part of that number, and the later ones
pub part_next : (ps : List (List Token)) (n : ℕ) → n < length ps → drop n ps ≡ slice_index_or ps n [] ∷ drop (n + 1) ps
part_next ps n h = part_then ps n h ∙ ap (λ (k : ℕ). slice_index_or ps n [] ∷ drop k ps) (sym (add-one n))
