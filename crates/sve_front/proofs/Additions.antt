-- What is read chunk by chunk, and unit by unit.
use Rattle.std.proofs.Common.{◌≡◌, ℕ, ◌+◌, ◌<◌, inl, inr, List, [], ◌∷◌, ◌++◌, length, drop, sym, ap, subst, ◌∙◌, append_assoc}
use Rattle.std.specs.List.{flat_map, slice_index_or}
use Rattle.std.proofs.lemmas.List.{append-nil}
use Rattle.sve_token.specs.declared.token.Token.{Token}
use Rattle.sve_index.specs.declared.source.FileElement.{FileElement}
use Rattle.sve_unit.specs.Chunks.{parts}
use Rattle.sve_text.specs.Rows.{Row}
use Rattle.sve_front.specs.Units.{unit_tokens}
use Rattle.sve_front.specs.Elements.{AreElements, AreElementsOf}
use Rattle.sve_front.specs.Readings.{ReadsChunk, Adds}
use Rattle.sve_front.proofs.Parts.{part_next}

-- what was added by now goes before whatever the rest adds
abbrev pub GoesOn : (List FileElement → Type 0) → (List FileElement → Type 0) → List FileElement → List FileElement → Type 0
GoesOn Whole Rest old new = (own : List FileElement) × (new ≡ old ++ own) × ((later : List FileElement) → Rest later → Whole (own ++ later))

pub begins : (Whole : List FileElement → Type 0) (old : List FileElement) → GoesOn Whole Whole old old
begins Whole old = ([], sym (append-nil old), λ later h. h)

pub ends : (Whole Rest : List FileElement → Type 0) (old new : List FileElement) → GoesOn Whole Rest old new → Rest [] → Adds Whole old new
ends Whole Rest old new (own, is, on) rest = (own, is, subst Whole (append-nil own) (on [] rest))

pub chunk_read : (file : List ℕ) (n : ℕ) (ts : List Token) (chunks : List (List Token)) (Whole : List FileElement → Type 0) (old now new : List FileElement)
    → GoesOn Whole (AreElements file n (ts ∷ chunks)) old now → ReadsChunk file n ts now new → GoesOn Whole (AreElements file (n + 1) chunks) old new
chunk_read file n ts chunks Whole old now new (own, is, on) (inl (source, element, added)) = (
  own ++ source ∷ [],
  added ∙ ap (λ (l : List FileElement). l ++ source ∷ []) is ∙ append_assoc old own (source ∷ []),
  λ later h. subst Whole (sym (append_assoc own (source ∷ []) later)) (on (source ∷ later) (AreElements.accepted element h)),
)
chunk_read file n ts chunks Whole old now new (own, is, on) (inr (h, stops, same)) = (
  own,
  same ∙ is,
  λ later rest. on later (AreElements.refused h stops rest),
)

pub unit_read : (rows : List Row) (name : List ℕ) (names : List (List ℕ)) (Whole : List FileElement → Type 0) (old now new : List FileElement)
    → GoesOn Whole (AreElementsOf rows (name ∷ names)) old now → Adds (AreElements name 0 (parts (unit_tokens rows name))) now new → GoesOn Whole (AreElementsOf rows names) old new
unit_read rows name names Whole old now new (own, is, on) (more, added, elements) = (
  own ++ more,
  added ∙ ap (λ (l : List FileElement). l ++ more) is ∙ append_assoc old own more,
  λ later h. subst Whole (sym (append_assoc own more later)) (on (more ++ later) (AreElementsOf.unit elements h)),
)

pub chunks_go_on : (file : List ℕ) (ps : List (List Token)) (n : ℕ) (old now new : List FileElement) → n < length ps
    → GoesOn (AreElements file 0 ps) (AreElements file n (drop n ps)) old now → ReadsChunk file n (slice_index_or ps n []) now new
    → GoesOn (AreElements file 0 ps) (AreElements file (n + 1) (drop (n + 1) ps)) old new
chunks_go_on file ps n old now new h so_far reads =
    chunk_read file n (slice_index_or ps n []) (drop (n + 1) ps) (AreElements file 0 ps) old now new
    (subst (λ (rest : List (List Token)). GoesOn (AreElements file 0 ps) (AreElements file n rest) old now) (part_next ps n h) so_far) reads

pub units_go_on : (rows : List Row) (names : List (List ℕ)) (i : ℕ) (name : List ℕ) (old now new : List FileElement) → drop i names ≡ name ∷ drop (i + 1) names
    → GoesOn (AreElementsOf rows names) (AreElementsOf rows (drop i names)) old now → Adds (AreElements name 0 (parts (unit_tokens rows name))) now new
    → GoesOn (AreElementsOf rows names) (AreElementsOf rows (drop (i + 1) names)) old new
units_go_on rows names i name old now new e so_far reads =
    unit_read rows name (drop (i + 1) names) (AreElementsOf rows names) old now new
    (subst (λ (rest : List (List ℕ)). GoesOn (AreElementsOf rows names) (AreElementsOf rows rest) old now) e so_far) reads

-- what each of a list gives, one behind the other
pub gives_on : {X Y : Type 0} (f : X → List Y) (xs : List X) (i : ℕ) (x : X) (whole now new : List Y) → drop i xs ≡ x ∷ drop (i + 1) xs
    → now ++ flat_map f (drop i xs) ≡ whole → new ≡ now ++ f x → new ++ flat_map f (drop (i + 1) xs) ≡ whole
gives_on {X} {Y} f xs i x whole now new e so_far more =
    ap (λ (l : List Y). l ++ flat_map f (drop (i + 1) xs)) more
    ∙ append_assoc now (f x) (flat_map f (drop (i + 1) xs))
    ∙ sym (ap (λ (l : List X). now ++ flat_map f l) e)
    ∙ so_far
