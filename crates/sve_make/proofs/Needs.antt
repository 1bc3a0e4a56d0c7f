-- What each kind of key may need, and the keys that it reads at some files (own).
use Rattle.std.specs.Prelude.{ℕ, zero, suc, ◌+◌, ◌≡◌, ◌<◌, ◌⊎◌, true, false, List, [], ◌∷◌, ◌++◌, length, Option, Some, None, refl}
use Rattle.std.proofs.Common.{ap, ◌∙◌, inl, inr, arith}
use Rattle.sve_text.specs.Files.{FilesValue}
use Rattle.sve_prep.specs.State.{State}
use Rattle.sve_prep.specs.Expansion.{Outcome, Wants, expand, fresh}
use Rattle.sve_told.specs.Seen.{seen_told}
use Rattle.sve_store.specs.Made.{Made, Needs, Done, values_of}
use Rattle.sve_store.specs.Values.{Gives, is_given, is_made, is_needed, IsValue, TellsLowerValues}
use Rattle.sve_key.specs.KeyOrder.{rank_of, key_cmp}
use Rattle.sve_key.specs.declared.key.Key.{Key}
use Rattle.sve_key.specs.declared.key.Key.TheVariants.{Text, Names, Tokens, Chunks, Element, Index}
use Rattle.sve_key.specs.declared.value.Value.{Value}
use Rattle.sve_key.specs.Values.{chunks_in_value}
use Rattle.sve_make.specs.Make.{with_key, then_made, joined, read_text, expansion_made, expanded, tokens_made, element_told, elements_told, unit_told, units_told, units_in, index_told, index_made, make_of, given_of, input_of}

-- ---- what a definition that goes on needs

pub then_needs : {V W : Type 0} (m : Made Key V) (f : V → W) (j : Key) → then_made m f ≡ Needs j → m ≡ Needs j
then_needs (Needs k) f j e = cc
then_needs (Done v) f j e = cc

key_needs : {V W : Type 0} (k : Key) (o : Option V) (rest : V → Made Key W) (j : Key) → with_key k o rest ≡ Needs j → ((o ≡ None) × (j ≡ k)) ⊎ ((v : V) × (o ≡ Some v) × (rest v ≡ Needs j))
key_needs k None rest j e = inl (refl, cc)
key_needs k (Some v) rest j e = inr (v, refl, e)

joined_needs : {X : Type 0} (m n : Made Key (List X)) (j : Key) → joined m n ≡ Needs j → (m ≡ Needs j) ⊎ (n ≡ Needs j)
joined_needs (Needs k) n j e = inl e
joined_needs (Done xs) n j e = inr (then_needs n (λ ys. xs ++ ys) j e)

text_needs : (o : Outcome) (j : Key) → expansion_made o ≡ Needs j → (name : List ℕ) × (s : State) × (o ≡ Wants name s) × (j ≡ Text name)
text_needs (Outcome.Done last) j e = cc
text_needs (Wants name s) j e = (name, s, refl, cc)

pub tokens_need : (told : (Key → Option Value)) (file : List ℕ) (j : Key) → expanded told file ≡ Needs j → (name : List ℕ) × (s : State) × (expand (seen_told Text read_text told) fresh None file ≡ Wants name s) × (j ≡ Text name)
tokens_need told file j e = text_needs _ j e

-- the element of a chunk of a unit, by its number
abbrev pub IsChunk : List ℕ → ℕ → ℕ → Key → Type 0
IsChunk file n left j = (i : ℕ) × (i < left) × (j ≡ Element file (n + i))

element_needs : (told : (Key → Option Value)) (file : List ℕ) (n : ℕ) (j : Key) → element_told told file n ≡ Needs j → (told j ≡ None) × (j ≡ Element file n)
element_needs told file n j e =
    elim (key_needs (Element file n) (told (Element file n)) _ j e) [
      | inl both ↦ (ap told both.1 ∙ both.0, both.1)
      | inr some ↦ (let never = some.2 in cc)
    ]

elements_need : (told : (Key → Option Value)) (file : List ℕ) (n left : ℕ) (j : Key) → elements_told told file n left ≡ Needs j → (told j ≡ None) × IsChunk file n left j
unfolding elements_told
elements_need told file n zero j e = cc
elements_need told file n (suc left) j e =
    elim (joined_needs (element_told told file n) (elements_told told file (n + 1) left) j e) [
      | inl here ↦ (let h = element_needs told file n j here in let same : n ≡ n + 0 = omega arith in (h.0, (0, omega arith, h.1 ∙ ap (Element file) same)))
      | inr later ↦ (let h = elements_need told file (n + 1) left j later in let at = h.1 in let i : ℕ = at.0 in let same : n + 1 + i ≡ n + suc i = omega arith in (h.0, (suc i, omega (arith, at.1), at.2 ∙ ap (Element file) same)))
    ]

-- the chunks of a unit, or an element of one
abbrev pub OfUnit : (Key → Option Value) → List ℕ → Key → Type 0
OfUnit told file j = (j ≡ Chunks file) ⊎ ((v : Value) × (told (Chunks file) ≡ Some v) × IsChunk file 0 (length (chunks_in_value v)) j)

unit_needs : (told : (Key → Option Value)) (file : List ℕ) (j : Key) → unit_told told file ≡ Needs j → (told j ≡ None) × OfUnit told file j
unit_needs told file j e =
    elim (key_needs (Chunks file) (told (Chunks file)) _ j e) [
      | inl both ↦ (ap told both.1 ∙ both.0, inl both.1)
      | inr some ↦ (let h = elements_need told file 0 (length (chunks_in_value some.0)) j some.2 in (h.0, inr (some.0, some.1, h.1)))
    ]

abbrev pub OfUnits : (Key → Option Value) → List (List ℕ) → Key → Type 0
OfUnits told [] j = ⊥
OfUnits told (file ∷ files) j = OfUnit told file j ⊎ OfUnits told files j

units_need : (told : (Key → Option Value)) (files : List (List ℕ)) (j : Key) → units_told told files ≡ Needs j → (told j ≡ None) × OfUnits told files j
unfolding units_told
units_need told [] j e = cc
units_need told (file ∷ files) j e =
    elim (joined_needs (unit_told told file) (units_told told files) j e) [
      | inl here ↦ (let h = unit_needs told file j here in (h.0, inl h.1))
      | inr later ↦ (let h = units_need told files j later in (h.0, inr h.1))
    ]

abbrev pub OfIndex : (Key → Option Value) → Key → Type 0
OfIndex told j = (j ≡ Names) ⊎ ((v : Value) × (told Names ≡ Some v) × OfUnits told (units_in v) j)

pub index_needs : (told : (Key → Option Value)) (j : Key) → index_told told ≡ Needs j → (told j ≡ None) × OfIndex told j
index_needs told j e =
    elim (key_needs Names (told Names) _ j e) [
      | inl both ↦ (ap told both.1 ∙ both.0, inl both.1)
      | inr some ↦ (let h = units_need told (units_in some.0) j some.2 in (h.0, inr (some.0, some.1, h.1)))
    ]

pub chunks_need : (told : (Key → Option Value)) (file : List ℕ) (j : Key) → make_of (Chunks file) 0 told ≡ Needs j → (told j ≡ None) × (j ≡ Tokens file)
chunks_need told file j e =
    elim (key_needs (Tokens file) (told (Tokens file)) _ j e) [
      | inl both ↦ (ap told both.1 ∙ both.0, both.1)
      | inr some ↦ (let never = some.2 in cc)
    ]

pub reading_needs : (told : (Key → Option Value)) (file : List ℕ) (n : ℕ) (j : Key) → make_of (Element file n) 0 told ≡ Needs j → (told j ≡ None) × ((j ≡ Tokens file) ⊎ (j ≡ Chunks file))
reading_needs told file n j e =
    elim (key_needs (Tokens file) (told (Tokens file)) _ j e) [
      | inl both ↦ (ap told both.1 ∙ both.0, inl both.1)
      | inr some ↦ elim (key_needs (Chunks file) (told (Chunks file)) _ j some.2) [
        | inl both ↦ (ap told both.1 ∙ both.0, inr both.1)
        | inr more ↦ (let never = more.2 in cc)
      ]
    ]

-- ---- no kind looks at the fuel

pub same_fuel : (k : Key) (f g : ℕ) (told : (Key → Option Value)) → make_of k f told ≡ make_of k g told
same_fuel (Text name) f g told = refl
same_fuel Names f g told = refl
same_fuel (Tokens name) f g told = refl
same_fuel (Chunks name) f g told = refl
same_fuel (Element name n) f g told = refl
same_fuel Index f g told = refl

pub free : (k : Key) (f : ℕ) (told : (Key → Option Value)) (j : Key) → make_of k f told ≡ Needs j → (g : ℕ) (others : (Key → Option Value)) → make_of j g others ≡ make_of j 0 others
free k f told j needs g others = same_fuel j g 0 others

pub at_other_fuel : (files : FilesValue) (k : Key) (f g : ℕ) (v : Value) → IsValue key_cmp (values_of (given_of files)) make_of k g v → true ≡ true → IsValue key_cmp (values_of (given_of files)) make_of k f v
at_other_fuel files k f g v is serves = (is.0, by is.1)
  where
    by : {told : List (Key × Value)} {rs : List Key} → Gives key_cmp (values_of (given_of files)) make_of k g told v rs → Gives key_cmp (values_of (given_of files)) make_of k f told v rs
    by (is_given some) = is_given some
    by (is_made none done) = is_made none (same_fuel k f g _ ∙ done)
    by (is_needed none needs first rest) = is_needed none (same_fuel k f g _ ∙ needs) first (by rest)

-- ---- each key needs keys of lower rank

chunk_rank : (file : List ℕ) (n left : ℕ) (j : Key) → IsChunk file n left j → rank_of j ≡ 5
chunk_rank file n left j at = ap rank_of at.2

unit_rank : (told : (Key → Option Value)) (file : List ℕ) (j : Key) → OfUnit told file j → rank_of j < 6
unit_rank told file j (inl e) = omega (arith, ap rank_of e)
unit_rank told file j (inr some) = omega (arith, chunk_rank file 0 _ j some.2)

units_rank : (told : (Key → Option Value)) (files : List (List ℕ)) (j : Key) → OfUnits told files j → rank_of j < 6
units_rank told [] j of = absurd of
units_rank told (file ∷ files) j (inl of) = unit_rank told file j of
units_rank told (file ∷ files) j (inr of) = units_rank told files j of

index_rank : (told : (Key → Option Value)) (j : Key) → OfIndex told j → rank_of j < 6
index_rank told j (inl e) = omega (arith, ap rank_of e)
index_rank told j (inr some) = units_rank told (units_in some.0) j some.2

pub lower_rank : (k : Key) (f : ℕ) (told : (Key → Option Value)) (j : Key) → input_of k ≡ false → make_of k f told ≡ Needs j → rank_of j < rank_of k
lower_rank (Text name) f told j computed e = cc
lower_rank Names f told j computed e = cc
lower_rank (Tokens name) f told j computed e = let h = tokens_need told name j (then_needs (expanded told name) tokens_made j e) in omega (arith, ap rank_of h.3)
lower_rank (Chunks name) f told j computed e = omega (arith, ap rank_of (chunks_need told name j e).1)
lower_rank (Element name n) f told j computed e =
    elim (reading_needs told name n j e).1 [ inl is ↦ omega (arith, ap rank_of is) | inr is ↦ omega (arith, ap rank_of is) ]
lower_rank Index f told j computed e = index_rank told j (index_needs told j (then_needs (index_told told) index_made j e)).1

pub lower : (files : FilesValue) (k : Key) (f : ℕ) (told : (Key → Option Value)) (j : Key) → input_of k ≡ false → TellsLowerValues key_cmp (values_of (given_of files)) make_of rank_of (rank_of k) told → make_of k f told ≡ Needs j → rank_of j < rank_of k
lower files k f told j computed tells e = lower_rank k f told j computed e

pub higher : (files : FilesValue) (k j : Key) → rank_of j < rank_of k → rank_of j < rank_of k
higher files k j low = low
