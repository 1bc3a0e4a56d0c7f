-- A step is spelled in two ways at most, and a text tells where its first step ends.
use Rattle.std.proofs.Common.{◌≡◌, ◌∙◌, inl, inr, ℕ, suc, ◌<◌, ◌^◌, ℤ, pos, negsuc, Bool, true, false, not, ◌||◌, ◌==◌, Option, Some, None, List, [], ◌∷◌, ◌++◌, refl, sym, ap, append_assoc, arith}
use Rattle.std.proofs.lemmas.Bool.{and_parts, and_from, false≢true}
use Rattle.std.proofs.lemmas.Fmt.{digits_decimal, signed_decimal_injective}
use Rattle.std.proofs.lemmas.Int.{ints}
use Rattle.std.proofs.lemmas.Str.Parse.{IsNumeralModel, numerals_by_value, tells_all_ascii_digits}
use Rattle.std.specs.Char.{is_ascii_digit, is_ascii_graphic}
use Rattle.std.specs.Fmt.{decimal, signed_decimal}
use Rattle.std.specs.Int.{is_in_range}
use Rattle.std.specs.Int.Signed.{mag}
use Rattle.std.specs.List.{list_all}
use Rattle.std.specs.Str.{all_ascii_digits}
use Rattle.std.specs.Str.Parse.{digits_value}
use Rattle.sve_bytes.specs.declared.path.Step.{Step}
use Rattle.sve_bytes.specs.Bytes.{begins_identifier, continues_identifier}
use Rattle.sve_bytes.specs.PathReading.{IsIndex, SpellsName, SpellsStep}
use Rattle.sve_bytes.specs.PathText.{has_form_of_identifier, is_simple_identifier, escaped, index_text}
use Rattle.sve_bytes.specs.Keywords.{is_keyword_text}
use Rattle.sve_bytes.proofs.TextSplits.{Stops, same_split}

-- ---- the bytes of identifiers

either_of_five : (a b c d e : Bool) → ((a || b) || c) ≡ true → ((((d || a) || b) || c) || e) ≡ true
either_of_five a b c true e h = refl
either_of_five true b c false e h = refl
either_of_five false true c false e h = refl
either_of_five false false true false e h = refl
either_of_five false false false false e h = absurd (false≢true h)

pub part_of_first : (b : ℕ) → begins_identifier b ≡ true → continues_identifier b ≡ true
part_of_first b h = either_of_five (is_in_range 65 90 b) (is_in_range 97 122 b) (b == 95) (is_in_range 48 57 b) (b == 36) h

pub parts_of_form : (name : List ℕ) → has_form_of_identifier name ≡ true → list_all continues_identifier name ≡ true
parts_of_form [] h = absurd (false≢true h)
parts_of_form (b ∷ bs) h =
    let both = and_parts (begins_identifier b) (list_all continues_identifier bs) h in
    and_from (continues_identifier b) (list_all continues_identifier bs) (part_of_first b both.0) both.1

pub form_of_simple : (name : List ℕ) → is_simple_identifier name ≡ true → has_form_of_identifier name ≡ true
form_of_simple name h = (and_parts (has_form_of_identifier name) (not (is_keyword_text name)) h).0

pub parts_of_simple : (name : List ℕ) → is_simple_identifier name ≡ true → list_all continues_identifier name ≡ true
parts_of_simple name h = parts_of_form name (form_of_simple name h)

-- no simple identifier begins with a backslash
pub no_form : (name r : List ℕ) (q : List ℕ) → has_form_of_identifier name ≡ true → name ++ q ≡ 92 ∷ r → ⊥
no_form [] r q h e = false≢true h
no_form (b ∷ bs) r q h e =
    let same : b ≡ 92 = cc in
    false≢true (sym (ap begins_identifier same) ∙ (and_parts (begins_identifier b) (list_all continues_identifier bs) h).0)

-- ---- names

pub escaped_then : (name q : List ℕ) → escaped name ++ q ≡ 92 ∷ name ++ 32 ∷ q
escaped_then name q = append_assoc (92 ∷ name) (32 ∷ []) q

pub names_agree : (t n u m q r : List ℕ) → SpellsName t n → SpellsName u m → Stops continues_identifier q → Stops continues_identifier r → t ++ q ≡ u ++ r → (t ≡ u) × (n ≡ m) × (q ≡ r)
names_agree t n u m q r (inl a) (inl b) hq hr e =
    let texts : n ++ q ≡ m ++ r = ap (λ (x : List ℕ). x ++ q) (sym a.1) ∙ e ∙ ap (λ (x : List ℕ). x ++ r) b.1 in
    let both = same_split continues_identifier n m q r (parts_of_simple n a.0) (parts_of_simple m b.0) hq hr texts in
    (a.1 ∙ both.0 ∙ sym b.1, both.0, both.1)
names_agree t n u m q r (inl a) (inr b) hq hr e =
    absurd (no_form n (m ++ 32 ∷ r) q (form_of_simple n a.0) (ap (λ (x : List ℕ). x ++ q) (sym a.1) ∙ e ∙ ap (λ (x : List ℕ). x ++ r) b.1 ∙ escaped_then m r))
names_agree t n u m q r (inr a) (inl b) hq hr e =
    absurd (no_form m (n ++ 32 ∷ q) r (form_of_simple m b.0) (ap (λ (x : List ℕ). x ++ r) (sym b.1) ∙ sym e ∙ ap (λ (x : List ℕ). x ++ q) a.1 ∙ escaped_then n q))
names_agree t n u m q r (inr a) (inr b) hq hr e =
    let texts : 92 ∷ n ++ 32 ∷ q ≡ 92 ∷ m ++ 32 ∷ r = sym (escaped_then n q) ∙ ap (λ (x : List ℕ). x ++ q) (sym a.1) ∙ e ∙ ap (λ (x : List ℕ). x ++ r) b.1 ∙ escaped_then m r in
    let tails : n ++ 32 ∷ q ≡ m ++ 32 ∷ r = cc in
    let both = same_split is_ascii_graphic n m (32 ∷ q) (32 ∷ r) a.0 b.0 refl refl tails in
    let rests : 32 ∷ q ≡ 32 ∷ r = both.1 in
    let after : q ≡ r = cc in
    (a.1 ∙ ap escaped both.0 ∙ sym b.1, both.0, after)

-- ---- indices

abbrev pub is_in_number : ℕ → Bool
is_in_number b = is_ascii_digit b || b == 45

own : IsNumeralModel (λ ds. all_ascii_digits ds ≡ true) (digits_value 10)
own = numerals_by_value _ tells_all_ascii_digits

pub digits_all : (ds : List ℕ) → all_ascii_digits ds ≡ true → list_all is_ascii_digit ds ≡ true
digits_all [] h = refl
digits_all (d ∷ ds) h =
    let both = and_parts (is_ascii_digit d) (all_ascii_digits ds) h in
    and_from (is_ascii_digit d) (list_all is_ascii_digit ds) both.0 (digits_all ds both.1)

pub digits_of_decimal : (n : ℕ) → n < 2 ^ 64 → list_all is_ascii_digit (decimal n) ≡ true
digits_of_decimal n h = digits_all (decimal n) (digits_decimal own n h)

or_left : (x y : Bool) → x ≡ true → (x || y) ≡ true
or_left x y h = rw h refl

pub digits_in_number : (ds : List ℕ) → list_all is_ascii_digit ds ≡ true → list_all is_in_number ds ≡ true
digits_in_number [] h = refl
digits_in_number (d ∷ ds) h =
    let both = and_parts (is_ascii_digit d) (list_all is_ascii_digit ds) h in
    and_from (is_in_number d) (list_all is_in_number ds) (or_left (is_ascii_digit d) (d == 45) both.0) (digits_in_number ds both.1)

pub mag_small : (v : ℤ) → IsIndex (Some v) → mag v < 2 ^ 31
mag_small (pos n) h = omega (arith, ints)
mag_small (negsuc n) h = omega (arith, ints)

pub signed_in_number : (v : ℤ) → IsIndex (Some v) → list_all is_in_number (signed_decimal v) ≡ true
signed_in_number (pos n) h =
    let small : n < 2 ^ 31 = mag_small (pos n) h in
    digits_in_number (decimal n) (digits_of_decimal n (omega arith))
signed_in_number (negsuc n) h =
    let small : n < 2 ^ 31 = mag_small (negsuc n) h in
    digits_in_number (decimal (suc n)) (digits_of_decimal (suc n) (omega arith))

-- a dot comes next, or nothing
abbrev pub Ends : List ℕ → Type 0
Ends [] = Unit {0}
Ends (b ∷ bs) = b ≡ 46

pub ends_part : (q : List ℕ) → Ends q → Stops continues_identifier q
ends_part [] h = tt
ends_part (b ∷ q) h = ap continues_identifier h

pub index_stops : (i : Option ℤ) (q : List ℕ) → Stops continues_identifier q → Stops continues_identifier (index_text i ++ q)
index_stops None q h = h
index_stops (Some v) q h = refl

no_bracket : (q r : List ℕ) → Ends q → q ≡ 91 ∷ r → ⊥
no_bracket [] r h e = cc
no_bracket (b ∷ q) r h e =
    let same : b ≡ 91 = cc in
    omega arith

pub indices_agree : (i j : Option ℤ) (q r : List ℕ) → IsIndex i → IsIndex j → Ends q → Ends r → index_text i ++ q ≡ index_text j ++ r → (i ≡ j) × (q ≡ r)
indices_agree None None q r hi hj hq hr e = (refl, e)
indices_agree None (Some w) q r hi hj hq hr e = absurd (no_bracket q ((signed_decimal w ++ 93 ∷ []) ++ r) hq e)
indices_agree (Some v) None q r hi hj hq hr e = absurd (no_bracket r ((signed_decimal v ++ 93 ∷ []) ++ q) hr (sym e))
indices_agree (Some v) (Some w) q r hi hj hq hr e =
    let whole : 91 ∷ ((signed_decimal v ++ 93 ∷ []) ++ q) ≡ 91 ∷ ((signed_decimal w ++ 93 ∷ []) ++ r) = e in
    let tails : (signed_decimal v ++ 93 ∷ []) ++ q ≡ (signed_decimal w ++ 93 ∷ []) ++ r = cc in
    let texts : signed_decimal v ++ 93 ∷ q ≡ signed_decimal w ++ 93 ∷ r = sym (append_assoc (signed_decimal v) (93 ∷ []) q) ∙ tails ∙ append_assoc (signed_decimal w) (93 ∷ []) r in
    let both = same_split is_in_number (signed_decimal v) (signed_decimal w) (93 ∷ q) (93 ∷ r) (signed_in_number v hi) (signed_in_number w hj) refl refl texts in
    let small_v : mag v < 2 ^ 31 = mag_small v hi in
    let small_w : mag w < 2 ^ 31 = mag_small w hj in
    let same : v ≡ w = signed_decimal_injective v w (omega arith) (omega arith) both.0 in
    let rests : 93 ∷ q ≡ 93 ∷ r = both.1 in
    let after : q ≡ r = cc in
    (ap Some same, after)

-- ---- steps

pub steps_agree : (a c q r : List ℕ) (s t : Step) → SpellsStep a s → SpellsStep c t → Ends q → Ends r → a ++ q ≡ c ++ r → (a ≡ c) × (s ≡ t) × (q ≡ r)
steps_agree a c q r s t h k hq hr e =
    let left : a ++ q ≡ h.named ++ (index_text s.index ++ q) = ap (λ (x : List ℕ). x ++ q) h.whole ∙ append_assoc h.named (index_text s.index) q in
    let right : c ++ r ≡ k.named ++ (index_text t.index ++ r) = ap (λ (x : List ℕ). x ++ r) k.whole ∙ append_assoc k.named (index_text t.index) r in
    let names = names_agree h.named s.name k.named t.name (index_text s.index ++ q) (index_text t.index ++ r) h.spells_name k.spells_name (index_stops s.index q (ends_part q hq)) (index_stops t.index r (ends_part r hr)) (sym left ∙ e ∙ right) in
    let indices = indices_agree s.index t.index q r h.is_step.index k.is_step.index hq hr names.2 in
    let named : h.named ≡ k.named = names.0 in
    let name : s.name ≡ t.name = names.1 in
    let index : s.index ≡ t.index = indices.0 in
    let parts : h.named ++ index_text s.index ≡ k.named ++ index_text t.index = λ i. named i ++ index_text (index i) in
    (h.whole ∙ parts ∙ sym k.whole, λ i. record { name = name i; index = index i }, indices.1)
