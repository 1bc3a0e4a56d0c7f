-- A reader in the index of a step: where it goes on, and where no step does.
use Rattle.std.proofs.Common.{◌≡◌, ◌∙◌, ◌⊎◌, inl, inr, ℕ, zero, suc, ◌+◌, ◌-◌, ◌*◌, ◌/◌, ◌%◌, ◌<◌, ◌≤◌, ◌^◌, ℤ, pos, negsuc, Bool, true, false, Option, Some, None, IsTrue, if◌then◌else◌, List, [], ◌∷◌, ◌++◌, length, get_or, take, refl, sym, ap, append_assoc, arith}
use Rattle.std.proofs.lemmas.Bool.{and_parts, both_ways, false≢true, leb-true}
use Rattle.std.proofs.lemmas.Fmt.{decimal_digit, decimal_step, decimal_is_IsNumeral, first_decimal, decimal_nonempty}
use Rattle.std.proofs.lemmas.Int.{ints}
use Rattle.std.proofs.lemmas.Int.Digits.{digits_value_push}
use Rattle.std.proofs.lemmas.List.{append-nil, take_at}
use Rattle.std.proofs.lemmas.Str.{digit_value_digit}
use Rattle.std.proofs.lemmas.Str.Parse.{digits_value-take-le}
use Rattle.std.specs.Char.{is_ascii_digit, digit_value}
use Rattle.std.specs.Fmt.{decimal, signed_decimal}
use Rattle.std.specs.List.{list_all}
use Rattle.std.specs.Str.Parse.{digits_value}
use Rattle.sve_bytes.specs.declared.path.Step.{Step}
use Rattle.sve_bytes.specs.Bytes.{continues_identifier}
use Rattle.sve_bytes.specs.PathReading.{IsIndex, SpellsName, SpellsStep}
use Rattle.sve_bytes.specs.PathStages.{HasNameThen, BeginsNoStep, IsSize, digits_text, signed_value}
use Rattle.sve_bytes.specs.PathText.{has_form_of_identifier, escaped, index_text}
use Rattle.sve_bytes.proofs.StepTexts.{names_agree, escaped_then, index_stops, is_in_number, digits_in_number, digits_of_decimal, mag_small, signed_in_number, parts_of_form, form_of_simple}
use Rattle.sve_bytes.proofs.StageNames.{after_one, escaped_ends, index_begins}
use Rattle.sve_bytes.proofs.TextSplits.{same_split, goes_past, byte_of_all, all_and_one}

-- ---- the parts of what was read

-- one byte more
pub then_more : (text name bytes : List ℕ) (b : ℕ) → HasNameThen text name bytes → HasNameThen (text ++ b ∷ []) name (bytes ++ b ∷ [])
then_more text name bytes b h = record {
  not_empty = h.not_empty;
  in_limit = h.in_limit;
  named = h.named;
  spells_name = h.spells_name;
  parts = ap (λ (x : List ℕ). x ++ b ∷ []) h.parts ∙ append_assoc h.named bytes (b ∷ []);
}

-- a step that goes on behind a bracket has that name and an index
index_after : (text name bytes rest : List ℕ) (s : Step) → HasNameThen text name (91 ∷ bytes) → SpellsStep (text ++ rest) s → (v : ℤ) × IsIndex (Some v) × (signed_decimal v ++ 93 ∷ [] ≡ bytes ++ rest)
index_after text name bytes rest s n h =
    let texts : h.named ++ (index_text s.index ++ []) ≡ n.named ++ (91 ∷ bytes ++ rest) = ap (λ (x : List ℕ). h.named ++ x) (append-nil (index_text s.index)) ∙ sym h.whole ∙ ap (λ (x : List ℕ). x ++ rest) n.parts ∙ append_assoc n.named (91 ∷ bytes) rest in
    let names = names_agree h.named s.name n.named name (index_text s.index ++ []) (91 ∷ bytes ++ rest) h.spells_name n.spells_name (index_stops s.index [] tt) refl texts in
    by s.index h.is_step.index (sym (append-nil (index_text s.index)) ∙ names.2)
  where
    by : (i : Option ℤ) → IsIndex i → index_text i ≡ 91 ∷ bytes ++ rest → (v : ℤ) × IsIndex (Some v) × (signed_decimal v ++ 93 ∷ [] ≡ bytes ++ rest)
    by None fits e = absurd (let f : ⊥ = cc in f)
    by (Some v) fits e =
        let whole : 91 ∷ (signed_decimal v ++ 93 ∷ []) ≡ 91 ∷ (bytes ++ rest) = e in
        let tails : signed_decimal v ++ 93 ∷ [] ≡ bytes ++ rest = cc in
        (v, fits, tails)

-- no index ends without its bracket
pub open_is_no_step : (text name bytes : List ℕ) (s : Step) → HasNameThen text name (91 ∷ bytes) → list_all is_in_number bytes ≡ true → SpellsStep text s → ⊥
open_is_no_step text name bytes s n number h =
    let whole : SpellsStep (text ++ []) s = rw (append-nil text) h in
    let index = index_after text name bytes [] s n whole in
    false≢true (byte_of_all is_in_number (signed_decimal index.0) 93 [] (ap (list_all is_in_number) (index.2 ∙ append-nil bytes) ∙ number))

-- ---- the first byte of a number

digit_first : (n : ℕ) (b : ℕ) (q r : List ℕ) → n < 2 ^ 64 → is_ascii_digit 93 ≡ false → decimal n ++ 93 ∷ q ≡ b ∷ r → is_ascii_digit b ≡ true
digit_first n b q r small closes e = by (decimal n) (digits_of_decimal n small) (decimal_nonempty n small) e
  where
    by : (ds : List ℕ) → list_all is_ascii_digit ds ≡ true → 0 < length ds → ds ++ 93 ∷ q ≡ b ∷ r → is_ascii_digit b ≡ true
    by [] digits some f = absurd (omega arith)
    by (d ∷ ds) digits some f =
        let same : d ≡ b = cc in
        ap is_ascii_digit (sym same) ∙ (and_parts (is_ascii_digit d) (list_all is_ascii_digit ds) digits).0

first_of_number : (v : ℤ) (b : ℕ) (r : List ℕ) → IsIndex (Some v) → signed_decimal v ++ 93 ∷ [] ≡ b ∷ r → (is_ascii_digit b ≡ true) ⊎ (b ≡ 45)
first_of_number (pos n) b r fits e =
    let small : n < 2 ^ 31 = mag_small (pos n) fits in
    inl (digit_first n b [] r (omega arith) refl e)
first_of_number (negsuc n) b r fits e =
    let same : b ≡ 45 = cc in
    inr same

pub no_number : (text name : List ℕ) (b : ℕ) → HasNameThen text name (91 ∷ []) → is_ascii_digit b ≡ false → (b ≡ 45 → ⊥) → BeginsNoStep (text ++ b ∷ [])
no_number text name b n digit sign rest s h =
    let index = index_after (text ++ b ∷ []) name (b ∷ []) rest s (then_more text name (91 ∷ []) b n) h in
    elim (first_of_number index.0 b rest index.1 index.2) [
      | inl found ↦ both_ways (is_ascii_digit b) digit found
      | inr same ↦ sign same
    ]

-- the digits of a number above 0 begin with none that is 0
first_not_zero : (n b : ℕ) (r : List ℕ) → 0 < n → n < 2 ^ 64 → decimal n ++ 93 ∷ [] ≡ b ∷ r → b ≡ 48 → ⊥
first_not_zero n b r some small e zero_digit = by (decimal n) (first_decimal n some small) e
  where
    by : (ds : List ℕ) → 48 < get_or ds 0 0 → ds ++ 93 ∷ [] ≡ b ∷ r → ⊥
    by [] above f = omega arith
    by (d ∷ ds) above f =
        let same : d ≡ b = cc in
        omega arith

-- after `-` comes a digit that is not 0
after_sign : (v : ℤ) (r : List ℕ) → IsIndex (Some v) → signed_decimal v ++ 93 ∷ [] ≡ 45 ∷ r → (n : ℕ) × (v ≡ negsuc n) × (suc n ≤ 2 ^ 31) × (decimal (suc n) ++ 93 ∷ [] ≡ r)
after_sign (pos n) r fits e =
    let small : n < 2 ^ 31 = mag_small (pos n) fits in
    absurd (false≢true (digit_first n 45 [] r (omega arith) refl e))
after_sign (negsuc n) r fits e =
    let small : n < 2 ^ 31 = mag_small (negsuc n) fits in
    let whole : 45 ∷ (decimal (suc n) ++ 93 ∷ []) ≡ 45 ∷ r = e in
    let tails : decimal (suc n) ++ 93 ∷ [] ≡ r = cc in
    (n, refl, omega arith, tails)

pub no_digit : (text name : List ℕ) (b : ℕ) → HasNameThen text name (91 ∷ 45 ∷ []) → (is_ascii_digit b ≡ true → b ≡ 48) → BeginsNoStep (text ++ b ∷ [])
no_digit text name b n digit rest s h =
    let index = index_after (text ++ b ∷ []) name (45 ∷ b ∷ []) rest s (then_more text name (91 ∷ 45 ∷ []) b n) h in
    let number = after_sign index.0 (b ∷ rest) index.1 index.2 in
    let small : suc number.0 < 2 ^ 64 = omega (arith, number.2) in
    first_not_zero (suc number.0) b rest (omega arith) small number.3 (digit (digit_first (suc number.0) b [] rest small refl number.3))

-- ---- digits

pub digit_range : (b : ℕ) → is_ascii_digit b ≡ true → (48 ≤ b) × (b ≤ 57)
digit_range b h =
    let both = and_parts _ _ h in
    (leb-true 48 b both.0, leb-true b 57 both.1)

pub one_digit : (b : ℕ) → is_ascii_digit b ≡ true → decimal (b - 48) ≡ b ∷ []
one_digit b h =
    let range = digit_range b h in
    let back : 48 + (b - 48) ≡ b = omega (arith, range.0) in
    decimal_digit (b - 48) (omega (arith, range.1)) ∙ ap (λ (d : ℕ). d ∷ []) back

pub more_digits : (size b : ℕ) → 0 < size → size < 2 ^ 32 → is_ascii_digit b ≡ true → decimal (size * 10 + (b - 48)) ≡ decimal size ++ b ∷ []
more_digits size b some small h =
    let range = digit_range b h in
    let low = range.0 in
    let high = range.1 in
    let n : ℕ = size * 10 + (b - 48) in
    let front : (size * 10 + (b - 48)) / 10 ≡ size = omega arith in
    let last : 48 + (size * 10 + (b - 48)) % 10 ≡ b = omega arith in
    decimal_step (size * 10 + (b - 48)) (omega arith) (omega arith) ∙ (λ i. decimal (front i) ++ last i ∷ [])

value_of_decimal : (n : ℕ) → n < 2 ^ 64 → digits_value 10 (decimal n) ≡ n
value_of_decimal n h = (decimal_is_IsNumeral n h).1

-- no digit follows a leading 0
no_leading_zero : (m size b : ℕ) (more : List ℕ) → m < 2 ^ 64 → decimal m ≡ (decimal size ++ b ∷ []) ++ more → 0 < size
no_leading_zero zero zero b more small e =
    let texts : 48 ∷ [] ≡ 48 ∷ b ∷ more = sym (decimal_digit 0 (omega arith)) ∙ e ∙ ap (λ (x : List ℕ). (x ++ b ∷ []) ++ more) (decimal_digit 0 (omega arith)) in
    absurd (let f : ⊥ = cc in f)
no_leading_zero (suc k) zero b more small e =
    let texts : decimal (suc k) ≡ 48 ∷ b ∷ more = e ∙ ap (λ (x : List ℕ). (x ++ b ∷ []) ++ more) (decimal_digit 0 (omega arith)) in
    let first : get_or (decimal (suc k)) 0 0 ≡ 48 = ap (λ (x : List ℕ). get_or x 0 0) texts in
    absurd (omega (arith, first, first_decimal (suc k) (omega arith) small))
no_leading_zero m (suc n) b more small e = omega arith

-- what the digits so far and one more say of a number that goes on so
pub number_goes_on : (m size b : ℕ) (rest : List ℕ) → m < 2 ^ 64 → size < 2 ^ 64 → (b ≡ 93 → ⊥) → decimal m ++ 93 ∷ [] ≡ (decimal size ++ b ∷ []) ++ rest → (is_ascii_digit b ≡ true) × (0 < size) × (size * 10 + (b - 48) ≤ m)
number_goes_on m size b rest small short other e = by (is_ascii_digit b) refl
  where
    by : (t : Bool) → is_ascii_digit b ≡ t → (is_ascii_digit b ≡ true) × (0 < size) × (size * 10 + (b - 48) ≤ m)
    by false h =
        let both = same_split is_ascii_digit (decimal m) (decimal size) (93 ∷ []) (b ∷ rest) (digits_of_decimal m small) (digits_of_decimal size short) refl h (e ∙ after_one (decimal size) b rest) in
        let rests : 93 ∷ [] ≡ b ∷ rest = both.1 in
        let same : b ≡ 93 = cc in
        absurd (other same)
    by true h =
        let past = goes_past is_ascii_digit (decimal m) (decimal size ++ b ∷ []) (93 ∷ []) rest (all_and_one is_ascii_digit (decimal size) b (digits_of_decimal size short) h) refl e in
        let front : take (length (decimal size ++ b ∷ [])) (decimal m) ≡ decimal size ++ b ∷ [] = ap (take (length (decimal size ++ b ∷ []))) past.1 ∙ take_at (decimal size ++ b ∷ []) past.0 (length (decimal size ++ b ∷ [])) refl in
        let value : digits_value 10 (decimal size ++ b ∷ []) ≡ size * 10 + digit_value b = digits_value_push 10 (decimal size) b ∙ ap (λ (n : ℕ). n * 10 + digit_value b) (value_of_decimal size short) in
        let below : digits_value 10 (take (length (decimal size ++ b ∷ [])) (decimal m)) ≤ digits_value 10 (decimal m) = digits_value-take-le 10 (decimal m) (length (decimal size ++ b ∷ [])) (omega arith) in
        let range = digit_range b h in
        let digit : digit_value b + 48 ≡ b = digit_value_digit b (range.0, range.1) in
        let most : size * 10 + digit_value b ≤ m = omega (arith, below, ap (digits_value 10) front, value, value_of_decimal m small) in
        (h, no_leading_zero m size b past.0 small past.1, omega (arith, digit, most))

-- ---- the index whole

pub signed_text : (negative : Bool) (size : ℕ) → IsSize negative size → signed_decimal (signed_value negative size) ≡ digits_text negative size
signed_text true zero h = absurd (omega (arith, h.0))
signed_text true (suc n) h = refl
signed_text false size h = refl

pub signed_index : (negative : Bool) (size : ℕ) → IsSize negative size → IsIndex (Some (signed_value negative size))
signed_index true zero h = absurd (omega (arith, h.0))
signed_index true (suc n) h = let most = h.1 in (omega (arith, ints), omega (arith, ints))
signed_index false size h = (omega (arith, ints), omega (arith, ints))

-- ---- where the reader goes on

then_bytes : (text name bytes others : List ℕ) → HasNameThen text name bytes → bytes ≡ others → HasNameThen text name others
then_bytes text name bytes others h e = record {
  not_empty = h.not_empty;
  in_limit = h.in_limit;
  named = h.named;
  spells_name = h.spells_name;
  parts = h.parts ∙ ap (λ (x : List ℕ). h.named ++ x) e;
}

pub open_digit : (text name : List ℕ) (b : ℕ) → HasNameThen text name (91 ∷ []) → is_ascii_digit b ≡ true → HasNameThen (text ++ b ∷ []) name (91 ∷ digits_text false (b - 48))
open_digit text name b h digit =
    then_bytes (text ++ b ∷ []) name (91 ∷ b ∷ []) (91 ∷ decimal (b - 48)) (then_more text name (91 ∷ []) b h) (ap (λ (x : List ℕ). 91 ∷ x) (sym (one_digit b digit)))

pub minus_digit : (text name : List ℕ) (b : ℕ) → HasNameThen text name (91 ∷ 45 ∷ []) → is_ascii_digit b ≡ true → HasNameThen (text ++ b ∷ []) name (91 ∷ digits_text true (b - 48))
minus_digit text name b h digit =
    then_bytes (text ++ b ∷ []) name (91 ∷ 45 ∷ b ∷ []) (91 ∷ 45 ∷ decimal (b - 48)) (then_more text name (91 ∷ 45 ∷ []) b h) (ap (λ (x : List ℕ). 91 ∷ 45 ∷ x) (sym (one_digit b digit)))

longer_digits : (negative : Bool) (size b : ℕ) → 0 < size → size < 2 ^ 32 → is_ascii_digit b ≡ true → digits_text negative size ++ b ∷ [] ≡ digits_text negative (size * 10 + (b - 48))
longer_digits true size b some small digit = ap (λ (x : List ℕ). 45 ∷ x) (sym (more_digits size b some small digit))
longer_digits false size b some small digit = sym (more_digits size b some small digit)

size_small : (negative : Bool) (size : ℕ) → IsSize negative size → size < 2 ^ 32
size_small true size h = omega (arith, h.1)
size_small false size h = omega (arith, h)

pub digits_go_on : (text name : List ℕ) (negative : Bool) (size b : ℕ) → IsSize negative size → HasNameThen text name (91 ∷ digits_text negative size) → is_ascii_digit b ≡ true → 0 < size → HasNameThen (text ++ b ∷ []) name (91 ∷ digits_text negative (size * 10 + (b - 48)))
digits_go_on text name negative size b fits h digit some =
    then_bytes (text ++ b ∷ []) name (91 ∷ digits_text negative size ++ b ∷ []) (91 ∷ digits_text negative (size * 10 + (b - 48))) (then_more text name (91 ∷ digits_text negative size) b h) (ap (λ (x : List ℕ). 91 ∷ x) (longer_digits negative size b some (size_small negative size fits) digit))

no_form_at : (text : List ℕ) (b : ℕ) (rest : List ℕ) → continues_identifier b ≡ false → IsTrue (has_form_of_identifier (text ++ b ∷ rest)) → ⊥
no_form_at text b rest part form = both_ways (continues_identifier b) part (byte_of_all continues_identifier text b rest (parts_of_form (text ++ b ∷ rest) form))

pub digits_close : (text name : List ℕ) (negative : Bool) (size : ℕ) → IsSize negative size → HasNameThen text name (91 ∷ digits_text negative size) → SpellsStep (text ++ 93 ∷ []) (record { name = name; index = Some (signed_value negative size) }) × (IsTrue (has_form_of_identifier (text ++ 93 ∷ [])) → ⊥)
digits_close text name negative size fits h =
    let longer = then_more text name (91 ∷ digits_text negative size) 93 h in
    let digits : digits_text negative size ≡ signed_decimal (signed_value negative size) = sym (signed_text negative size fits) in
    let parts : text ++ 93 ∷ [] ≡ longer.named ++ index_text (Some (signed_value negative size)) = longer.parts ∙ (λ i. longer.named ++ (91 ∷ digits i ++ 93 ∷ [])) in (
      record {
        is_step = record { not_empty = h.not_empty; in_limit = h.in_limit; index = signed_index negative size fits };
        named = longer.named;
        spells_name = longer.spells_name;
        whole = parts;
      },
      no_form_at text 93 [] refl,
    )

no_minus : (size : ℕ) (q r : List ℕ) → size < 2 ^ 64 → decimal size ++ q ≡ 45 ∷ r → ⊥
no_minus size q r small e = by (decimal size) (digits_of_decimal size small) (decimal_nonempty size small) e
  where
    by : (ds : List ℕ) → list_all is_ascii_digit ds ≡ true → 0 < length ds → ds ++ q ≡ 45 ∷ r → ⊥
    by [] digits some f = omega arith
    by (d ∷ ds) digits some f =
        let same : d ≡ 45 = cc in
        false≢true (sym (ap is_ascii_digit same) ∙ (and_parts (is_ascii_digit d) (list_all is_ascii_digit ds) digits).0)

pub digits_end : (text name : List ℕ) (negative : Bool) (size b : ℕ) → IsSize negative size → HasNameThen text name (91 ∷ digits_text negative size) → (b ≡ 93 → ⊥) → (is_ascii_digit b ≡ true → 0 < size → (if negative then 2 ^ 31 else 2 ^ 31 - 1) < size * 10 + (b - 48)) → BeginsNoStep (text ++ b ∷ [])
digits_end text name true size b fits n other beyond rest s h =
    let index = index_after (text ++ b ∷ []) name (45 ∷ decimal size ++ b ∷ []) rest s (then_more text name (91 ∷ 45 ∷ decimal size) b n) h in
    let number = after_sign index.0 ((decimal size ++ b ∷ []) ++ rest) index.1 index.2 in
    let small : suc number.0 < 2 ^ 64 = omega (arith, number.2) in
    let short : size < 2 ^ 64 = omega (arith, fits.1) in
    let more = number_goes_on (suc number.0) size b rest small short other number.3 in
    omega (arith, number.2, more.2, beyond more.0 more.1)
digits_end text name false size b fits n other beyond rest s h =
    let index = index_after (text ++ b ∷ []) name (decimal size ++ b ∷ []) rest s (then_more text name (91 ∷ decimal size) b n) h in
    by index.0 index.1 index.2
  where
    by : (v : ℤ) → IsIndex (Some v) → signed_decimal v ++ 93 ∷ [] ≡ (decimal size ++ b ∷ []) ++ rest → ⊥
    by (pos m) range e =
        let small : m < 2 ^ 31 = mag_small (pos m) range in
        let short : size < 2 ^ 64 = omega (arith, fits) in
        let more = number_goes_on m size b rest (omega arith) short other e in
        omega (arith, small, more.2, beyond more.0 more.1)
    by (negsuc m) range e =
        let short : size < 2 ^ 64 = omega (arith, fits) in
        no_minus size (b ∷ rest) (decimal (suc m) ++ 93 ∷ []) short (sym (after_one (decimal size) b rest) ∙ sym e)

-- ---- behind a whole step

pub whole_ends : (text name : List ℕ) (index : Option ℤ) (b : ℕ) → SpellsStep text (record { name = name; index = index }) → (IsTrue (has_form_of_identifier text) → ⊥) → (b ≡ 91 → index ≡ None → ⊥) → BeginsNoStep (text ++ b ∷ [])
whole_ends text name (Some v) b whole form other rest s h =
    let n : HasNameThen text name (91 ∷ (signed_decimal v ++ 93 ∷ [])) = record { not_empty = whole.is_step.not_empty; in_limit = whole.is_step.in_limit; named = whole.named; spells_name = whole.spells_name; parts = whole.whole } in
    let texts : SpellsStep (text ++ b ∷ rest) s = rw (after_one text b rest) at h in
    let index = index_after text name (signed_decimal v ++ 93 ∷ []) (b ∷ rest) s n texts in
    let split : signed_decimal index.0 ++ 93 ∷ [] ≡ signed_decimal v ++ 93 ∷ b ∷ rest = index.2 ∙ append_assoc (signed_decimal v) (93 ∷ []) (b ∷ rest) in
    let both = same_split is_in_number (signed_decimal index.0) (signed_decimal v) (93 ∷ []) (93 ∷ b ∷ rest) (signed_in_number index.0 index.1) (signed_in_number v whole.is_step.index) refl refl split in
    let rests : 93 ∷ [] ≡ 93 ∷ b ∷ rest = both.1 in
    cc
whole_ends text name None b whole form other rest s h = by whole.spells_name
  where
    by : SpellsName whole.named name → ⊥
    by (inl a) =
        let same : text ≡ name = whole.whole ∙ append-nil whole.named ∙ a.1 in
        form (ap has_form_of_identifier same ∙ form_of_simple name a.0)
    by (inr a) =
        let same : text ≡ escaped name = whole.whole ∙ append-nil whole.named ∙ a.1 in
        let texts : (text ++ b ∷ []) ++ rest ≡ 92 ∷ name ++ 32 ∷ b ∷ rest = after_one text b rest ∙ ap (λ (x : List ℕ). x ++ b ∷ rest) same ∙ escaped_then name (b ∷ rest) in
        let step : SpellsStep (92 ∷ name ++ 32 ∷ b ∷ rest) s = rw texts at h in
        let both = escaped_ends name 32 (b ∷ rest) s a.0 refl step in
        let indices : 32 ∷ index_text s.index ≡ 32 ∷ b ∷ rest = both.1 in
        let index : index_text s.index ≡ b ∷ rest = cc in
        other (index_begins s.index b rest index) refl

pub size_within : (negative : Bool) (n greatest : ℕ) → greatest ≡ (if negative then 2 ^ 31 else 2 ^ 31 - 1) → n ≤ greatest → 0 < n → IsSize negative n
size_within true n greatest is below some = (some, omega arith)
size_within false n greatest is below some = omega arith

pub digits_text_in_number : (negative : Bool) (size : ℕ) → IsSize negative size → list_all is_in_number (digits_text negative size) ≡ true
digits_text_in_number true size h = digits_in_number (decimal size) (digits_of_decimal size (omega (arith, h.1)))
digits_text_in_number false size h = digits_in_number (decimal size) (digits_of_decimal size (omega (arith, h)))
