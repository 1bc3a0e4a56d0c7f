-- A reader in the name of a step: where it goes on, and where no step does.
use Rattle.std.proofs.Common.{◌≡◌, ◌∙◌, inl, inr, ℕ, ◌<◌, ◌≤◌, ℤ, true, false, not, Option, Some, None, IsTrue, List, [], ◌∷◌, ◌++◌, length, refl, sym, ap, append_assoc, arith, length-append}
use Rattle.std.proofs.lemmas.Bool.{and_parts, and_from, both_ways, false≢true, not-true}
use Rattle.std.proofs.lemmas.List.{append-nil}
use Rattle.std.specs.Char.{is_ascii_graphic}
use Rattle.std.specs.List.{list_all}
use Rattle.sve_bytes.specs.declared.path.Step.{Step}
use Rattle.sve_bytes.specs.Bytes.{begins_identifier, continues_identifier}
use Rattle.sve_bytes.specs.Keywords.{is_keyword_text}
use Rattle.sve_bytes.specs.PathReading.{SpellsName, SpellsStep}
use Rattle.sve_bytes.specs.PathStages.{BeginsNoStep}
use Rattle.sve_bytes.specs.PathText.{has_form_of_identifier, is_simple_identifier, escaped, index_text}
use Rattle.sve_bytes.proofs.StepTexts.{parts_of_form, form_of_simple, parts_of_simple, no_form, escaped_then, index_stops}
use Rattle.sve_bytes.proofs.TextSplits.{same_split, goes_past, byte_of_all, all_and_one}

-- ---- simple identifiers

pub form_of_more : (name : List ℕ) (b : ℕ) → has_form_of_identifier name ≡ true → continues_identifier b ≡ true → has_form_of_identifier (name ++ b ∷ []) ≡ true
form_of_more [] b h part = absurd (false≢true h)
form_of_more (x ∷ xs) b h part =
    let both = and_parts (begins_identifier x) (list_all continues_identifier xs) h in
    and_from (begins_identifier x) (list_all continues_identifier (xs ++ b ∷ [])) both.0 (all_and_one continues_identifier xs b both.1 part)

pub some_bytes : (name : List ℕ) → has_form_of_identifier name ≡ true → 0 < length name
some_bytes [] h = absurd (false≢true h)
some_bytes (b ∷ bs) h = omega arith

pub simple_from : (name : List ℕ) → has_form_of_identifier name ≡ true → is_keyword_text name ≡ false → is_simple_identifier name ≡ true
simple_from name form plain = and_from (has_form_of_identifier name) (not (is_keyword_text name)) form (ap not plain)

plain_of_simple : (name : List ℕ) → is_simple_identifier name ≡ true → is_keyword_text name ≡ false
plain_of_simple name h = not-true (is_keyword_text name) (and_parts (has_form_of_identifier name) (not (is_keyword_text name)) h).1

-- the first bytes have the form of an identifier: so the name is a simple one
simple_name : (front rest : List ℕ) (s : Step) → has_form_of_identifier front ≡ true → (h : SpellsStep (front ++ rest) s) → IsTrue (is_simple_identifier s.name) × (s.name ++ index_text s.index ≡ front ++ rest)
simple_name front rest s form h = by h.spells_name
  where
    by : SpellsName h.named s.name → IsTrue (is_simple_identifier s.name) × (s.name ++ index_text s.index ≡ front ++ rest)
    by (inl a) = (a.0, ap (λ (x : List ℕ). x ++ index_text s.index) (sym a.1) ∙ sym h.whole)
    by (inr a) = absurd (no_form front (s.name ++ 32 ∷ index_text s.index) rest form (h.whole ∙ ap (λ (x : List ℕ). x ++ index_text s.index) a.1 ∙ escaped_then s.name (index_text s.index)))

-- a byte that is no part of an identifier ends the name
pub simple_ends : (front : List ℕ) (b : ℕ) (rest : List ℕ) (s : Step) → has_form_of_identifier front ≡ true → continues_identifier b ≡ false → SpellsStep (front ++ b ∷ rest) s → IsTrue (is_simple_identifier front) × (index_text s.index ≡ b ∷ rest)
simple_ends front b rest s form part h =
    let simple = simple_name front (b ∷ rest) s form h in
    let stops = index_stops s.index [] tt in
    let texts : s.name ++ (index_text s.index ++ []) ≡ front ++ b ∷ rest = ap (λ (x : List ℕ). s.name ++ x) (append-nil (index_text s.index)) ∙ simple.1 in
    let both = same_split continues_identifier s.name front (index_text s.index ++ []) (b ∷ rest) (parts_of_simple s.name simple.0) (parts_of_form front form) stops part texts in
    (ap is_simple_identifier (sym both.0) ∙ simple.0, sym (append-nil (index_text s.index)) ∙ both.1)

pub after_one : (front : List ℕ) (b : ℕ) (rest : List ℕ) → (front ++ b ∷ []) ++ rest ≡ front ++ b ∷ rest
after_one front b rest = append_assoc front (b ∷ []) rest

-- a part of an identifier that would be one byte too long
pub simple_too_long : (front : List ℕ) (b : ℕ) → has_form_of_identifier front ≡ true → continues_identifier b ≡ true → length front ≡ 1024 → BeginsNoStep (front ++ b ∷ [])
simple_too_long front b form part long rest s h =
    let simple = simple_name (front ++ b ∷ []) rest s (form_of_more front b form part) h in
    let texts : s.name ++ (index_text s.index ++ []) ≡ (front ++ b ∷ []) ++ rest = ap (λ (x : List ℕ). s.name ++ x) (append-nil (index_text s.index)) ∙ simple.1 in
    let more = goes_past continues_identifier s.name (front ++ b ∷ []) (index_text s.index ++ []) rest (parts_of_form (front ++ b ∷ []) (form_of_more front b form part)) (index_stops s.index [] tt) texts in
    let limit = h.is_step.in_limit in
    omega (arith, ap length more.1, length-append (front ++ b ∷ []) more.0, length-append front (b ∷ []))

pub index_begins : (i : Option ℤ) (b : ℕ) (rest : List ℕ) → index_text i ≡ b ∷ rest → b ≡ 91
index_begins None b rest e = cc
index_begins (Some v) b rest e = cc

pub keyword_ends : (front : List ℕ) (b : ℕ) → has_form_of_identifier front ≡ true → continues_identifier b ≡ false → (b ≡ 91 → is_keyword_text front ≡ true) → BeginsNoStep (front ++ b ∷ [])
keyword_ends front b form part word rest s h =
    let texts : SpellsStep (front ++ b ∷ rest) s = rw (after_one front b rest) at h in
    let ends = simple_ends front b rest s form part texts in
    both_ways (is_keyword_text front) (plain_of_simple front ends.0) (word (index_begins s.index b rest ends.1))

pub simple_is_step : (name : List ℕ) → has_form_of_identifier name ≡ true → is_keyword_text name ≡ false → length name ≤ 1024 → SpellsStep name (record { name = name; index = None })
simple_is_step name form plain limit = record {
  is_step = record { not_empty = some_bytes name form; in_limit = limit; index = tt };
  named = name;
  spells_name = inl (simple_from name form plain, refl);
  whole = sym (append-nil name);
}

-- ---- escaped identifiers

-- the first byte is a backslash: so the name is escaped
pub escaped_name : (text : List ℕ) (s : Step) → SpellsStep (92 ∷ text) s → IsTrue (list_all is_ascii_graphic s.name) × (text ≡ s.name ++ 32 ∷ index_text s.index)
escaped_name text s h = by h.spells_name
  where
    by : SpellsName h.named s.name → IsTrue (list_all is_ascii_graphic s.name) × (text ≡ s.name ++ 32 ∷ index_text s.index)
    by (inl a) = absurd (no_form s.name text (index_text s.index) (form_of_simple s.name a.0) (ap (λ (x : List ℕ). x ++ index_text s.index) (sym a.1) ∙ sym h.whole))
    by (inr a) =
        let texts : 92 ∷ text ≡ 92 ∷ s.name ++ 32 ∷ index_text s.index = h.whole ∙ ap (λ (x : List ℕ). x ++ index_text s.index) a.1 ∙ escaped_then s.name (index_text s.index) in
        let tails : text ≡ s.name ++ 32 ∷ index_text s.index = cc in
        (a.0, tails)

pub escaped_is_no_step : (name : List ℕ) (s : Step) → list_all is_ascii_graphic name ≡ true → SpellsStep (92 ∷ name) s → ⊥
escaped_is_no_step name s graphic h =
    let parts = escaped_name name s h in
    false≢true (byte_of_all is_ascii_graphic s.name 32 (index_text s.index) (ap (list_all is_ascii_graphic) (sym parts.1) ∙ graphic))

-- a byte of no escaped identifier ends the name
pub escaped_ends : (name : List ℕ) (b : ℕ) (rest : List ℕ) (s : Step) → list_all is_ascii_graphic name ≡ true → is_ascii_graphic b ≡ false → SpellsStep (92 ∷ name ++ b ∷ rest) s → (s.name ≡ name) × (32 ∷ index_text s.index ≡ b ∷ rest)
escaped_ends name b rest s graphic ends h =
    let parts = escaped_name (name ++ b ∷ rest) s h in
    same_split is_ascii_graphic s.name name (32 ∷ index_text s.index) (b ∷ rest) parts.0 graphic refl ends (sym parts.1)

pub escaped_too_long : (name : List ℕ) (b : ℕ) → list_all is_ascii_graphic name ≡ true → is_ascii_graphic b ≡ true → length name ≡ 1024 → BeginsNoStep (92 ∷ name ++ b ∷ [])
escaped_too_long name b graphic more long rest s h =
    let parts = escaped_name ((name ++ b ∷ []) ++ rest) s h in
    let past = goes_past is_ascii_graphic s.name (name ++ b ∷ []) (32 ∷ index_text s.index) rest (all_and_one is_ascii_graphic name b graphic more) refl (sym parts.1) in
    let limit = h.is_step.in_limit in
    omega (arith, ap length past.1, length-append (name ++ b ∷ []) past.0, length-append name (b ∷ []))

pub escaped_stops : (name : List ℕ) (b : ℕ) → list_all is_ascii_graphic name ≡ true → is_ascii_graphic b ≡ false → (b ≡ 32 → length name ≡ 0) → BeginsNoStep (92 ∷ name ++ b ∷ [])
escaped_stops name b graphic ends empty rest s h =
    let texts : SpellsStep (92 ∷ name ++ b ∷ rest) s = rw (after_one (92 ∷ name) b rest) at h in
    let both = escaped_ends name b rest s graphic ends texts in
    let rests : 32 ∷ index_text s.index ≡ b ∷ rest = both.1 in
    let space : b ≡ 32 = cc in
    let some = h.is_step.not_empty in
    omega (arith, ap length both.0, empty space)

pub escaped_is_step : (name : List ℕ) → list_all is_ascii_graphic name ≡ true → 0 < length name → length name ≤ 1024 → SpellsStep (92 ∷ name ++ 32 ∷ []) (record { name = name; index = None })
escaped_is_step name graphic some limit = record {
  is_step = record { not_empty = some; in_limit = limit; index = tt };
  named = escaped name;
  spells_name = inr (graphic, refl);
  whole = sym (append-nil (escaped name));
}

-- ---- nothing read

pub nothing_is_no_step : (s : Step) → SpellsStep [] s → ⊥
nothing_is_no_step s h = by h.named h.spells_name h.whole
  where
    by : (named : List ℕ) → SpellsName named s.name → [] ≡ named ++ index_text s.index → ⊥
    by [] (inl a) e = let some = h.is_step.not_empty in omega (arith, ap length a.1)
    by [] (inr a) e = let f : [] ≡ escaped s.name = a.1 in cc
    by (b ∷ bs) name e = cc
