-- A list of actuals is its first part, and then the list behind that part's separator.
use Rattle.std.proofs.Common.{◌≡◌, ℕ, zero, suc, ◌+◌, ◌<◌, ◌≤◌, ◌==◌, Bool, true, false, cond, List, [], ◌∷◌, ◌++◌, length, take, drop, get_or, Option, Some, None, option_map, refl, ap, sym, subst, ◌∙◌, arith, length-drop, append_assoc, get_or-drop}
use Rattle.std.proofs.lemmas.List.{drop-drop, length-take-le}
use Rattle.sve_bytes.specs.declared.span.Span.{Span}
use Rattle.sve_macro.specs.declared.part.Part.{Part}
use Rattle.sve_macro.specs.Literals.{string_rest, escaped_rest}
use Rattle.sve_macro.specs.Parts.{Depths, rest_of_piece, first_piece, pieces_of, head_byte, all_closed, depths_after, ends_part, split_part, split_list, with_piece, spans, list_size, size, trimmed, part_of, actuals_of}
use Rattle.sve_macro.proofs.CutSteps.{pieces-nil}
use Rattle.sve_macro.proofs.Reading.{map_twice, map_choice, pieces_step, head-take}

-- the list whose first part is there, by the pieces from its separator on
abbrev list_behind : List (List ℕ) → List (List ℕ) → Option (List (List (List ℕ)))
list_behind part [] = None
list_behind part (sep ∷ rest) = cond (head_byte sep == 41) (Some (part ∷ [])) (option_map (λ parts. part ∷ parts) (split_list all_closed rest))

abbrev list_after : Option (List (List ℕ) × List (List ℕ)) → Option (List (List (List ℕ)))
list_after None = None
list_after (Some r) = list_behind r.0 r.1

behind_more : (p : List ℕ) (part rest : List (List ℕ)) → option_map (with_piece p) (list_behind part rest) ≡ list_behind (p ∷ part) rest
behind_more p part [] = refl
behind_more p part (sep ∷ rest) =
    sym (map_choice (with_piece p) (head_byte sep == 41) (Some (part ∷ [])) (option_map (λ parts. part ∷ parts) (split_list all_closed rest)))
    ∙ ap (λ z. cond (head_byte sep == 41) (Some ((p ∷ part) ∷ [])) z)
    (sym (map_twice (with_piece p) (λ parts. part ∷ parts) (λ parts. (p ∷ part) ∷ parts) (split_list all_closed rest) (λ parts. refl)))

after_more : (p : List ℕ) (o : Option (List (List ℕ) × List (List ℕ))) → option_map (with_piece p) (list_after o) ≡ list_after (option_map (λ r. (p ∷ r.0, r.1)) o)
after_more p None = refl
after_more p (Some r) = behind_more p r.0 r.1

after_choice : (b : Bool) (x y : Option (List (List ℕ) × List (List ℕ))) → list_after (cond b x y) ≡ cond b (list_after x) (list_after y)
after_choice true x y = refl
after_choice false x y = refl

split_list-part : (d : Depths) (ps : List (List ℕ)) → split_list d ps ≡ list_after (split_part d ps)
split_list-part d [] = refl
split_list-part d (p ∷ ps) =
    let d' = depths_after d (head_byte p) in
    ap (λ z. cond (ends_part d (head_byte p)) (list_behind [] (p ∷ ps)) z)
    (ap (λ o. option_map (with_piece p) o) (split_list-part d' ps) ∙ after_more p (split_part d' ps))
    ∙ sym (after_choice (ends_part d (head_byte p)) (Some ([], p ∷ ps)) (option_map (λ r. (p ∷ r.0, r.1)) (split_part d' ps)))

-- where the first part of a text ends
pub record IsSplit (text : List ℕ) (r : List (List ℕ) × List (List ℕ)) : Type 0 where
  pub sep : List ℕ
  pub head : head_byte sep ≡ get_or text (size r.0) 0
  pub rest : r.1 ≡ sep ∷ pieces_of (drop (size r.0 + 1) text)
  pub within : size r.0 < length text

pub eq_from : (a b : ℕ) → (a == b) ≡ true → a ≡ b
eq_from a b h = grind arith

-- a separator is a piece of one byte
pub sep_alone : (a b : Bool) (d : Depths) (v : ℕ) (vs : List ℕ) → (v == 34) ≡ a → (v == 92) ≡ b → ends_part d v ≡ true → rest_of_piece (v ∷ vs) ≡ 0
sep_alone true b d v vs p q h =
    let f : ends_part d 34 ≡ true = subst (λ (x : ℕ). ends_part d x ≡ true) (eq_from v 34 p) h in absurd (cc)
sep_alone false true d v vs p q h =
    let f : ends_part d 92 ≡ true = subst (λ (x : ℕ). ends_part d x ≡ true) (eq_from v 92 q) h in absurd (cc)
sep_alone false false d v vs p q h =
    ap (λ z. cond z (string_rest false vs) (cond (v == 92) (escaped_rest vs) 0)) p ∙ ap (λ z. cond z (escaped_rest vs) 0) q

-- what a function of an option was taken of
pub record IsOf {X Y : Type 0} (f : X → Y) (o : Option X) (y : Y) : Type 0 where
  pub of : X
  pub there : o ≡ Some of
  pub value : f of ≡ y

pub some_from : {X Y : Type 0} (f : X → Y) (o : Option X) (y : Y) → option_map f o ≡ Some y → IsOf f o y
some_from f None y h = absurd (cc)
some_from f (Some x) y h = record { of = x; there = refl; value = cc }

split_step : (b : Bool) (v : ℕ) (vs : List ℕ) (d : Depths) (r : List (List ℕ) × List (List ℕ)) → ends_part d v ≡ b →
    (let text = v ∷ vs in let len = 1 + rest_of_piece text in let ps = pieces_of (drop len text) in
    cond b (Some ([], take len text ∷ ps)) (option_map (λ r. (take len text ∷ r.0, r.1)) (split_part (depths_after d v) ps)) ≡ Some r
    → ((x : List (List ℕ) × List (List ℕ)) → split_part (depths_after d v) ps ≡ Some x → IsSplit (drop len text) x) → IsSplit text r)
split_step true v vs d r e h ih =
    let text = v ∷ vs in
    let len = 1 + rest_of_piece text in
    let p = take len text in
    let alone : rest_of_piece text ≡ 0 = sep_alone (v == 34) (v == 92) d v vs refl refl e in
    let one : len ≡ 0 + 1 = omega arith in
    let first : IsSplit text ([], p ∷ pieces_of (drop len text)) =
    record {
      sep = p;
      head = head-take (rest_of_piece text) text (omega arith);
      rest = ap (λ m. p ∷ pieces_of (drop m text)) one;
      within = omega arith;
    } in
    let same : ◌≡◌ {A = List (List ℕ) × List (List ℕ)} ([], p ∷ pieces_of (drop len text)) r = cc in
    subst (λ (x : List (List ℕ) × List (List ℕ)). IsSplit text x) same first
split_step false v vs d r e h ih =
    let text = v ∷ vs in
    let len = 1 + rest_of_piece text in
    let p = take len text in
    let from = some_from (λ (r : List (List ℕ) × List (List ℕ)). (p ∷ r.0, r.1)) (split_part (depths_after d v) (pieces_of (drop len text))) r h in
    let s = ih from.of from.there in
    let x = from.of in
    let inside : len ≤ length text = omega (arith, length-drop len text, s.within) in
    let size_is : length p ≡ len = length-take-le len text inside in
    let more : IsSplit text (p ∷ x.0, x.1) =
    record {
      sep = s.sep;
      head = s.head ∙ get_or-drop len text (size x.0) 0 ∙ ap (λ m. get_or text (m + size x.0) 0) (sym size_is);
      rest = s.rest ∙ ap (λ u. s.sep ∷ pieces_of u) (drop-drop (size x.0 + 1) len text ∙ ap (λ m. drop m text) (omega (arith, size_is)));
      within = omega (arith, length-drop len text, s.within, size_is);
    } in
    subst (λ (x : List (List ℕ) × List (List ℕ)). IsSplit text x) from.value more

split_is : (n : ℕ) (text : List ℕ) (d : Depths) (r : List (List ℕ) × List (List ℕ)) → length text ≤ n → split_part d (pieces_of text) ≡ Some r → IsSplit text r
split_is n [] d r l h =
    let e : None ≡ Some r = ap (λ ps. split_part d ps) (sym (pieces-nil first_piece tt)) ∙ h in absurd (cc)
split_is zero (v ∷ vs) d r l h = absurd (omega arith)
split_is (suc n) (v ∷ vs) d r l h =
    let text = v ∷ vs in
    let len = 1 + rest_of_piece text in
    let ps = pieces_of (drop len text) in
    let head : head_byte (take len text) ≡ v = head-take (rest_of_piece text) text (omega arith) in
    let whole : cond (ends_part d v) (Some ([], take len text ∷ ps)) (option_map (λ r. (take len text ∷ r.0, r.1)) (split_part (depths_after d v) ps)) ≡ Some r =
    ap (λ w. cond (ends_part d w) (Some ([], take len text ∷ ps)) (option_map (λ r. (take len text ∷ r.0, r.1)) (split_part (depths_after d w) ps))) (sym head)
    ∙ ap (λ qs. split_part d qs) (sym (pieces_step text (omega arith))) ∙ h in
    split_step (ends_part d v) v vs d r refl whole (λ x e. split_is n (drop len text) (depths_after d v) x (omega (arith, length-drop len text)) e)

-- the spans of parts from a place on, and where they end
abbrev pub placed : ℕ → List (List (List ℕ)) → List Span × ℕ
placed at parts = (spans at parts, at + list_size parts)

placed_same : (span : Span) (parts : List (List (List ℕ))) (a b c d : ℕ) → a ≡ b → c ≡ d → ◌≡◌ {A = List Span × ℕ} (span ∷ spans a parts, c) (span ∷ spans b parts, d)
placed_same span parts a b c d p q =
    let step1 : ◌≡◌ {A = List Span × ℕ} (span ∷ spans a parts, c) (span ∷ spans b parts, c) = ap (λ x. (span ∷ spans x parts, c)) p in
    let step2 : ◌≡◌ {A = List Span × ℕ} (span ∷ spans b parts, c) (span ∷ spans b parts, d) = ap (λ x. (span ∷ spans b parts, x)) q in
    step1 ∙ step2

-- one actual, and those behind its separator
abbrev GoesOn : List ℕ → ℕ → Part → Type 0
GoesOn text at part =
    actuals_of text at ≡ cond (get_or text part.end 0 == 41) (Some (part.span ∷ [], part.end + 1)) (option_map (λ r. (part.span ∷ r.0, r.1)) (actuals_of text (part.end + 1)))

part_behind : ℕ → List (List ℕ) × List (List ℕ) → Part
part_behind at r = record { span = trimmed at r.0; end = at + size r.0 }

list_part : (text : List ℕ) (at : ℕ) (r : List (List ℕ) × List (List ℕ)) → split_part all_closed (pieces_of (drop at text)) ≡ Some r → IsSplit (drop at text) r → GoesOn text at (record { span = trimmed at r.0; end = at + size r.0 })
list_part text at r e s =
    let n = at + size r.0 in
    let rest = drop at text in
    let behind = split_list all_closed (pieces_of (drop (size r.0 + 1) rest)) in
    let place : drop (size r.0 + 1) rest ≡ drop (n + 1) text = drop-drop (size r.0 + 1) at text ∙ ap (λ m. drop m text) (let f : at + (size r.0 + 1) ≡ n + 1 = omega arith in f) in
    let head : head_byte s.sep ≡ get_or text n 0 = s.head ∙ get_or-drop at text (size r.0) 0 in
    let next : at + (size r.0 + 1) ≡ n + 1 = omega arith in
    let done : at + (size r.0 + 1 + 0) ≡ n + 1 = omega arith in
    ap (λ o. option_map (placed at) o) (split_list-part all_closed (pieces_of rest) ∙ ap list_after e ∙ ap (λ z. list_behind r.0 z) s.rest)
    ∙ sym (map_choice (placed at) (head_byte s.sep == 41) (Some (r.0 ∷ [])) (option_map (λ parts. r.0 ∷ parts) behind))
    ∙ ap (λ v. cond (v == 41) (Some (placed at (r.0 ∷ []))) (option_map (placed at) (option_map (λ parts. r.0 ∷ parts) behind))) head
    ∙ ap (λ m. cond (get_or text n 0 == 41) (Some (trimmed at r.0 ∷ [], m)) (option_map (placed at) (option_map (λ parts. r.0 ∷ parts) behind))) done
    ∙ ap (λ z. cond (get_or text n 0 == 41) (Some (trimmed at r.0 ∷ [], n + 1)) z)
    (sym (map_twice (placed at) (λ parts. r.0 ∷ parts) (λ parts. placed at (r.0 ∷ parts)) behind (λ parts. refl))
    ∙ ap (λ t. option_map (λ parts. placed at (r.0 ∷ parts)) (split_list all_closed (pieces_of t))) place
    ∙ map_twice (λ x. (trimmed at r.0 ∷ x.0, x.1)) (placed (n + 1)) (λ parts. placed at (r.0 ∷ parts)) (split_list all_closed (pieces_of (drop (n + 1) text)))
    (λ parts. placed_same (trimmed at r.0) parts _ _ _ _ next (let f : at + (size r.0 + 1 + list_size parts) ≡ n + 1 + list_size parts = omega arith in f)))

pub actuals-part : (text : List ℕ) (at : ℕ) (part : Part) → part_of text at ≡ Some part →
    actuals_of text at ≡ cond (get_or text part.end 0 == 41) (Some (part.span ∷ [], part.end + 1)) (option_map (λ r. (part.span ∷ r.0, r.1)) (actuals_of text (part.end + 1)))
actuals-part text at part h =
    let P = λ (r : List (List ℕ) × List (List ℕ)). let x : Part = record { span = trimmed at r.0; end = at + size r.0 } in x in
    let from = some_from P (split_part all_closed (pieces_of (drop at text))) part h in
    subst (λ (x : Part). GoesOn text at x) from.value
    (list_part text at from.of from.there (split_is (length (drop at text)) (drop at text) all_closed from.of (omega arith) from.there))

none_behind : (text : List ℕ) (at : ℕ) (o : Option (List (List ℕ) × List (List ℕ))) → split_part all_closed (pieces_of (drop at text)) ≡ o →
    option_map (λ (r : List (List ℕ) × List (List ℕ)). let x : Part = record { span = trimmed at r.0; end = at + size r.0 } in x) o ≡ None → actuals_of text at ≡ None
none_behind text at None e h = ap (λ o. option_map (placed at) o) (split_list-part all_closed (pieces_of (drop at text)) ∙ ap list_after e)
none_behind text at (Some r) e h = absurd (cc)

pub actuals-none : (text : List ℕ) (at : ℕ) → part_of text at ≡ None → actuals_of text at ≡ None
actuals-none text at h = none_behind text at (split_part all_closed (pieces_of (drop at text))) refl h

-- the actuals that were found, before what the rest gives
abbrev pub with_found : List Span → Option (List Span × ℕ) → Option (List Span × ℕ)
with_found found o = option_map (λ r. (found ++ r.0, r.1)) o

pub record IsFound (found : List Span) (at : ℕ) (text : List ℕ) (from : ℕ) : Type 0 where
  pub same : with_found found (actuals_of text at) ≡ actuals_of text from
  pub within : at ≤ length text

found_none : (o : Option (List Span × ℕ)) → with_found [] o ≡ o
found_none None = refl
found_none (Some r) = refl

pub begins : (found : List Span) (text : List ℕ) (from : ℕ) → found ≡ [] → from ≤ length text → IsFound found from text from
begins found text from e h = record { same = ap (λ f. with_found f (actuals_of text from)) e ∙ found_none (actuals_of text from); within = h }

pub goes_on : (found found' : List Span) (at : ℕ) (text : List ℕ) (from : ℕ) (part : Part) → IsFound found at text from → Some part ≡ part_of text at → part.end < length text →
    found' ≡ found ++ part.span ∷ [] → (get_or text part.end 0 == 41) ≡ false → IsFound found' (part.end + 1) text from
goes_on found found' at text from part h e l f t =
    let span = part.span in
    let rest = actuals_of text (part.end + 1) in
    record {
      same =
          ap (λ x. with_found x rest) f
          ∙ map_twice (λ r. (found ++ r.0, r.1)) (λ r. (span ∷ r.0, r.1)) (λ r. ((found ++ span ∷ []) ++ r.0, r.1)) rest (λ r. ap (λ (x : List Span). let y : List Span × ℕ = (x, r.1) in y) (append_assoc found (span ∷ []) r.0))
          ∙ ap (λ o. with_found found o) (sym (actuals-part text at part (sym e) ∙ ap (λ b. cond b (Some (span ∷ [], part.end + 1)) (option_map (λ r. (span ∷ r.0, r.1)) rest)) t))
          ∙ h.same;
      within = omega arith;
    }

pub ends : (found found' : List Span) (at : ℕ) (text : List ℕ) (from : ℕ) (part : Part) → IsFound found at text from → Some part ≡ part_of text at →
    found' ≡ found ++ part.span ∷ [] → (get_or text part.end 0 == 41) ≡ true → actuals_of text from ≡ Some (found', part.end + 1)
ends found found' at text from part h e f t =
    sym h.same
    ∙ ap (λ o. with_found found o) (actuals-part text at part (sym e) ∙ ap (λ b. cond b (Some (part.span ∷ [], part.end + 1)) (option_map (λ r. (part.span ∷ r.0, r.1)) (actuals_of text (part.end + 1)))) t)
    ∙ ap (λ x. Some (x, part.end + 1)) (sym f)

pub stays_open : (found : List Span) (at : ℕ) (text : List ℕ) (from : ℕ) → IsFound found at text from → None ≡ part_of text at → actuals_of text from ≡ None
stays_open found at text from h e = sym h.same ∙ ap (λ o. with_found found o) (actuals-none text at (sym e))

pub test_true : (a b : ℕ) → a ≡ b → (a == b) ≡ true
test_true a b h = grind arith

pub test_false : (a b : ℕ) → (a ≡ b → ⊥) → (a == b) ≡ false
test_false a b h = grind arith
