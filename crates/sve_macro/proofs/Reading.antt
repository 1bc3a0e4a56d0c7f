-- A part is read piece by piece.
use Rattle.std.proofs.Common.{◌≡◌, ℕ, suc, ◌+◌, ◌-◌, ◌<◌, ◌≤◌, ◌==◌, Bool, true, false, ◌&&◌, cond, List, [], ◌∷◌, length, take, drop, get_or, Option, Some, None, option_map, unwrap_or, refl, ap, sym, ◌∙◌, arith, length-drop, add-zero, add_assoc}
use Rattle.std.proofs.lemmas.List.{drop_more, drop-drop, length-take-le, drop_all}
use Rattle.std.proofs.Math.Seq.{take-length}
use Rattle.sve_bytes.specs.Bytes.{is_white_space}
use Rattle.sve_bytes.specs.declared.span.Span.{Span}
use Rattle.sve_macro.specs.declared.part.Part.{Part}
use Rattle.sve_macro.specs.Parts.{Depths, closed, rest_of_piece, first_piece, pieces_of, head_byte, all_closed, depths_after, ends_part, split_part, size, is_blank, front_blanks, from_ink, to_ink, is_nil, trimmed, grown, part_of}
use Rattle.sve_macro.proofs.CutSteps.{pieces-nil, pieces-cons}

-- the part, where a place was reached with this read and these brackets open
abbrev pub reading : ℕ → Option Span → Depths → List (List ℕ) → Option Part
reading at span d [] = None
reading at span d (p ∷ ps) =
    cond (ends_part d (head_byte p)) (Some (record { span = unwrap_or span (record { from = at; to = at }); end = at }))
    (reading (at + length p) (grown span at (length p) (is_blank p)) (depths_after d (head_byte p)) ps)

-- the part of which this was read
abbrev to_part : ℕ → Span → List (List ℕ) × List (List ℕ) → Part
to_part at span r = record { span = record { from = span.from; to = cond (is_nil (to_ink r.0)) span.to (at + size (to_ink r.0)) }; end = at + size r.0 }

abbrev trimmed_part : ℕ → List (List ℕ) × List (List ℕ) → Part
trimmed_part at r = record { span = trimmed at r.0; end = at + size r.0 }

with_first : List ℕ → List (List ℕ) × List (List ℕ) → List (List ℕ) × List (List ℕ)
with_first p r = (p ∷ r.0, r.1)

both : {X : Type 0} (b : Bool) {x y x' y' : X} → x ≡ x' → y ≡ y' → cond b x y ≡ cond b x' y'
both b {x} {y} {x'} {y'} p q = ap (λ z. cond b z y) p ∙ ap (λ z. cond b x' z) q

-- a function of an option of which a function was taken
pub map_twice : {X Y Z : Type 0} (f : Y → Z) (g : X → Y) (h : X → Z) (o : Option X) → ((x : X) → h x ≡ f (g x)) → option_map h o ≡ option_map f (option_map g o)
map_twice f g h None e = refl
map_twice f g h (Some x) e = ap (λ z. Some z) (e x)

-- a function of a choice
pub map_choice : {X Z : Type 0} (f : X → Z) (b : Bool) (x y : Option X) → cond b (option_map f x) (option_map f y) ≡ option_map f (cond b x y)
map_choice f true x y = refl
map_choice f false x y = refl

part_same : (a b c d e f : ℕ) → a ≡ d → b ≡ e → c ≡ f → ◌≡◌ {A = Part} (record { span = record { from = a; to = b }; end = c }) (record { span = record { from = d; to = e }; end = f })
part_same a b c d e f p q r =
    let step1 : ◌≡◌ {A = Part} (record { span = record { from = a; to = b }; end = c }) (record { span = record { from = d; to = b }; end = c }) = ap (λ x. record { span = record { from = x; to = b }; end = c }) p in
    let step2 : ◌≡◌ {A = Part} (record { span = record { from = d; to = b }; end = c }) (record { span = record { from = d; to = e }; end = c }) = ap (λ x. record { span = record { from = d; to = x }; end = c }) q in
    let step3 : ◌≡◌ {A = Part} (record { span = record { from = d; to = e }; end = c }) (record { span = record { from = d; to = e }; end = f }) = ap (λ x. record { span = record { from = d; to = e }; end = x }) r in
    step1 ∙ step2 ∙ step3

-- the end of what stands in a part, behind a blank and behind another piece
to_behind_blank : (p : List ℕ) (ns : List (List ℕ)) (at to : ℕ) → cond (is_nil ns) to (at + length p + size ns) ≡ cond (is_nil (cond (true && is_nil ns) [] (p ∷ ns))) to (at + size (cond (true && is_nil ns) [] (p ∷ ns)))
to_behind_blank p [] at to = refl
to_behind_blank p (n ∷ ns) at to = add_assoc at (length p) (size (n ∷ ns))

to_behind_ink : (p : List ℕ) (ns : List (List ℕ)) (at to : ℕ) → cond (is_nil ns) (at + length p) (at + length p + size ns) ≡ cond (is_nil (cond (false && is_nil ns) [] (p ∷ ns))) to (at + size (cond (false && is_nil ns) [] (p ∷ ns)))
to_behind_ink p [] at to = ap (λ n. at + n) (sym (add-zero (length p)))
to_behind_ink p (n ∷ ns) at to = add_assoc at (length p) (size (n ∷ ns))

ink_go : (b : Bool) (at : ℕ) (span : Span) (d : Depths) (p : List ℕ) (ps : List (List ℕ)) → is_blank p ≡ b → ((a : ℕ) (s : Span) → reading a (Some s) d ps ≡ option_map (to_part a s) (split_part d ps)) →
    reading (at + length p) (grown (Some span) at (length p) b) d ps ≡ option_map (to_part at span) (option_map (λ r. (p ∷ r.0, r.1)) (split_part d ps))
ink_go true at span d p ps e ih =
    ih (at + length p) span
    ∙ map_twice (to_part at span) (λ r. (p ∷ r.0, r.1)) (to_part (at + length p) span) (split_part d ps)
    (λ r. part_same _ _ _ _ _ _ refl
    (to_behind_blank p (to_ink r.0) at span.to ∙ ap (λ z. cond (is_nil (cond (z && is_nil (to_ink r.0)) [] (p ∷ to_ink r.0))) span.to (at + size (cond (z && is_nil (to_ink r.0)) [] (p ∷ to_ink r.0)))) (sym e))
    (add_assoc at (length p) (size r.0)))
ink_go false at span d p ps e ih =
    ih (at + length p) (record { from = span.from; to = at + length p })
    ∙ map_twice (to_part at span) (λ r. (p ∷ r.0, r.1)) (to_part (at + length p) (record { from = span.from; to = at + length p })) (split_part d ps)
    (λ r. part_same _ _ _ _ _ _ refl
    (to_behind_ink p (to_ink r.0) at span.to ∙ ap (λ z. cond (is_nil (cond (z && is_nil (to_ink r.0)) [] (p ∷ to_ink r.0))) span.to (at + size (cond (z && is_nil (to_ink r.0)) [] (p ∷ to_ink r.0)))) (sym e))
    (add_assoc at (length p) (size r.0)))

after_ink : (at : ℕ) (span : Span) (d : Depths) (ps : List (List ℕ)) → reading at (Some span) d ps ≡ option_map (to_part at span) (split_part d ps)
after_ink at span d [] = refl
after_ink at span d (p ∷ ps) =
    both (ends_part d (head_byte p))
    (ap (λ z. Some z) (part_same _ _ _ _ _ _ refl refl (sym (add-zero at))))
    (ink_go (is_blank p) at span (depths_after d (head_byte p)) p ps refl (λ a s. after_ink a s (depths_after d (head_byte p)) ps))
    ∙ map_choice (to_part at span) (ends_part d (head_byte p)) (Some ([], p ∷ ps)) (option_map (λ r. (p ∷ r.0, r.1)) (split_part (depths_after d (head_byte p)) ps))

blank_go : (b : Bool) (at : ℕ) (d : Depths) (p : List ℕ) (ps : List (List ℕ)) → is_blank p ≡ b → ((a : ℕ) → reading a None d ps ≡ option_map (trimmed_part a) (split_part d ps)) →
    reading (at + length p) (grown None at (length p) b) d ps ≡ option_map (trimmed_part at) (option_map (λ r. (p ∷ r.0, r.1)) (split_part d ps))
blank_go true at d p ps e ih =
    ih (at + length p)
    ∙ map_twice (trimmed_part at) (λ r. (p ∷ r.0, r.1)) (trimmed_part (at + length p)) (split_part d ps)
    (λ r.
    let front : at + length p + front_blanks r.0 ≡ at + cond (is_blank p) (length p + front_blanks r.0) 0 =
    add_assoc at (length p) (front_blanks r.0) ∙ ap (λ z. at + cond z (length p + front_blanks r.0) 0) (sym e) in
    part_same _ _ _ _ _ _ front
    (ap (λ n. n + size (to_ink (from_ink r.0))) front
    ∙ ap (λ z. at + cond (is_blank p) (length p + front_blanks r.0) 0 + size (to_ink (cond z (from_ink r.0) (p ∷ r.0)))) (sym e))
    (add_assoc at (length p) (size r.0)))
blank_go false at d p ps e ih =
    after_ink (at + length p) (record { from = at; to = at + length p }) d ps
    ∙ map_twice (trimmed_part at) (λ r. (p ∷ r.0, r.1)) (to_part (at + length p) (record { from = at; to = at + length p })) (split_part d ps)
    (λ r.
    let front : at ≡ at + cond (is_blank p) (length p + front_blanks r.0) 0 =
    sym (add-zero at) ∙ ap (λ z. at + cond z (length p + front_blanks r.0) 0) (sym e) in
    part_same _ _ _ _ _ _ front
    (first_ink p (to_ink r.0) at
    ∙ ap (λ z. at + size (cond (z && is_nil (to_ink r.0)) [] (p ∷ to_ink r.0))) (sym e)
    ∙ ap (λ n. n + size (to_ink (p ∷ r.0))) front
    ∙ ap (λ z. at + cond (is_blank p) (length p + front_blanks r.0) 0 + size (to_ink (cond z (from_ink r.0) (p ∷ r.0)))) (sym e))
    (add_assoc at (length p) (size r.0)))
  where
    first_ink : (p : List ℕ) (ns : List (List ℕ)) (at : ℕ) → cond (is_nil ns) (at + length p) (at + length p + size ns) ≡ at + size (cond (false && is_nil ns) [] (p ∷ ns))
    first_ink p [] at = ap (λ n. at + n) (sym (add-zero (length p)))
    first_ink p (n ∷ ns) at = add_assoc at (length p) (size (n ∷ ns))

before_ink : (at : ℕ) (d : Depths) (ps : List (List ℕ)) → reading at None d ps ≡ option_map (trimmed_part at) (split_part d ps)
before_ink at d [] = refl
before_ink at d (p ∷ ps) =
    both (ends_part d (head_byte p))
    (ap (λ z. Some z) (part_same _ _ _ _ _ _ (sym (add-zero at)) (sym (add-zero at) ∙ sym (add-zero (at + 0))) (sym (add-zero at))))
    (blank_go (is_blank p) at (depths_after d (head_byte p)) p ps refl (λ a. before_ink a (depths_after d (head_byte p)) ps))
    ∙ map_choice (trimmed_part at) (ends_part d (head_byte p)) (Some ([], p ∷ ps)) (option_map (λ r. (p ∷ r.0, r.1)) (split_part (depths_after d (head_byte p)) ps))

-- a text is a piece, and then the pieces of what is left
pub pieces_step : (text : List ℕ) → 0 < length text → pieces_of text ≡ take (1 + rest_of_piece text) text ∷ pieces_of (drop (1 + rest_of_piece text) text)
pieces_step [] h = absurd (omega arith)
pieces_step (v ∷ vs) h =
    pieces-cons first_piece tt v vs
    ∙ ap (λ n. take (1 + rest_of_piece (v ∷ vs)) (v ∷ vs) ∷ pieces_of (drop n (v ∷ vs))) (let e : suc (rest_of_piece (v ∷ vs)) ≡ 1 + rest_of_piece (v ∷ vs) = omega arith in e)

pub head-take : (n : ℕ) (text : List ℕ) → 0 < length text → head_byte (take (1 + n) text) ≡ head_byte text
head-take n [] h = absurd (omega arith)
head-take n (v ∷ vs) h = ap (λ m. head_byte (take m (v ∷ vs))) (let e : 1 + n ≡ suc n = omega arith in e)

head-drop : (text : List ℕ) (at : ℕ) → at < length text → head_byte (drop at text) ≡ get_or text at 0
head-drop text at h = ap head_byte (drop_more text at 0 h)

-- what a slice from a place on holds
pub tail_is : {X : Type 0} (at : ℕ) (text : List X) → take (length text - at) (drop at text) ≡ drop at text
tail_is at text = ap (λ n. take n (drop at text)) (sym (length-drop at text)) ∙ take-length (drop at text)

-- one more piece was read
reading_step : (text : List ℕ) (at : ℕ) (span : Option Span) (d : Depths) (len : ℕ) → at < length text → len ≡ 1 + rest_of_piece (drop at text) → len ≤ length (drop at text) →
    reading at span d (pieces_of (drop at text))
    ≡ cond (ends_part d (get_or text at 0)) (Some (record { span = unwrap_or span (record { from = at; to = at }); end = at }))
    (reading (at + len) (grown span at len (is_white_space (get_or text at 0))) (depths_after d (get_or text at 0)) (pieces_of (drop (at + len) text)))
reading_step text at span d len h e w =
    let some : 0 < length (drop at text) = omega (arith, length-drop at text) in
    let rest = pieces_of (drop (at + len) text) in
    let p = take len (drop at text) in
    let cut : pieces_of (drop at text) ≡ p ∷ rest =
    pieces_step (drop at text) some
    ∙ ap (λ n. take n (drop at text) ∷ pieces_of (drop n (drop at text))) (sym e)
    ∙ ap (λ t. p ∷ pieces_of t) (drop-drop len at text) in
    let head : head_byte p ≡ get_or text at 0 =
    ap (λ n. head_byte (take n (drop at text))) e ∙ head-take (rest_of_piece (drop at text)) (drop at text) some ∙ head-drop text at h in
    let size_is : length p ≡ len = length-take-le len (drop at text) w in
    ap (λ ps. reading at span d ps) cut
    ∙ ap (λ n. cond (ends_part d (head_byte p)) (Some (record { span = unwrap_or span (record { from = at; to = at }); end = at }))
    (reading (at + n) (grown span at n (is_white_space (head_byte p))) (depths_after d (head_byte p)) rest)) size_is
    ∙ ap (λ v. cond (ends_part d v) (Some (record { span = unwrap_or span (record { from = at; to = at }); end = at }))
    (reading (at + len) (grown span at len (is_white_space v)) (depths_after d v) rest)) head

-- as many brackets are open as bytes were read, at most
pub record IsIn (d : Depths) (n : ℕ) : Type 0 where
  pub square : d.square ≤ n
  pub curly : d.curly ≤ n

closed_within : (ps : List (ℕ × ℕ)) (d : Depths) (n m : ℕ) → IsIn d n → n < m → IsIn (closed ps d) m
closed_within [] d n m h l = let a : d.square ≤ n = h.square in let b : d.curly ≤ n = h.curly in record { square = omega arith; curly = omega arith }
closed_within (p ∷ ps) d n m h l = let a : d.square ≤ n = h.square in let b : d.curly ≤ n = h.curly in record { square = omega arith; curly = omega arith }

either : (P : Depths → Type 0) (b : Bool) {x y : Depths} → P x → P y → P (cond b x y)
either P true p q = p
either P false p q = q

depths_within : (d : Depths) (v n m : ℕ) → IsIn d n → n < m → IsIn (depths_after d v) m
depths_within d v n m h l =
    let a : d.square ≤ n = h.square in
    let b : d.curly ≤ n = h.curly in
    let P = λ (x : Depths). IsIn x m in
    either P (v == 40) (record { square = omega arith; curly = omega arith })
    (either P (v == 41) (closed_within d.parens d n m h l)
    (either P (v == 91) (record { square = omega arith; curly = omega arith })
    (either P (v == 93) (record { square = omega arith; curly = omega arith })
    (either P (v == 123) (record { square = omega arith; curly = omega arith })
    (either P (v == 125) (record { square = omega arith; curly = omega arith })
    (record { square = omega arith; curly = omega arith }))))))

cond_true : {X : Type 0} (b : Bool) (x y : X) → b ≡ true → cond b x y ≡ x
cond_true b x y e = ap (λ z. cond z x y) e

-- what is left to read gives the part
pub record IsUnderWay (text : List ℕ) (from at : ℕ) (span : Option Span) (d : Depths) : Type 0 where
  pub same : reading at span d (pieces_of (drop at text)) ≡ part_of text from
  pub behind : from ≤ at
  pub within : at ≤ length text
  pub depths : IsIn d at

pub begins : (text : List ℕ) (from : ℕ) → from ≤ length text → IsUnderWay text from from None all_closed
begins text from h =
    record {
      same =
          before_ink from all_closed (pieces_of (drop from text));
      behind = omega arith;
      within = h;
      depths = record { square = omega arith; curly = omega arith };
    }

pub goes_on : (text : List ℕ) (from at : ℕ) (span : Option Span) (d : Depths) (len byte : ℕ) {b : Bool} → IsUnderWay text from at span d → at < length text → byte ≡ get_or text at 0 →
    len ≡ 1 + rest_of_piece (drop at text) → len ≤ length (drop at text) → b ≡ ends_part d byte → b ≡ false →
    IsUnderWay text from (at + len) (grown span at len (is_white_space byte)) (depths_after d byte)
goes_on text from at span d len byte {b} h l v e w q r =
    record {
      same =
          ap (λ x. reading (at + len) (grown span at len (is_white_space x)) (depths_after d x) (pieces_of (drop (at + len) text))) v
          ∙ sym (reading_step text at span d len l e w
          ∙ ap (λ x. cond x (Some (record { span = unwrap_or span (record { from = at; to = at }); end = at }))
          (reading (at + len) (grown span at len (is_white_space (get_or text at 0))) (depths_after d (get_or text at 0)) (pieces_of (drop (at + len) text))))
          (ap (λ x. ends_part d x) (sym v) ∙ sym q ∙ r))
          ∙ h.same;
      behind = omega arith;
      within = omega (arith, length-drop at text);
      depths = depths_within d byte at (at + len) h.depths (omega arith);
    }

pub stops : (text : List ℕ) (from at : ℕ) (span : Option Span) (d : Depths) (byte : ℕ) {b : Bool} → IsUnderWay text from at span d → at < length text → byte ≡ get_or text at 0 → b ≡ ends_part d byte → b ≡ true →
    Some (record { span = unwrap_or span (record { from = at; to = at }); end = at }) ≡ part_of text from
stops text from at span d byte h l v q r =
    let some : 0 < length (drop at text) = omega (arith, length-drop at text) in
    let head : head_byte (take (1 + rest_of_piece (drop at text)) (drop at text)) ≡ byte =
    head-take (rest_of_piece (drop at text)) (drop at text) some ∙ head-drop text at l ∙ sym v in
    sym (ap (λ ps. reading at span d ps) (pieces_step (drop at text) some) ∙ cond_true _ _ _ (ap (λ x. ends_part d x) head ∙ sym q ∙ r)) ∙ h.same

pub ends : (text : List ℕ) (from at : ℕ) (span : Option Span) (d : Depths) → IsUnderWay text from at span d → length text ≤ at → None ≡ part_of text from
ends text from at span d h l =
    sym (ap (λ t. reading at span d (pieces_of t)) (drop_all at text l) ∙ ap (λ ps. reading at span d ps) (pieces-nil first_piece tt)) ∙ h.same
