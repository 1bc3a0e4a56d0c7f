-- Laws of the stack.
use Rattle.std.proofs.Common.{true, cond, Bool, false, nat_eq, ◌≡◌, ℕ, suc, zero, ◌+◌, ◌-◌, ◌<◌, ◌≤◌, ◌^◌, List, [], ◌∷◌, ◌++◌, length, take, drop, map, get_or, set, refl, ap, sym, subst, ◌∙◌, arith, append_assoc, length-drop, length-take, length-append}
use Rattle.std.specs.List.{count_by}
use Rattle.std.proofs.lemmas.List.Sums.{count_by-le-length}
use Rattle.std.proofs.lemmas.List.{take_more, take_all, take-append-le, append-nil, drop-append-le, drop-drop, set_at, take_at, drop_at, length-take-le}
use Rattle.sve_bytes.specs.LineColumn.{is_line_feed}
use Rattle.sve_origin.specs.Origins.{Origin, Cell, moved, marked}
use Rattle.sve_origin.proofs.Marks.{moved-add}
use Rattle.sve_unread.specs.Bytes.{Byte, laid, line_past, cell, front, value_of, ahead}
use Rattle.sve_unread.specs.Frames.{frame_origin, left_of, left_of_all, frame_depth, passed, AreAbove, AreBelow, IsOpen, AreNested, IsTop}
use Rattle.sve_unread.specs.declared.frame.Frame.{Frame}
use Rattle.sve_unread.specs.Head.{head_origin, head_line, head_macros, head_level, IsDeeper, height}
use Rattle.sve_unread.proofs.Laid.{take-laid, cells-laid, drop-laid, values, length-laid, line_past-count, AreAt, AreLess, AreAt-laid, AreLess-at, AreLess-append, front-append}

pub left_of_all-push : (fs : List Frame) (f : Frame) → left_of_all (fs ++ f ∷ []) ≡ left_of f ++ left_of_all fs
left_of_all-push [] f = sym (append-nil (left_of f))
left_of_all-push (g ∷ gs) f = ap (λ r. r ++ left_of g) (left_of_all-push gs f) ∙ append_assoc (left_of f) (left_of_all gs) (left_of g)

above_last : (d : ℕ) (fs : List Frame) (f : Frame) → AreAbove d (fs ++ f ∷ []) → AreAbove d fs × (d < frame_depth f)
above_last d [] f p = (tt, p.0)
above_last d (g ∷ gs) f p = let r = above_last d gs f p.1 in ((p.0, r.0), r.1)

above_push : (d : ℕ) (fs : List Frame) (f : Frame) → AreAbove d fs → d < frame_depth f → AreAbove d (fs ++ f ∷ [])
above_push d [] f p h = (h, tt)
above_push d (g ∷ gs) f p h = (p.0, above_push d gs f p.1 h)

-- the last text, and those around it
pub record Last (fs : List Frame) (f : Frame) : Type 0 where
  pub open_ : IsOpen f
  pub below : AreBelow (frame_depth f) fs
  pub nested : AreNested fs

pub last_of : (fs : List Frame) (f : Frame) → AreNested (fs ++ f ∷ []) → Last fs f
last_of [] f p = record { open_ = p.0; below = tt; nested = tt }
last_of (g ∷ gs) f p =
    let r = last_of gs f p.2 in
    let a = above_last (frame_depth g) gs f p.1 in
    record { open_ = r.open_; below = (a.1, r.below); nested = (p.0, a.0, r.nested) }

pub AreNested-push : (fs : List Frame) (f : Frame) → Last fs f → AreNested (fs ++ f ∷ [])
AreNested-push [] f p = (p.open_, tt, tt)
AreNested-push (g ∷ gs) f p =
    (p.nested.0, above_push (frame_depth g) gs f p.nested.1 p.below.0, AreNested-push gs f (record { open_ = p.open_; below = p.below.1; nested = p.nested.2 }))

AreAt-left : (f : Frame) → AreAt (frame_depth f) (left_of f)
AreAt-left f = AreAt-laid (drop f.at f.text.value) (moved f.at (frame_origin f)) f.line f.macros f.level

AreLess-left : (d : ℕ) (fs : List Frame) → AreBelow d fs → AreLess d (left_of_all fs)
AreLess-left d [] p = tt
AreLess-left d (f ∷ fs) p = AreLess-append d (left_of_all fs) (left_of f) (AreLess-left d fs p.1) (AreLess-at (frame_depth f) d (left_of f) p.0 (AreAt-left f))

pub length-left : (f : Frame) → length (left_of f) ≡ length f.text.value - f.at
length-left f = length-laid _ _ _ _ _ ∙ length-drop f.at f.text.value

-- what is read next is what is left of the last text
front-left : (fs : List Frame) (f : Frame) → Last fs f → front (left_of_all (fs ++ f ∷ [])) ≡ left_of f
front-left fs f p =
    let more = p.open_.more in
    ap front (left_of_all-push fs f) ∙ front-append (frame_depth f) (left_of f) (left_of_all fs) (omega (arith, length-left f)) (AreAt-left f) (AreLess-left (frame_depth f) fs p.below)

ahead-left : (fs : List Frame) (f : Frame) → Last fs f → ahead (left_of_all (fs ++ f ∷ [])) ≡ drop f.at f.text.value
ahead-left fs f p = ap (map value_of) (front-left fs f p) ∙ values _ _ _ _ _

pub split_last : (fs : List Frame) (d : Frame) → 0 < length fs → fs ≡ take (length fs - 1) fs ++ get_or fs (length fs - 1) d ∷ []
split_last fs d h =
    sym (take_all (length fs - 1 + 1) fs (omega arith)) ∙ take_more fs (length fs - 1) d (omega arith)

-- the last text is read next
IsTop-last : (fs : List Frame) (f : Frame) → Last fs f → IsTop f (left_of_all (fs ++ f ∷ []))
IsTop-last fs f p = record { is_open = p.open_; rest = left_of_all fs; is = left_of_all-push fs f; front_is = front-left fs f p }

pub IsTop-nested : (gs : List Frame) (d : Frame) → 0 < length gs → AreNested gs → IsTop (get_or gs (length gs - 1) d) (left_of_all gs)
IsTop-nested gs d h p =
    let e = split_last gs d h in
    let l = last_of (take (length gs - 1) gs) (get_or gs (length gs - 1) d) (subst AreNested e p) in
    subst (λ (hs : List Frame). IsTop (get_or gs (length gs - 1) d) (left_of_all hs)) (sym e) (IsTop-last _ _ l)

-- where something is left, a text is open
pub some_open : (fs : List Frame) (bs : List Byte) → left_of_all fs ≡ bs → 0 < length bs → 0 < length fs
some_open [] bs e h = absurd (omega (arith, ap length e))
some_open (f ∷ fs) bs e h = omega arith

pub some_left : (fs : List Frame) → AreNested fs → left_of_all fs ≡ [] → fs ≡ []
some_left [] p e = refl
some_left (f ∷ fs) p e =
    let m = p.0.more in
    absurd (omega (arith, length-left f, ap length e, length-append (left_of_all fs) (left_of f)))

-- what the first byte of a text says
pub record SaysOf (o : Origin) (line : ℕ) (ms : List (List ℕ)) (l : ℕ) (bs : List Byte) : Type 0 where
  pub origin : head_origin bs ≡ o
  pub line_is : head_line bs ≡ line
  pub macros : head_macros bs ≡ ms
  pub level : head_level bs ≡ l

first_says : (vs : List ℕ) (o : Origin) (line : ℕ) (ms : List (List ℕ)) (l : ℕ) (r : List Byte) → 0 < length vs → SaysOf o line ms l (laid vs o line ms l ++ r)
first_says [] o line ms l r h = absurd (omega arith)
first_says (v ∷ vs) o line ms l r h = record { origin = refl; line_is = refl; macros = refl; level = refl }

pub top_says : (f : Frame) (bs : List Byte) → IsTop f bs → SaysOf (moved f.at (frame_origin f)) f.line f.macros f.level bs
top_says f bs p =
    let m = p.is_open.more in
    subst (SaysOf (moved f.at (frame_origin f)) f.line f.macros f.level) (sym p.is)
    (first_says _ _ _ _ _ p.rest (omega (arith, length-drop f.at f.text.value)))

pub top_ahead : (f : Frame) (bs : List Byte) → IsTop f bs → ahead bs ≡ drop f.at f.text.value
top_ahead f bs p = ap (map value_of) p.front_is ∙ values _ _ _ _ _

-- the next n bytes, as they are written
pub top_cells : (f : Frame) (bs : List Byte) (n : ℕ) → IsTop f bs → n ≤ length (ahead bs) → map cell (take n bs) ≡ marked (take n (drop f.at f.text.value)) (moved f.at (frame_origin f))
top_cells f bs n p h =
    let k : n ≤ length (left_of f) = omega (arith, ap length (top_ahead f bs p), length-left f, length-drop f.at f.text.value) in
    ap (λ r. map cell (take n r)) p.is
    ∙ ap (map cell) (take-append-le n (left_of f) p.rest k ∙ take-laid n (drop f.at f.text.value) (moved f.at (frame_origin f)) f.line f.macros f.level)
    ∙ cells-laid _ _ f.line f.macros f.level

left_of-passed : (f : Frame) (n : ℕ) → left_of (passed n f) ≡ drop n (left_of f)
left_of-passed f n =
    let line = line_past f.copied (take n (drop f.at f.text.value)) f.line in
    ap (λ (vs : List ℕ). laid vs (moved (f.at + n) (frame_origin f)) line f.macros f.level) (sym (drop-drop n f.at f.text.value))
    ∙ ap (λ (o : Origin). laid (drop n (drop f.at f.text.value)) o line f.macros f.level) (sym (moved-add f.at n (frame_origin f)))
    ∙ sym (drop-laid n (drop f.at f.text.value) (moved f.at (frame_origin f)) f.line f.macros f.level)

left_of_all-passed : (fs : List Frame) (f : Frame) (n : ℕ) → n ≤ length (left_of f) → left_of_all (fs ++ passed n f ∷ []) ≡ drop n (left_of_all (fs ++ f ∷ []))
left_of_all-passed fs f n h =
    left_of_all-push fs (passed n f) ∙ ap (λ r. r ++ left_of_all fs) (left_of-passed f n)
    ∙ sym (drop-append-le n (left_of f) (left_of_all fs) h) ∙ ap (drop n) (sym (left_of_all-push fs f))

line_fits : (c : Bool) (line k n left : ℕ) → k ≤ n → n ≤ left → line + cond c left 0 < 2 ^ 32 → (line + cond c k 0) + cond c (left - n) 0 < 2 ^ 32
line_fits true line k n left h i p = omega arith
line_fits false line k n left h i p = omega arith

-- the lines of a text that went on have 32 bits
pub lines-passed : (f : Frame) (n : ℕ) → IsOpen f → f.at + n ≤ length f.text.value → (passed n f).line + cond f.copied (length f.text.value - (f.at + n)) 0 < 2 ^ 32
lines-passed f n p h =
    let piece = take n (drop f.at f.text.value) in
    let more = p.more in
    let k : count_by is_line_feed piece ≤ n = omega (arith, count_by-le-length is_line_feed piece, length-take n (drop f.at f.text.value)) in
    let e : length f.text.value - (f.at + n) ≡ length f.text.value - f.at - n = omega arith in
    subst (λ (l : ℕ). l + cond f.copied (length f.text.value - (f.at + n)) 0 < 2 ^ 32) (sym (line_past-count f.copied piece f.line))
    (subst (λ (r : ℕ). (f.line + cond f.copied (count_by is_line_feed piece) 0) + cond f.copied r 0 < 2 ^ 32) (sym e)
    (line_fits f.copied f.line (count_by is_line_feed piece) n (length f.text.value - f.at) k (omega arith) p.lines))

AreNested-passed : (fs : List Frame) (f : Frame) (n : ℕ) → AreNested (fs ++ f ∷ []) → f.at + n < length f.text.value → AreNested (fs ++ passed n f ∷ [])
AreNested-passed fs f n p h =
    let l = last_of fs f p in
    AreNested-push fs (passed n f) (record { open_ = record { more = h; short = l.open_.short; offsets = l.open_.offsets; lines = lines-passed f n l.open_ (omega arith); shallow = l.open_.shallow }; below = l.below; nested = l.nested })

below_more_deep : (d e : ℕ) (fs : List Frame) → d < e → AreBelow d fs → AreBelow e fs
below_more_deep d e [] h p = tt
below_more_deep d e (f ∷ fs) h p = (omega arith, below_more_deep d e fs h p.1)

below_push : (d : ℕ) (fs : List Frame) (f : Frame) → AreBelow d fs → frame_depth f < d → AreBelow d (fs ++ f ∷ [])
below_push d [] f p h = (h, tt)
below_push d (g ∷ gs) f p h = (p.0, below_push d gs f p.1 h)

deeper_head : (d e : ℕ) (xs ys : List Byte) → 0 < length xs → AreAt e xs → IsDeeper d (xs ++ ys) → e < d
deeper_head d e [] ys h p q = absurd (omega arith)
deeper_head d e (x ∷ xs) ys h p q = omega arith

deeper_last : (d : ℕ) (fs : List Frame) (f : Frame) → AreNested (fs ++ f ∷ []) → IsDeeper d (left_of_all (fs ++ f ∷ [])) → AreBelow d (fs ++ f ∷ [])
deeper_last d fs f p q =
    let l = last_of fs f p in
    let more = l.open_.more in
    let h : frame_depth f < d = deeper_head d (frame_depth f) (left_of f) (left_of_all fs) (omega (arith, length-left f)) (AreAt-left f) (subst (IsDeeper d) (left_of_all-push fs f) q) in
    below_push d fs f (below_more_deep (frame_depth f) d fs h l.below) h

-- a new text stands before the rest
pub deeper_below : (gs : List Frame) (d : ℕ) → AreNested gs → IsDeeper d (left_of_all gs) → AreBelow d gs
deeper_below [] d p q = tt
deeper_below (g ∷ gs) d p q =
    let e = split_last (g ∷ gs) g (omega arith) in
    let q2 = subst (λ (hs : List Frame). IsDeeper d (left_of_all hs)) e q in
    subst (AreBelow d) (sym e) (deeper_last d _ _ (subst AreNested e p) q2)

-- a text that is opened stands before what was left
pub opened : (gs fs : List Frame) (f : Frame) (text : List ℕ) (o : Origin) (bs : List Byte) → gs ≡ fs ++ f ∷ [] → left_of_all fs ≡ bs → left_of f ≡ laid text o f.line f.macros f.level → left_of_all gs ≡ laid text o f.line f.macros f.level ++ bs
opened gs fs f text o bs e h k = ap left_of_all e ∙ left_of_all-push fs f ∙ ap (λ r. left_of f ++ r) h ∙ ap (λ r. r ++ bs) k

-- what going on in the last text gives
pub record Moves (fs : List Frame) (bs : List Byte) (top : Frame) (last n : ℕ) : Type 0 where
  pub is_open : IsOpen top
  pub within : top.at + n ≤ length top.text.value
  pub on_nested : top.at + n < length top.text.value → AreNested (set fs last (passed n top))
  pub on_left : left_of_all (set fs last (passed n top)) ≡ drop n bs
  pub end_nested : AreNested (take last (set fs last (passed n top)))
  pub end_left : top.at + n ≡ length top.text.value → left_of_all (take last (set fs last (passed n top))) ≡ drop n bs

some_ahead : (fs : List Frame) (bs : List Byte) (n : ℕ) → left_of_all fs ≡ bs → 0 < n → n ≤ length (ahead bs) → 0 < length fs
some_ahead [] bs n e h k = absurd (omega (arith, ap (λ r. length (ahead r)) e))
some_ahead (f ∷ fs) bs n e h k = omega arith

moves_last : (gs : List Frame) (top : Frame) (n last : ℕ) (fs : List Frame) → fs ≡ gs ++ top ∷ [] → length gs ≡ last → AreNested (gs ++ top ∷ []) → n ≤ length (ahead (left_of_all (gs ++ top ∷ []))) → Moves fs (left_of_all (gs ++ top ∷ [])) top last n
moves_last gs top n last fs e l p h =
    let q = last_of gs top p in
    let a = ahead-left gs top q in
    let m = q.open_.more in
    let w : top.at + n ≤ length top.text.value = omega (arith, ap length a, length-drop top.at top.text.value) in
    let k : n ≤ length (left_of top) = omega (arith, length-left top) in
    let s : set fs last (passed n top) ≡ gs ++ passed n top ∷ [] = ap (λ r. set r last (passed n top)) e ∙ set_at gs top [] (passed n top) last l in
    let t : take last (set fs last (passed n top)) ≡ gs = ap (take last) s ∙ take_at gs (passed n top ∷ []) last l in
    record {
      is_open = q.open_;
      within = w;
      on_nested = λ u. subst AreNested (sym s) (AreNested-passed gs top n p u);
      on_left = ap left_of_all s ∙ left_of_all-passed gs top n k;
      end_nested = subst AreNested (sym t) q.nested;
      end_left = λ u. ap left_of_all t ∙ sym (drop_at (left_of top) (left_of_all gs) n (omega (arith, length-left top))) ∙ ap (drop n) (sym (left_of_all-push gs top));
    }

pub moves : (fs : List Frame) (bs : List Byte) (top : Frame) (last n : ℕ) → left_of_all fs ≡ bs → AreNested fs → 0 < n → n ≤ length (ahead bs) → last ≡ length fs - 1 → top ≡ get_or fs last top → Moves fs bs top last n
moves fs bs top last n v p h k l g =
    let some = some_ahead fs bs n v h k in
    let e : fs ≡ take last fs ++ top ∷ [] = split_last fs top some ∙ ap (λ r. take r fs ++ get_or fs r top ∷ []) (sym l) ∙ ap (λ r. take last fs ++ r ∷ []) (sym g) in
    let b : bs ≡ left_of_all (take last fs ++ top ∷ []) = sym v ∙ ap left_of_all e in
    subst (λ (r : List Byte). Moves fs r top last n) (sym b)
    (moves_last (take last fs) top n last fs e (length-take-le last fs (omega arith)) (subst AreNested e p) (subst (λ (r : List Byte). n ≤ length (ahead r)) b k))

pub written : (f : Frame) (cells : List Cell) (piece front_piece : List ℕ) {offset : ℕ} → cells ≡ marked front_piece (moved f.at (frame_origin f)) → piece ≡ front_piece → offset ≡ (moved f.at (frame_origin f)).offset → marked piece (record { file = f.file; offset = offset; copied = f.copied }) ≡ cells
written f cells piece front_piece e h o =
    ap (λ k. marked piece (record { file = f.file; offset = k; copied = f.copied })) o ∙ ap (λ r. marked r (moved f.at (frame_origin f))) h ∙ sym e

AreLess-drop : (d n : ℕ) (bs : List Byte) → AreLess d bs → AreLess d (drop n bs)
AreLess-drop d zero bs p = p
AreLess-drop d (suc n) [] p = tt
AreLess-drop d (suc n) (b ∷ bs) p = AreLess-drop d n bs p.1

AreLess-deeper : (d : ℕ) (bs : List Byte) → AreLess d bs → IsDeeper d bs
AreLess-deeper d [] p = tt
AreLess-deeper d (b ∷ bs) p = p.0

AreLess-more : (d e : ℕ) (bs : List Byte) → d ≤ e → AreLess d bs → AreLess e bs
AreLess-more d e [] h p = tt
AreLess-more d e (b ∷ bs) h p = (omega arith, AreLess-more d e bs h p.1)

height_at : (d : ℕ) (xs ys : List Byte) → 0 < length xs → AreAt d xs → height (xs ++ ys) ≡ d
height_at d [] ys h p = absurd (omega arith)
height_at d (x ∷ xs) ys h p = p.0

lower_last : (fs : List Frame) (f : Frame) (n : ℕ) → AreNested (fs ++ f ∷ []) → IsDeeper (height (left_of_all (fs ++ f ∷ [])) + 1) (drop n (left_of_all (fs ++ f ∷ [])))
lower_last fs f n p =
    let l = last_of fs f p in
    let m = l.open_.more in
    let d = frame_depth f in
    let e = left_of_all-push fs f in
    let h : height (left_of_all (fs ++ f ∷ [])) ≡ d = ap height e ∙ height_at d (left_of f) (left_of_all fs) (omega (arith, length-left f)) (AreAt-left f) in
    let a : AreLess (d + 1) (left_of f ++ left_of_all fs) = AreLess-append (d + 1) (left_of f) (left_of_all fs) (AreLess-at d (d + 1) (left_of f) (omega arith) (AreAt-left f)) (AreLess-more d (d + 1) (left_of_all fs) (omega arith) (AreLess-left d fs l.below)) in
    subst (λ (k : ℕ). IsDeeper (k + 1) (drop n (left_of_all (fs ++ f ∷ [])))) (sym h)
    (subst (λ (bs : List Byte). IsDeeper (d + 1) (drop n bs)) (sym e) (AreLess-deeper (d + 1) _ (AreLess-drop (d + 1) n _ a)))

-- what is left later is no deeper
lower : (gs : List Frame) (n : ℕ) → AreNested gs → IsDeeper (height (left_of_all gs) + 1) (drop n (left_of_all gs))
lower [] zero p = tt
lower [] (suc n) p = tt
lower (g ∷ gs) n p =
    let e = split_last (g ∷ gs) g (omega arith) in
    subst (λ (hs : List Frame). IsDeeper (height (left_of_all hs) + 1) (drop n (left_of_all hs))) (sym e) (lower_last _ _ n (subst AreNested e p))

pub lower_along : (gs : List Frame) (n : ℕ) (old : List Byte) (new : List Byte) → AreNested gs → left_of_all gs ≡ old → new ≡ drop n old → IsDeeper (height old + 1) new
lower_along gs n old new p v e =
    subst (IsDeeper (height old + 1)) (sym e) (subst (λ (bs : List Byte). IsDeeper (height bs + 1) (drop n bs)) v (lower gs n p))

pub top_height : (f : Frame) (bs : List Byte) → IsTop f bs → height bs ≡ frame_depth f
top_height f bs p = let m = p.is_open.more in ap height p.is ∙ height_at (frame_depth f) (left_of f) p.rest (omega (arith, length-left f)) (AreAt-left f)

at_end : (c : Bool) (o at n m : ℕ) → m ≡ n - at → at < n → (o + cond c at 0) + cond c m 0 ≡ o + cond c n 0
at_end true o at n m e h = omega arith
at_end false o at n m e h = omega arith

pub top_end : (f : Frame) (bs : List Byte) → IsTop f bs → (moved (length (ahead bs)) (head_origin bs)).offset ≡ f.offset + cond f.copied (length f.text.value) 0
top_end f bs p =
    ap (λ o. (moved (length (ahead bs)) o).offset) (top_says f bs p).origin
    ∙ at_end f.copied f.offset f.at (length f.text.value) (length (ahead bs)) (ap length (top_ahead f bs p) ∙ length-drop f.at f.text.value) p.is_open.more

-- the offsets of a text that is copied have 32 bits
pub offset_fits : (f : Frame) (n : ℕ) → IsOpen f → f.copied ≡ true → n ≤ length f.text.value → f.offset + n < 4294967296
offset_fits f n p e h = let k : f.offset + length f.text.value < 4294967296 = subst (λ (b : Bool). f.offset + cond b (length f.text.value) 0 < 4294967296) e p.offsets in omega arith

rest_fits : (c : Bool) (o at n m : ℕ) → o + cond c n 0 < 2 ^ 32 → at + m ≤ n → (o + cond c at 0) + cond c m 0 < 2 ^ 32
rest_fits true o at n m h k = omega arith
rest_fits false o at n m h k = omega arith

-- and so have those of the next bytes
pub piece_fits : (f : Frame) (n : ℕ) {offset m : ℕ} → IsOpen f → f.at + n ≤ length f.text.value → offset ≡ (moved f.at (frame_origin f)).offset → m ≡ n → offset + cond f.copied m 0 < 2 ^ 32
piece_fits f n {m = m} p h e k =
    subst (λ (o : ℕ). o + cond f.copied m 0 < 2 ^ 32) (sym e) (subst (λ (i : ℕ). (moved f.at (frame_origin f)).offset + cond f.copied i 0 < 2 ^ 32) (sym k) (rest_fits f.copied f.offset f.at (length f.text.value) n p.offsets h))

-- what going on in the last text leaves, where this is the text then
pub record Passes (fs : List Frame) (bs : List Byte) (new : Frame) (size last n : ℕ) : Type 0 where
  pub on_nested : new.at < size → AreNested (set fs last new)
  pub on_left : left_of_all (set fs last new) ≡ drop n bs
  pub end_nested : AreNested (take last (set fs last new))
  pub end_left : new.at ≡ size → left_of_all (take last (set fs last new)) ≡ drop n bs

pub passes : (fs : List Frame) (bs : List Byte) (top new : Frame) (last n : ℕ) → Moves fs bs top last n → new ≡ passed n top → Passes fs bs new (length new.text.value) last n
passes fs bs top new last n m e =
    subst (λ (g : Frame). Passes fs bs g (length g.text.value) last n) (sym e)
    (record { on_nested = m.on_nested; on_left = m.on_left; end_nested = m.end_nested; end_left = m.end_left })

-- where the bytes are not read to their end
pub not_at_end : (f : Frame) (n : ℕ) (new : Frame) (bytes : List ℕ) → new ≡ passed n f → f.at + n ≤ length f.text.value → bytes ≡ new.text.value → (new.at ≡ length bytes → ⊥) → new.at < length new.text.value
not_at_end f n new bytes e h b ne =
    let k : new.at ≡ f.at + n = ap (λ (g : Frame). g.at) e in
    let l : length new.text.value ≡ length f.text.value = ap (λ (g : Frame). length g.text.value) e in
    let m : length bytes ≡ length new.text.value = ap length b in omega arith

-- the line feeds of the next bytes of a text that is copied
pub count_fits : (f : Frame) (n count : ℕ) (bytes : List ℕ) → IsOpen f → f.copied ≡ true → f.at + n ≤ length f.text.value → count ≤ length bytes → length bytes ≤ n → f.line + count < 2 ^ 32
count_fits f n count bytes p c h k l =
    let more = p.more in
    let q : f.line + (length f.text.value - f.at) < 2 ^ 32 = subst (λ (b : Bool). f.line + cond b (length f.text.value - f.at) 0 < 2 ^ 32) c p.lines in omega arith

pub line_is : (f : Frame) (n count : ℕ) (bytes : List ℕ) → f.copied ≡ true → count ≡ count_by is_line_feed bytes → bytes ≡ take n (drop f.at f.text.value) → f.line + count ≡ (passed n f).line
line_is f n count bytes c e h =
    ap (λ (k : ℕ). f.line + k) (e ∙ ap (count_by is_line_feed) h)
    ∙ ap (λ (b : Bool). f.line + cond b (count_by is_line_feed (take n (drop f.at f.text.value))) 0) (sym c)
    ∙ sym (line_past-count f.copied (take n (drop f.at f.text.value)) f.line)

line_stays : (b : Bool) (line k : ℕ) → b ≡ false → line + cond b k 0 ≡ line
line_stays true line k e = cc
line_stays false line k e = omega arith

pub line_kept : (f : Frame) (n : ℕ) → f.copied ≡ false → f.line ≡ (passed n f).line
line_kept f n c = sym (line_past-count f.copied (take n (drop f.at f.text.value)) f.line ∙ line_stays f.copied f.line _ c)

not_empty : (n m : ℕ) {b : Bool} → b ≡ false → b ≡ nat_eq n 0 → n ≡ m → 0 < m
not_empty n m p q e = grind arith

-- what a new text must be
pub opens : (fs : List Frame) (f : Frame) (bs : List Byte) (n : ℕ) {b : Bool} → AreNested fs → left_of_all fs ≡ bs → IsDeeper (frame_depth f) bs → f.at ≡ 0 → b ≡ false → b ≡ nat_eq n 0 → n ≡ length f.text.value → length f.text.value < 2 ^ 32 → f.offset + cond f.copied (length f.text.value) 0 < 2 ^ 32 → f.line + cond f.copied (length f.text.value) 0 < 2 ^ 32 → length f.macros + f.level < 2 ^ 64 → AreNested (fs ++ f ∷ [])
opens fs f bs n p v d a t z e s o l h =
    let m : 0 < length f.text.value = not_empty n (length f.text.value) t z e in
    let k : length f.text.value ≡ length f.text.value - f.at = omega arith in
    AreNested-push fs f (record {
      open_ = record { more = omega arith; short = s; offsets = o; lines = subst (λ (r : ℕ). f.line + cond f.copied r 0 < 2 ^ 32) k l; shallow = h };
      below = deeper_below fs (frame_depth f) p (subst (IsDeeper (frame_depth f)) (sym v) d);
      nested = p;
    })
