-- A cursor goes along the segments as the spots of the bytes do.
use Rattle.std.proofs.Common.{◌≡◌, ℕ, zero, suc, ◌+◌, ◌-◌, ◌<◌, ◌≤◌, Bool, true, false, ◌&&◌, cond, nat_eq, List, [], ◌∷◌, length, drop, get_or, refl, sym, ap, ◌∙◌, arith, sub-one, add-one, ne_eqb, eq-eqb}
use Rattle.std.specs.Str.{bytes_eq}
use Rattle.std.proofs.Math.Seq.{drop-cons}
use Rattle.sve_origin.specs.Origins.{Origin, Spot, next, moved, origin_of}
use Rattle.sve_origin.specs.declared.segment.Segment.{Segment}
use Rattle.sve_lex.specs.Tokens.{follows}
use Rattle.sve_lex.specs.Spots.{file_at, steps, goes_on_for, IsBefore}
use Rattle.sve_lex.proofs.Tables.{text_same}

pub file_is : (n : ℕ) (ss : List Segment) (d : Segment) → n < length ss → file_at n ss ≡ (get_or ss n d).place.file
file_is n [] d l = absurd (omega arith)
file_is zero (s ∷ ss) d l = refl
file_is (suc n) (s ∷ ss) d l = file_is n ss d (omega arith)

-- where no segment begins, the origin goes on
next_on : (at : ℕ) (o : Origin) (ss : List Segment) → IsBefore (at + 1) ss → next (record { at = at; origin = o; later = ss }) ≡ record { at = at + 1; origin = moved 1 o; later = ss }
unfolding next
next_on at o [] h = refl
next_on at o (s ∷ ss) h =
    let n : nat_eq s.from (at + 1) ≡ false = ne_eqb s.from (at + 1) (λ e. absurd (omega (arith, h, e))) in
    rw n refl

before_less : (n m : ℕ) (ss : List Segment) → n ≤ m → IsBefore m ss → IsBefore n ss
before_less n m [] l h = tt
before_less n m (s ∷ ss) l h = omega (arith, h)

before_same : (n m : ℕ) (ss : List Segment) → n ≡ m → IsBefore m ss → IsBefore n ss
before_same n m ss e h = before_less n m ss (omega arith) h

moved_zero : (o : Origin) → moved 0 o ≡ o
moved_zero o = at o.copied refl
  where
    at : (b : Bool) → o.copied ≡ b → moved 0 o ≡ o
    at true e = let f : o.offset + cond o.copied 0 0 ≡ o.offset = rw e (omega arith) in ap (λ n. record { file = o.file; offset = n; copied = o.copied }) f
    at false e = let f : o.offset + cond o.copied 0 0 ≡ o.offset = rw e (omega arith) in ap (λ n. record { file = o.file; offset = n; copied = o.copied }) f

moved_more : (n : ℕ) (o : Origin) → moved n (moved 1 o) ≡ moved (suc n) o
moved_more n o = at o.copied refl
  where
    at : (b : Bool) → o.copied ≡ b → moved n (moved 1 o) ≡ moved (suc n) o
    at true e = let f : o.offset + cond o.copied 1 0 + cond o.copied n 0 ≡ o.offset + cond o.copied (suc n) 0 = rw e (omega arith) in ap (λ m. record { file = o.file; offset = m; copied = o.copied }) f
    at false e = let f : o.offset + cond o.copied 1 0 + cond o.copied n 0 ≡ o.offset + cond o.copied (suc n) 0 = rw e (omega arith) in ap (λ m. record { file = o.file; offset = m; copied = o.copied }) f

pub jump_spot : (n at : ℕ) (o : Origin) (ss : List Segment) → IsBefore (at + n) ss → steps n (record { at = at; origin = o; later = ss }) ≡ record { at = at + n; origin = moved n o; later = ss }
jump_spot zero at o ss h =
    let e : at ≡ at + 0 = omega arith in
    ap (λ m. record { at = m; origin = o; later = ss }) e ∙ ap (λ q. record { at = at + 0; origin = q; later = ss }) (sym (moved_zero o))
jump_spot (suc n) at o ss h =
    let e : at + 1 + n ≡ at + suc n = omega arith in
    ap (steps n) (next_on at o ss (before_less (at + 1) (at + suc n) ss (omega arith) h))
    ∙ jump_spot n (at + 1) (moved 1 o) ss (before_same (at + 1 + n) (at + suc n) ss e h)
    ∙ ap (λ m. record { at = m; origin = moved n (moved 1 o); later = ss }) e
    ∙ ap (λ q. record { at = at + suc n; origin = q; later = ss }) (moved_more n o)

follows_moved : (o : Origin) → o.copied ≡ true → follows o (moved 1 o) ≡ true
follows_moved o e =
    let s : bytes_eq o.file o.file ≡ true = text_same o.file in
    let n : nat_eq (o.offset + 1) (o.offset + 1) ≡ true = eq-eqb (o.offset + 1) (o.offset + 1) refl in
    rw (e, s, n) refl

jump_goes_on : (n at : ℕ) (o : Origin) (ss : List Segment) → o.copied ≡ true → IsBefore (at + n) ss → goes_on_for n (record { at = at; origin = o; later = ss }) ≡ true
jump_goes_on zero at o ss c h = refl
jump_goes_on (suc n) at o ss c h =
    let e : at + 1 + n ≡ at + suc n = omega arith in
    ap (λ (p : Spot). follows o p.origin && goes_on_for n p) (next_on at o ss (before_less (at + 1) (at + suc n) ss (omega arith) h))
    ∙ ap (λ b. b && goes_on_for n (record { at = at + 1; origin = moved 1 o; later = ss })) (follows_moved o c)
    ∙ jump_goes_on n (at + 1) (moved 1 o) ss c (before_same (at + 1 + n) (at + suc n) ss e h)

pub jump_copied : (n at : ℕ) (o : Origin) (ss : List Segment) → IsBefore (at + n) ss → o.copied ≡ (o.copied && goes_on_for n (record { at = at; origin = o; later = ss }))
jump_copied n at o ss h = by_copied o.copied refl
  where
    by_copied : (b : Bool) → o.copied ≡ b → o.copied ≡ (o.copied && goes_on_for n (record { at = at; origin = o; later = ss }))
    by_copied true e = e ∙ sym (ap (λ b. b && goes_on_for n (record { at = at; origin = o; later = ss })) e ∙ jump_goes_on n at o ss e h)
    by_copied false e = e ∙ sym (ap (λ b. b && goes_on_for n (record { at = at; origin = o; later = ss })) e)

-- one byte after another
pub steps_next : (n : ℕ) (p : Spot) → steps n (next p) ≡ next (steps n p)
steps_next zero p = refl
steps_next (suc n) p = steps_next n (next p)

pub walk_end : (n : ℕ) (p q f : Spot) → 0 < n → p ≡ steps (n - 1) f → q ≡ next p → q ≡ steps n f
walk_end zero p q f l e h = absurd (omega arith)
walk_end (suc n) p q f l e h = h ∙ ap next (e ∙ ap (λ m. steps m f) (sub-one (suc n))) ∙ sym (steps_next n f)

pub creep_end : (left : ℕ) (p x : Spot) → left ≤ 0 → steps left p ≡ x → p ≡ x
creep_end zero p x k same = same
creep_end (suc left) p x k same = absurd (omega arith)

pub creep_end_copied : (left : ℕ) (p : Spot) (b x : Bool) → left ≤ 0 → (b && goes_on_for left p) ≡ x → b ≡ x
creep_end_copied zero p true x k same = same
creep_end_copied zero p false x k same = same
creep_end_copied (suc left) p b x k same = absurd (omega arith)

pub creep_spot : (left : ℕ) (p q x : Spot) → 0 < left → q ≡ next p → steps left p ≡ x → steps (left - 1) q ≡ x
creep_spot zero p q x l e same = absurd (omega arith)
creep_spot (suc n) p q x l e same = ap (λ m. steps m q) (sub-one (suc n)) ∙ ap (steps n) e ∙ same

and_assoc : (a b c : Bool) → (a && b && c) ≡ (a && (b && c))
and_assoc true b c = refl
and_assoc false b c = refl

pub creep_copied : (left : ℕ) (p q : Spot) (was now x : Bool) → 0 < left → q ≡ next p → now ≡ (was && follows p.origin q.origin) → (was && goes_on_for left p) ≡ x → (now && goes_on_for (left - 1) q) ≡ x
creep_copied zero p q was now x l e c same = absurd (omega arith)
creep_copied (suc n) p q was now x l e c same =
    ap (λ m. now && goes_on_for m q) (sub-one (suc n)) ∙ ap (λ b. b && goes_on_for n q) c
    ∙ ap (λ r. was && follows p.origin r.origin && goes_on_for n r) e ∙ and_assoc was (follows p.origin (next p).origin) (goes_on_for n (next p)) ∙ same

-- where a segment begins, the origin is its own
next_there : (at : ℕ) (o : Origin) (s : Segment) (ss : List Segment) → s.from ≡ at + 1 → next (record { at = at; origin = o; later = s ∷ ss }) ≡ record { at = at + 1; origin = origin_of s; later = ss }
unfolding next
next_there at o s ss e =
    let t : nat_eq s.from (at + 1) ≡ true = eq-eqb s.from (at + 1) e in
    rw t refl

pub step_there : (at : ℕ) (o : Origin) (i : ℕ) (ss : List Segment) (s : Segment) → i + 1 < length ss → s ≡ get_or ss (i + 1) s → s.from ≡ at + 1 → record { at = at + 1; origin = record { file = file_at (i + 1) ss; offset = s.place.offset; copied = s.copied }; later = drop (i + 1 + 1) ss } ≡ next (record { at = at; origin = o; later = drop (i + 1) ss })
step_there at o i ss s l is e =
    let d : drop (i + 1) ss ≡ s ∷ drop (i + 1 + 1) ss = drop-cons ss (i + 1) s l ∙ ap (λ x. x ∷ drop (suc (i + 1)) ss) (sym is) ∙ ap (λ n. s ∷ drop n ss) (sym (add-one (i + 1))) in
    let f : file_at (i + 1) ss ≡ s.place.file = file_is (i + 1) ss s l ∙ ap (λ (x : Segment). x.place.file) (sym is) in
    let a : ◌≡◌ {A = Spot} (record { at = at + 1; origin = record { file = file_at (i + 1) ss; offset = s.place.offset; copied = s.copied }; later = drop (i + 1 + 1) ss }) (record { at = at + 1; origin = origin_of s; later = drop (i + 1 + 1) ss }) = rw f refl in
    a ∙ sym (ap (λ xs. next (record { at = at; origin = o; later = xs })) d ∙ next_there at o s (drop (i + 1 + 1) ss) e)

pub jump_by : (n at offset by : ℕ) (file : List ℕ) (copied : Bool) (ss : List Segment) → by ≡ cond copied n 0 → IsBefore (at + n) ss → record { at = at + n; origin = record { file = file; offset = offset + by; copied = copied }; later = ss } ≡ steps n (record { at = at; origin = record { file = file; offset = offset; copied = copied }; later = ss })
jump_by n at offset by file copied ss e h =
    ap (λ m. record { at = at + n; origin = record { file = file; offset = offset + m; copied = copied }; later = ss }) e
    ∙ sym (jump_spot n at (record { file = file; offset = offset; copied = copied }) ss h)
