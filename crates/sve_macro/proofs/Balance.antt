-- Brackets of parts.
use Rattle.std.proofs.Common.{◌≡◌, ℕ, suc, ◌+◌, ◌-◌, ◌<◌, ◌≤◌, ◌==◌, min, Bool, true, false, ◌&&◌, ◌||◌, cond, List, [], ◌∷◌, length, Some, option_map, refl, ap, sym, ◌∙◌, subst, arith}
use Rattle.sve_macro.specs.Laws.{count_of, outside, IsBeforeComma, BracketsAreBalanced}
use Rattle.sve_macro.specs.Parts.{Depths, pieces_of, head_byte, all_closed, closed, depths_after, ends_part, split_part}
use Rattle.sve_macro.proofs.Lists.{eq_from, some_from}

-- what is opened in pieces is no more than what is closed in them and stays open
record Follows (open_now : Depths → ℕ) (opened : Depths → List (List ℕ) → ℕ) (closer : ℕ) : Type 0 where
  pub none : (d : Depths) → opened d [] ≡ 0
  pub no_more : (d : Depths) (p : List ℕ) (ps : List (List ℕ)) →
      open_now d + opened d (p ∷ ps) ≤ cond (head_byte p == closer) 1 0 + (open_now (depths_after d (head_byte p)) + opened (depths_after d (head_byte p)) ps)

counted_step : (b : Bool) (open_now : Depths → ℕ) (opened : Depths → List (List ℕ) → ℕ) (closer : ℕ) → Follows open_now opened closer → (d : Depths) (p : List ℕ) (ps : List (List ℕ)) (r : List (List ℕ) × List (List ℕ)) →
    ends_part d (head_byte p) ≡ b → cond b (Some ([], p ∷ ps)) (option_map (λ r. (p ∷ r.0, r.1)) (split_part (depths_after d (head_byte p)) ps)) ≡ Some r →
    (End : List (List ℕ) → Type 0) → ((d : Depths) (p : List ℕ) (qs : List (List ℕ)) → ends_part d (head_byte p) ≡ true → End (p ∷ qs) → open_now d ≡ 0) → End r.1 →
    ((x : List (List ℕ) × List (List ℕ)) → split_part (depths_after d (head_byte p)) ps ≡ Some x → End x.1 → open_now (depths_after d (head_byte p)) + opened (depths_after d (head_byte p)) x.0 ≤ count_of closer x.0) →
    open_now d + opened d r.0 ≤ count_of closer r.0
counted_step true open_now opened closer f d p ps r e h End stop last ih =
    let same : ◌≡◌ {A = List (List ℕ) × List (List ℕ)} r ([], p ∷ ps) = cc in
    let none_open : open_now d ≡ 0 = stop d p ps e (subst (λ (x : List (List ℕ) × List (List ℕ)). End x.1) same last) in
    let none_more : opened d [] ≡ 0 = f.none d in
    let bound : open_now d + opened d [] ≤ 0 = omega (arith, none_open, none_more) in
    subst (λ (x : List (List ℕ) × List (List ℕ)). open_now d + opened d x.0 ≤ count_of closer x.0) (sym same) bound
counted_step false open_now opened closer f d p ps r e h End stop last ih =
    let from = some_from (λ (r : List (List ℕ) × List (List ℕ)). let y : List (List ℕ) × List (List ℕ) = (p ∷ r.0, r.1) in y) (split_part (depths_after d (head_byte p)) ps) r h in
    let x = from.of in
    let rest = ih x from.there (subst (λ (y : List (List ℕ) × List (List ℕ)). End y.1) (sym from.value) last) in
    let more = f.no_more d p x.0 in
    let bound : open_now d + opened d (p ∷ x.0) ≤ cond (head_byte p == closer) 1 0 + count_of closer x.0 = omega (arith, rest, more) in
    subst (λ (y : List (List ℕ) × List (List ℕ)). open_now d + opened d y.0 ≤ count_of closer y.0) from.value bound

-- what is open at the end of a part
counted : (open_now : Depths → ℕ) (opened : Depths → List (List ℕ) → ℕ) (closer : ℕ) → Follows open_now opened closer → (d : Depths) (ps : List (List ℕ)) (r : List (List ℕ) × List (List ℕ)) → split_part d ps ≡ Some r →
    (End : List (List ℕ) → Type 0) → ((d : Depths) (p : List ℕ) (qs : List (List ℕ)) → ends_part d (head_byte p) ≡ true → End (p ∷ qs) → open_now d ≡ 0) → End r.1 →
    open_now d + opened d r.0 ≤ count_of closer r.0
counted open_now opened closer f d [] r h End stop last = absurd (cc)
counted open_now opened closer f d (p ∷ ps) r h End stop last =
    counted_step (ends_part d (head_byte p)) open_now opened closer f d p ps r refl h End stop last
    (λ x e l. counted open_now opened closer f (depths_after d (head_byte p)) ps x e End stop l)

-- what holds of both depths of a choice
choose : (P : Depths → Type 0) (b : Bool) {x y : Depths} → (b ≡ true → P x) → (b ≡ false → P y) → P (cond b x y)
choose P true p q = p refl
choose P false p q = q refl

closed-parens : (ps : List (ℕ × ℕ)) (d : Depths) → d.parens ≡ ps → length (closed ps d).parens ≡ length ps - 1
closed-parens [] d e = ap (λ (x : List (ℕ × ℕ)). length x) e
closed-parens (p ∷ ps) d e = let g : length ps ≡ suc (length ps) - 1 = omega arith in g

-- how many parentheses are open after a byte
parens-after : (d : Depths) (v : ℕ) → length (depths_after d v).parens ≡ cond (v == 40) (length d.parens + 1) (cond (v == 41) (length d.parens - 1) (length d.parens))
parens-after d v = by_case (v == 40) (v == 41) (v == 91) (v == 93) (v == 123) (v == 125)
  where
    by_case : (a b c e f g : Bool) →
        length (cond a (record d { parens = (d.square, d.curly) ∷ d.parens }) (cond b (closed d.parens d) (cond c (record d { square = d.square + 1 }) (cond e (record d { square = d.square - 1 }) (cond f (record d { curly = d.curly + 1 }) (cond g (record d { curly = d.curly - 1 }) d)))))).parens
        ≡ cond a (length d.parens + 1) (cond b (length d.parens - 1) (length d.parens))
    by_case true b c e f g = let n : suc (length d.parens) ≡ length d.parens + 1 = omega arith in n
    by_case false true c e f g = closed-parens d.parens d refl
    by_case false false true e f g = refl
    by_case false false false true f g = refl
    by_case false false false false true g = refl
    by_case false false false false false true = refl
    by_case false false false false false false = refl

-- a parenthesis is closed, or stays open
parens_step : (a b : Bool) (n k : ℕ) → (a ≡ true → b ≡ false) → n + (cond a 1 0 + k) ≤ cond b 1 0 + (cond a (n + 1) (cond b (n - 1) n) + k)
parens_step true true n k h = absurd (let g : true ≡ false = h refl in cc)
parens_step true false n k h = omega arith
parens_step false true n k h = omega arith
parens_step false false n k h = omega arith

other : (k o v : ℕ) → (k == o) ≡ false → (v == k) ≡ true → (v == o) ≡ false
other k o v p h = ap (λ x. x == o) (eq_from v k h) ∙ p

parens_follow : Follows (λ d. length d.parens) (λ d ps. count_of 40 ps) 41
parens_follow = record {
  none = λ d. refl;
  no_more = λ d p ps.
      let v = head_byte p in
      let step = parens_step (v == 40) (v == 41) (length d.parens) (count_of 40 ps) (λ h. other 40 41 v refl h) in
      subst (λ (x : ℕ). length d.parens + (cond (v == 40) 1 0 + count_of 40 ps) ≤ cond (v == 41) 1 0 + (x + count_of 40 ps)) (sym (parens-after d v)) step;
}

-- a `)` that does not end the part closes a `(`
some_open : (a : Bool) (d : Depths) (v : ℕ) → (v == 41) ≡ true → (length d.parens == 0) ≡ a → ends_part d v ≡ false → 0 < length d.parens
some_open true d v h e f = absurd (let g : ends_part d v ≡ true = ap (λ x. (x && length d.parens == 0) || (v == 44 && (length d.parens == 0 && (d.square == 0 && d.curly == 0)))) h ∙ ap (λ x. x || (v == 44 && (x && (d.square == 0 && d.curly == 0)))) e in cc)
some_open false d v h e f = grind arith

closes_step : (a b : Bool) (n : ℕ) → (a ≡ true → b ≡ false) → (b ≡ true → 0 < n) → cond a (n + 1) (cond b (n - 1) n) + cond b 1 0 ≤ n + cond a 1 0
closes_step true true n h s = absurd (let g : true ≡ false = h refl in cc)
closes_step true false n h s = omega arith
closes_step false true n h s = let g = s refl in omega arith
closes_step false false n h s = omega arith

-- no more `)` than were open and are opened
closes_opened : (d : Depths) (v : ℕ) → ends_part d v ≡ false → length (depths_after d v).parens + cond (v == 41) 1 0 ≤ length d.parens + cond (v == 40) 1 0
closes_opened d v f =
    subst (λ (x : ℕ). x + cond (v == 41) 1 0 ≤ length d.parens + cond (v == 40) 1 0) (sym (parens-after d v))
    (closes_step (v == 40) (v == 41) (length d.parens) (λ h. other 40 41 v refl h) (λ h. some_open (length d.parens == 0) d v h refl f))

back_step : (b : Bool) (d : Depths) (p : List ℕ) (ps : List (List ℕ)) (r : List (List ℕ) × List (List ℕ)) →
    ends_part d (head_byte p) ≡ b → cond b (Some ([], p ∷ ps)) (option_map (λ r. (p ∷ r.0, r.1)) (split_part (depths_after d (head_byte p)) ps)) ≡ Some r →
    ((x : List (List ℕ) × List (List ℕ)) → split_part (depths_after d (head_byte p)) ps ≡ Some x → count_of 41 x.0 ≤ length (depths_after d (head_byte p)).parens + count_of 40 x.0) →
    count_of 41 r.0 ≤ length d.parens + count_of 40 r.0
back_step true d p ps r e h ih =
    let same : ◌≡◌ {A = List (List ℕ) × List (List ℕ)} r ([], p ∷ ps) = cc in
    let bound : 0 ≤ length d.parens + 0 = omega arith in
    subst (λ (x : List (List ℕ) × List (List ℕ)). count_of 41 x.0 ≤ length d.parens + count_of 40 x.0) (sym same) bound
back_step false d p ps r e h ih =
    let from = some_from (λ (r : List (List ℕ) × List (List ℕ)). let y : List (List ℕ) × List (List ℕ) = (p ∷ r.0, r.1) in y) (split_part (depths_after d (head_byte p)) ps) r h in
    let x = from.of in
    let rest = ih x from.there in
    let more = closes_opened d (head_byte p) e in
    let bound : cond (head_byte p == 41) 1 0 + count_of 41 x.0 ≤ length d.parens + (cond (head_byte p == 40) 1 0 + count_of 40 x.0) = omega (arith, rest, more) in
    subst (λ (y : List (List ℕ) × List (List ℕ)). count_of 41 y.0 ≤ length d.parens + count_of 40 y.0) from.value bound

counted_back : (d : Depths) (ps : List (List ℕ)) (r : List (List ℕ) × List (List ℕ)) → split_part d ps ≡ Some r → count_of 41 r.0 ≤ length d.parens + count_of 40 r.0
counted_back d [] r h = absurd (cc)
counted_back d (p ∷ ps) r h = back_step (ends_part d (head_byte p)) d p ps r refl h (λ x e. counted_back (depths_after d (head_byte p)) ps x e)

-- how many of those that were open before the outermost `(` are still open: no more than at any `(` and now
abbrev least : (ℕ × ℕ → ℕ) → ℕ → List (ℕ × ℕ) → ℕ
least f n [] = n
least f n (p ∷ ps) = min (f p) (least f n ps)

least-less : (f : ℕ × ℕ → ℕ) (n : ℕ) (ps : List (ℕ × ℕ)) → least f n ps ≤ n
least-less f n [] = omega arith
least-less f n (p ∷ ps) = let h = least-less f n ps in omega arith

least-min : (f : ℕ × ℕ → ℕ) (m n : ℕ) (ps : List (ℕ × ℕ)) → least f (min m n) ps ≡ min m (least f n ps)
least-min f m n [] = refl
least-min f m n (p ∷ ps) = let h : least f (min m n) ps ≡ min m (least f n ps) = least-min f m n ps in omega (arith, h)

least-more : (f : ℕ × ℕ → ℕ) (n : ℕ) (ps : List (ℕ × ℕ)) → least f n ps ≤ least f (n + 1) ps
least-more f n [] = omega arith
least-more f n (p ∷ ps) = let h = least-more f n ps in omega arith

least-one : (f : ℕ × ℕ → ℕ) (n : ℕ) (ps : List (ℕ × ℕ)) → least f n ps ≤ least f (n - 1) ps + 1
least-one f n [] = omega arith
least-one f n (p ∷ ps) = let h = least-one f n ps in omega arith

-- one more is open, outside parentheses
least-opened : (f : ℕ × ℕ → ℕ) (n : ℕ) (b : Bool) (ps : List (ℕ × ℕ)) → least f n ps + cond (length ps == 0 && b) 1 0 ≤ least f (n + 1) ps
least-opened f n true [] = omega arith
least-opened f n false [] = omega arith
least-opened f n b (p ∷ ps) =
    let some : (suc (length ps) == 0) ≡ false = grind arith in
    let none : ◌≡◌ {A = ℕ} (cond (suc (length ps) == 0 && b) 1 0) 0 = ap (λ x. cond (x && b) 1 0) some in
    let h = least-more f n (p ∷ ps) in omega (arith, h, none)

-- what is opened outside parentheses by a piece and those behind it
outside_case : (a b z : Bool) (o n : ℕ) (p : List ℕ) (ps : List (List ℕ)) →
    count_of o (cond a (outside (n + 1) ps) (cond b (outside (n - 1) ps) (cond z (p ∷ outside n ps) (outside n ps)))) ≤ cond (z && head_byte p == o) 1 0 + count_of o (outside (cond a (n + 1) (cond b (n - 1) n)) ps)
outside_case true b z o n p ps = omega arith
outside_case false true z o n p ps = omega arith
outside_case false false true o n p ps = omega arith
outside_case false false false o n p ps = omega arith

outside-step : (o : ℕ) (d : Depths) (p : List ℕ) (ps : List (List ℕ)) →
    count_of o (outside (length d.parens) (p ∷ ps)) ≤ cond (length d.parens == 0 && head_byte p == o) 1 0 + count_of o (outside (length (depths_after d (head_byte p)).parens) ps)
outside-step o d p ps =
    let v = head_byte p in
    subst (λ (x : ℕ). count_of o (outside (length d.parens) (p ∷ ps)) ≤ cond (length d.parens == 0 && v == o) 1 0 + count_of o (outside x ps)) (sym (parens-after d v))
    (outside_case (v == 40) (v == 41) (length d.parens == 0) o (length d.parens) p ps)

none_opened : (a b : Bool) → b ≡ false → ◌≡◌ {A = ℕ} (cond (a && b) 1 0) 0
none_opened true b h = let g : ◌≡◌ {A = ℕ} (cond b 1 0) 0 = ap (λ x. cond x 1 0) h in g
none_opened false b h = refl

from_steps : (n m k c s t : ℕ) → n + k ≤ m + c → s ≤ k + t → n + s ≤ c + (m + t)
from_steps n m k c s t p q = omega arith

unchanged : (n m k c : ℕ) → n ≤ m → k ≡ 0 → n + k ≤ m + c
unchanged n m k c p e = omega arith

one_closed : (n m k c : ℕ) → n ≤ m + 1 → k ≡ 0 → c ≡ 1 → n + k ≤ m + c
one_closed n m k c p e f = omega arith

one_opened : (n m k c : ℕ) → n + k ≤ m → n + k ≤ m + c
one_opened n m k c p = omega arith

abbrev square_now : Depths → ℕ
square_now d = least (λ p. p.0) d.square d.parens

abbrev curly_now : Depths → ℕ
curly_now d = least (λ p. p.1) d.curly d.parens

square_closed : (ps : List (ℕ × ℕ)) (d : Depths) → d.parens ≡ ps → least (λ p. p.0) d.square ps ≤ square_now (closed ps d)
square_closed [] d e = subst (λ (x : List (ℕ × ℕ)). least (λ p. p.0) d.square [] ≤ least (λ p. p.0) d.square x) (sym e) (let g : d.square ≤ d.square = omega arith in g)
square_closed (p ∷ ps) d e = let h : least (λ p. p.0) (min p.0 d.square) ps ≡ min p.0 (least (λ p. p.0) d.square ps) = least-min (λ p. p.0) p.0 d.square ps in omega (arith, h)

curly_closed : (ps : List (ℕ × ℕ)) (d : Depths) → d.parens ≡ ps → least (λ p. p.1) d.curly ps ≤ curly_now (closed ps d)
curly_closed [] d e = subst (λ (x : List (ℕ × ℕ)). least (λ p. p.1) d.curly [] ≤ least (λ p. p.1) d.curly x) (sym e) (let g : d.curly ≤ d.curly = omega arith in g)
curly_closed (p ∷ ps) d e = let h : least (λ p. p.1) (min p.1 d.curly) ps ≡ min p.1 (least (λ p. p.1) d.curly ps) = least-min (λ p. p.1) p.1 d.curly ps in omega (arith, h)

square_kept : (d : Depths) (v : ℕ) → square_now d + cond (length d.parens == 0 && v == 91) 1 0 ≤ square_now (depths_after d v) + cond (v == 93) 1 0
square_kept d v =
    let P = λ (x : Depths). square_now d + cond (length d.parens == 0 && v == 91) 1 0 ≤ square_now x + cond (v == 93) 1 0 in
    let c : ℕ = cond (v == 93) 1 0 in
    let k : ℕ = cond (length d.parens == 0 && v == 91) 1 0 in
    let same : square_now d ≤ square_now d = omega arith in
    choose P (v == 40) (λ h. unchanged _ _ k c (let l = least-less (λ p. p.0) d.square d.parens in let g : square_now d ≤ min d.square (square_now d) = omega (arith, l) in g) (none_opened (length d.parens == 0) (v == 91) (other 40 91 v refl h)))
    (λ _. choose P (v == 41) (λ h. unchanged _ _ k c (square_closed d.parens d refl) (none_opened (length d.parens == 0) (v == 91) (other 41 91 v refl h)))
    (λ _. choose P (v == 91) (λ h. one_opened _ _ k c (least-opened (λ p. p.0) d.square (v == 91) d.parens))
    (λ n. choose P (v == 93) (λ h. one_closed _ _ k c (least-one (λ p. p.0) d.square d.parens) (none_opened (length d.parens == 0) (v == 91) n) (let o : ◌≡◌ {A = ℕ} c 1 = ap (λ b. cond b 1 0) h in o))
    (λ _. choose P (v == 123) (λ _. unchanged _ _ k c same (none_opened (length d.parens == 0) (v == 91) n))
    (λ _. choose P (v == 125) (λ _. unchanged _ _ k c same (none_opened (length d.parens == 0) (v == 91) n)) (λ _. unchanged _ _ k c same (none_opened (length d.parens == 0) (v == 91) n)))))))

curly_kept : (d : Depths) (v : ℕ) → curly_now d + cond (length d.parens == 0 && v == 123) 1 0 ≤ curly_now (depths_after d v) + cond (v == 125) 1 0
curly_kept d v =
    let P = λ (x : Depths). curly_now d + cond (length d.parens == 0 && v == 123) 1 0 ≤ curly_now x + cond (v == 125) 1 0 in
    let c : ℕ = cond (v == 125) 1 0 in
    let k : ℕ = cond (length d.parens == 0 && v == 123) 1 0 in
    let same : curly_now d ≤ curly_now d = omega arith in
    choose P (v == 40) (λ h. unchanged _ _ k c (let l = least-less (λ p. p.1) d.curly d.parens in let g : curly_now d ≤ min d.curly (curly_now d) = omega (arith, l) in g) (none_opened (length d.parens == 0) (v == 123) (other 40 123 v refl h)))
    (λ _. choose P (v == 41) (λ h. unchanged _ _ k c (curly_closed d.parens d refl) (none_opened (length d.parens == 0) (v == 123) (other 41 123 v refl h)))
    (λ _. choose P (v == 91) (λ h. unchanged _ _ k c same (none_opened (length d.parens == 0) (v == 123) (other 91 123 v refl h)))
    (λ _. choose P (v == 93) (λ h. unchanged _ _ k c same (none_opened (length d.parens == 0) (v == 123) (other 93 123 v refl h)))
    (λ _. choose P (v == 123) (λ h. one_opened _ _ k c (least-opened (λ p. p.1) d.curly (v == 123) d.parens))
    (λ n. choose P (v == 125) (λ h. one_closed _ _ k c (least-one (λ p. p.1) d.curly d.parens) (none_opened (length d.parens == 0) (v == 123) n) (let o : ◌≡◌ {A = ℕ} c 1 = ap (λ b. cond b 1 0) h in o)) (λ _. unchanged _ _ k c same (none_opened (length d.parens == 0) (v == 123) n)))))))

square_follow : Follows square_now (λ d ps. count_of 91 (outside (length d.parens) ps)) 93
square_follow = record {
  none = λ d. refl;
  no_more = λ d p ps. from_steps _ _ _ _ _ _ (square_kept d (head_byte p)) (outside-step 91 d p ps);
}

curly_follow : Follows curly_now (λ d ps. count_of 123 (outside (length d.parens) ps)) 125
curly_follow = record {
  none = λ d. refl;
  no_more = λ d p ps. from_steps _ _ _ _ _ _ (curly_kept d (head_byte p)) (outside-step 123 d p ps);
}

never : (b : Bool) → (b && false) ≡ true → ⊥
never true h = cc
never false h = cc

all_zero : (a b c : Bool) → (a && (b && c)) ≡ true → (b ≡ true) × (c ≡ true)
all_zero true true true h = (refl, refl)
all_zero true true false h = absurd (cc)
all_zero true false c h = absurd (cc)
all_zero false b c h = absurd (cc)

-- a comma ends a part only where no bracket is open
comma_closes : (d : Depths) (v : ℕ) → v ≡ 44 → ends_part d v ≡ true → (d.square ≡ 0) × (d.curly ≡ 0)
comma_closes d v e h =
    let g : (length d.parens == 0 && (d.square == 0 && d.curly == 0)) ≡ true = sym (ap (λ x. ends_part d x) e) ∙ h in
    let z = all_zero (length d.parens == 0) (d.square == 0) (d.curly == 0) g in
    (eq_from d.square 0 z.0, eq_from d.curly 0 z.1)

-- what is closed where a part ends
closed_at_end : (a b : Bool) (d : Depths) (v : ℕ) → (length d.parens == 0) ≡ a → (v == 41) ≡ b → ends_part d v ≡ true → length d.parens ≡ 0
closed_at_end true b d v e f h = eq_from (length d.parens) 0 e
closed_at_end false true d v e f h =
    let g : ends_part d v ≡ (v == 44 && false) = ap (λ x. (x && length d.parens == 0) || (v == 44 && (length d.parens == 0 && (d.square == 0 && d.curly == 0)))) f ∙ ap (λ x. x || (v == 44 && (x && (d.square == 0 && d.curly == 0)))) e in
    absurd (never (v == 44) (sym g ∙ h))
closed_at_end false false d v e f h =
    let g : ends_part d v ≡ (v == 44 && false) = ap (λ x. (x && length d.parens == 0) || (v == 44 && (length d.parens == 0 && (d.square == 0 && d.curly == 0)))) f ∙ ap (λ x. v == 44 && (x && (d.square == 0 && d.curly == 0))) e in
    absurd (never (v == 44) (sym g ∙ h))

no_more_than_none : (n m : ℕ) → n ≤ m → m ≡ 0 → n ≡ 0
no_more_than_none n m h e = omega arith

pub brackets_are_balanced : BracketsAreBalanced
brackets_are_balanced text r h =
    let ps = pieces_of text in
    let there : count_of 41 r.0 ≤ 0 + count_of 40 r.0 = counted_back all_closed ps r h in
    let here : 0 + count_of 40 r.0 ≤ count_of 41 r.0 =
    counted (λ d. length d.parens) (λ d ps. count_of 40 ps) 41 parens_follow all_closed ps r h (λ _. Unit {0}) (λ d p qs e _. closed_at_end (length d.parens == 0) (head_byte p == 41) d (head_byte p) refl refl e) tt in
    record {
      round = omega (arith, there, here);
      square = λ comma.
          let n : 0 + count_of 91 (outside 0 r.0) ≤ count_of 93 r.0 =
          counted square_now (λ d ps. count_of 91 (outside (length d.parens) ps)) 93 square_follow all_closed ps r h IsBeforeComma
          (λ d p qs e c. no_more_than_none _ _ (least-less (λ p. p.0) d.square d.parens) (comma_closes d (head_byte p) c e).0) comma in omega (arith, n);
      curly = λ comma.
          let n : 0 + count_of 123 (outside 0 r.0) ≤ count_of 125 r.0 =
          counted curly_now (λ d ps. count_of 123 (outside (length d.parens) ps)) 125 curly_follow all_closed ps r h IsBeforeComma
          (λ d p qs e c. no_more_than_none _ _ (least-less (λ p. p.1) d.curly d.parens) (comma_closes d (head_byte p) c e).1) comma in omega (arith, n);
    }
