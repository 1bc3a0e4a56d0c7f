-- Byte by byte and segment by segment.
use Rattle.std.proofs.Common.{◌≡◌, ℕ, zero, suc, ◌+◌, ◌-◌, ◌<◌, Bool, true, false, nat_eq, List, [], ◌∷◌, ◌++◌, length, take, drop, refl, sym, ap, ◌∙◌, arith, eqb-true}
use Rattle.std.proofs.lemmas.Bool.{eqb-false}
use Rattle.std.proofs.lemmas.List.{take_all, drop_all}
use Rattle.sve_origin.specs.declared.segment.Segment.{Segment}
use Rattle.sve_origin.specs.Origins.{Origin, Cell, Spot, next, next_in, first, origin_of, moved, marked, values, cells_from, cells}
use Rattle.sve_origin.specs.Segments.{RiseBelow, runs_from, SegmentBySegment}

-- bytes from a spot on, run by run
abbrev runs_at : ℕ → Origin → List Segment → List ℕ → List Cell
runs_at at o [] bytes = marked bytes o
runs_at at o (t ∷ ts) bytes = marked (take (t.from - at) bytes) o ++ runs_at t.from (origin_of t) ts (drop (t.from - at) bytes)

abbrev Rise : ℕ → List Segment → Type 0
Rise at [] = Unit {0}
Rise at (t ∷ ts) = (at < t.from) × Rise t.from ts

none : (at : ℕ) (o : Origin) (ss : List Segment) → runs_at at o ss [] ≡ []
none at o [] = refl
none at o (t ∷ ts) =
    ap (λ xs. marked xs o ++ runs_at t.from (origin_of t) ts (drop (t.from - at) [])) (take_all (t.from - at) [] (omega arith))
    ∙ ap (λ xs. runs_at t.from (origin_of t) ts xs) (drop_all (t.from - at) [] (omega arith)) ∙ none t.from (origin_of t) ts

rise_less : (at m : ℕ) (ss : List Segment) → at ≡ m → Rise m ss → Rise at ss
rise_less at m [] e p = tt
rise_less at m (t ∷ ts) e p = (omega (arith, p.0), p.1)

one_byte : (b : ℕ) (bs : List ℕ) (at : ℕ) (o : Origin) (t : Segment) (ts : List Segment) (x : Bool) → nat_eq t.from (at + 1) ≡ x → Rise at (t ∷ ts) → ((p : Spot) → Rise p.at p.later → cells_from p bs ≡ runs_at p.at p.origin p.later bs) → ((b, o) ∷ cells_from (next_in at o (t ∷ ts)) bs) ≡ runs_at at o (t ∷ ts) (b ∷ bs)
one_byte b bs at o t ts true e r deep =
    let f : t.from ≡ at + 1 = eqb-true _ _ e in
    let d : t.from - at ≡ suc zero = omega arith in
    let q = deep (record { at = at + 1; origin = origin_of t; later = ts }) (rise_less (at + 1) t.from ts (sym f) r.1) in
    ap (λ cs. (b, o) ∷ cs) ((rw e refl) ∙ q ∙ ap (λ n. runs_at n (origin_of t) ts bs) (sym f))
    ∙ ap (λ n. marked (take n (b ∷ bs)) o ++ runs_at t.from (origin_of t) ts (drop n (b ∷ bs))) (sym d)
one_byte b bs at o t ts false e r deep =
    let f : t.from ≡ at + 1 → ⊥ = eqb-false _ _ e in
    let l : at + 1 < t.from = omega (arith, r.0) in
    let d : t.from - at ≡ suc (t.from - (at + 1)) = omega arith in
    let q = deep (record { at = at + 1; origin = moved 1 o; later = t ∷ ts }) (l, r.1) in
    ap (λ cs. (b, o) ∷ cs) ((rw e refl) ∙ q)
    ∙ ap (λ n. marked (take n (b ∷ bs)) o ++ runs_at t.from (origin_of t) ts (drop n (b ∷ bs))) (sym d)

by_spot : (bytes : List ℕ) (at : ℕ) (o : Origin) (ss : List Segment) → Rise at ss → cells_from (record { at = at; origin = o; later = ss }) bytes ≡ runs_at at o ss bytes
unfolding next
by_spot [] at o ss r = sym (none at o ss)
by_spot (b ∷ bs) at o [] r = ap (λ cs. (b, o) ∷ cs) (by_spot bs (at + 1) (moved 1 o) [] r)
by_spot (b ∷ bs) at o (t ∷ ts) r = one_byte b bs at o t ts (nat_eq t.from (at + 1)) refl r (λ p h. by_spot bs p.at p.origin p.later h)

rises : (n : ℕ) (s : Segment) (ss : List Segment) → RiseBelow n s ss → Rise s.from ss
rises n s [] p = tt
rises n s (t ∷ ts) p = (p.0, rises n t ts p.1)

at_segment : (s : Segment) (ss : List Segment) (bytes : List ℕ) → runs_at s.from (origin_of s) ss bytes ≡ runs_from s ss bytes
at_segment s [] bytes = refl
at_segment s (t ∷ ts) bytes = ap (λ (r : List Cell). marked (take (t.from - s.from) bytes) (origin_of s) ++ r) (at_segment t ts (drop (t.from - s.from) bytes))

no_bytes : (bytes : List ℕ) (p : Spot) → length bytes ≡ 0 → cells_from p bytes ≡ []
no_bytes [] p e = refl
no_bytes (b ∷ bs) p e = absurd (omega arith)

pub same_cells : SegmentBySegment
same_cells [] bytes c = no_bytes bytes (first []) c
same_cells (s ∷ ss) bytes c =
    ap (λ (n : ℕ). cells_from (record { at = n; origin = origin_of s; later = ss }) bytes) (sym c.0)
    ∙ by_spot bytes s.from (origin_of s) ss (rises (length bytes) s ss c.1) ∙ at_segment s ss bytes

values_from : (p : Spot) (bytes : List ℕ) → values (cells_from p bytes) ≡ bytes
values_from p [] = refl
values_from p (b ∷ bs) = ap (λ t. b ∷ t) (values_from (next p) bs)

-- the bytes of a text are those that it was made of
pub values-cells : (segments : List Segment) (bytes : List ℕ) → values (cells segments bytes) ≡ bytes
values-cells segments bytes = values_from (first segments) bytes

length_from : (p : Spot) (bytes : List ℕ) → length (cells_from p bytes) ≡ length bytes
length_from p [] = refl
length_from p (b ∷ bs) = ap suc (length_from (next p) bs)

pub length-cells : (segments : List Segment) (bytes : List ℕ) → length (cells segments bytes) ≡ length bytes
length-cells segments bytes = length_from (first segments) bytes
