-- One more run, and a run that goes on.
use Rattle.std.proofs.Common.{◌≡◌, ℕ, ◌+◌, ◌-◌, ◌<◌, ◌≤◌, List, [], ◌∷◌, ◌++◌, length, take, drop, get_or, refl, ap, sym, subst, ◌∙◌, arith, append_assoc, length-drop, nat_eq, Bool, false}
use Rattle.std.proofs.lemmas.List.{take-append-le, drop-append-le, take_at, drop_at, take_more, take_all}
use Rattle.sve_origin.specs.Origins.{Origin, marked, moved, origin_of}
use Rattle.sve_origin.specs.Segments.{RiseBelow, Cover, runs_from, runs, next_of, IsNextOfLast}
use Rattle.sve_origin.specs.declared.segment.Segment.{Segment}
use Rattle.sve_origin.proofs.Marks.{marked-append}

rise_in : (n : ℕ) (s : Segment) (ss : List Segment) → RiseBelow n s ss → s.from < n
rise_in n s [] p = p
rise_in n s (t ∷ ts) p = let r = rise_in n t ts p.1 in omega arith

rise_push : (n m : ℕ) (s : Segment) (ss : List Segment) (u : Segment) → RiseBelow n s ss → u.from ≡ n → n < m → RiseBelow m s (ss ++ u ∷ [])
rise_push n m s [] u p e h = (omega arith, omega arith)
rise_push n m s (t ∷ ts) u p e h = (p.0, rise_push n m t ts u p.1 e h)

pub Cover-push : (n m : ℕ) (ss : List Segment) (u : Segment) → Cover ss n → u.from ≡ n → n < m → Cover (ss ++ u ∷ []) m
Cover-push n m [] u p e h = (omega arith, omega arith)
Cover-push n m (s ∷ ss) u p e h = (p.0, rise_push n m s ss u p.1 e h)

from_push : (n : ℕ) (s : Segment) (ss : List Segment) (u : Segment) (bytes more : List ℕ) → RiseBelow n s ss → s.from + length bytes ≡ n → u.from ≡ n → runs_from s (ss ++ u ∷ []) (bytes ++ more) ≡ runs_from s ss bytes ++ marked more (origin_of u)
from_push n s [] u bytes more p e f =
    let k : length bytes ≡ u.from - s.from = omega arith in
    ap (λ r. marked r (origin_of s) ++ marked (drop (u.from - s.from) (bytes ++ more)) (origin_of u)) (take_at bytes more (u.from - s.from) k)
    ∙ ap (λ r. marked bytes (origin_of s) ++ marked r (origin_of u)) (drop_at bytes more (u.from - s.from) k)
from_push n s (t ∷ ts) u bytes more p e f =
    let w : t.from < n = rise_in n t ts p.1 in
    let lt : s.from < t.from = p.0 in
    let k : t.from - s.from ≤ length bytes = omega arith in
    let l : t.from + length (drop (t.from - s.from) bytes) ≡ n = omega (arith, length-drop (t.from - s.from) bytes) in
    ap (λ r. marked r (origin_of s) ++ runs_from t (ts ++ u ∷ []) (drop (t.from - s.from) (bytes ++ more))) (take-append-le (t.from - s.from) bytes more k)
    ∙ ap (λ r. marked (take (t.from - s.from) bytes) (origin_of s) ++ runs_from t (ts ++ u ∷ []) r) (drop-append-le (t.from - s.from) bytes more k)
    ∙ ap (λ r. marked (take (t.from - s.from) bytes) (origin_of s) ++ r) (from_push n t ts u (drop (t.from - s.from) bytes) more p.1 l f)
    ∙ sym (append_assoc (marked (take (t.from - s.from) bytes) (origin_of s)) _ (marked more (origin_of u)))

-- one more segment
pub runs-push : (ss : List Segment) (u : Segment) (bytes more : List ℕ) → Cover ss (length bytes) → u.from ≡ length bytes → runs (ss ++ u ∷ []) (bytes ++ more) ≡ runs ss bytes ++ marked more (origin_of u)
runs-push [] u [] more p e = refl
runs-push [] u (b ∷ bs) more p e = absurd (omega arith)
runs-push (s ∷ ss) u bytes more p e = from_push (length bytes) s ss u bytes more p.1 (omega arith) e

rise_more : (n m : ℕ) (s : Segment) (ss : List Segment) → RiseBelow n s ss → n ≤ m → RiseBelow m s ss
rise_more n m s [] p h = omega arith
rise_more n m s (t ∷ ts) p h = (p.0, rise_more n m t ts p.1 h)

pub Cover-more : (ss : List Segment) (n m : ℕ) (o : Origin) → Cover ss n → IsNextOfLast ss n o → n ≤ m → Cover ss m
Cover-more [] n m o p f h = absurd f
Cover-more (s ∷ ss) n m o p f h = (p.0, rise_more n m s ss p.1 h)

from_more : (n : ℕ) (s : Segment) (ss : List Segment) (bytes more : List ℕ) (o : Origin) → RiseBelow n s ss → s.from + length bytes ≡ n → IsNextOfLast (s ∷ ss) n o → runs_from s ss (bytes ++ more) ≡ runs_from s ss bytes ++ marked more o
from_more n s [] bytes more o p e f =
    let k : length bytes ≡ n - s.from = omega arith in
    marked-append bytes more (origin_of s) ∙ ap (λ (q : Origin). marked bytes (origin_of s) ++ marked more q) (ap (λ (i : ℕ). moved i (origin_of s)) k ∙ sym f)
from_more n s (t ∷ ts) bytes more o p e f =
    let w : t.from < n = rise_in n t ts p.1 in
    let lt : s.from < t.from = p.0 in
    let k : t.from - s.from ≤ length bytes = omega arith in
    let l : t.from + length (drop (t.from - s.from) bytes) ≡ n = omega (arith, length-drop (t.from - s.from) bytes) in
    ap (λ r. marked r (origin_of s) ++ runs_from t ts (drop (t.from - s.from) (bytes ++ more))) (take-append-le (t.from - s.from) bytes more k)
    ∙ ap (λ r. marked (take (t.from - s.from) bytes) (origin_of s) ++ runs_from t ts r) (drop-append-le (t.from - s.from) bytes more k)
    ∙ ap (λ r. marked (take (t.from - s.from) bytes) (origin_of s) ++ r) (from_more n t ts (drop (t.from - s.from) bytes) more o p.1 l f)
    ∙ sym (append_assoc (marked (take (t.from - s.from) bytes) (origin_of s)) _ (marked more o))

-- the last segment goes on
pub runs-more : (ss : List Segment) (bytes more : List ℕ) (o : Origin) → Cover ss (length bytes) → IsNextOfLast ss (length bytes) o → runs ss (bytes ++ more) ≡ runs ss bytes ++ marked more o
runs-more [] bytes more o p f = absurd f
runs-more (s ∷ ss) bytes more o p f = from_more (length bytes) s ss bytes more o p.1 (omega arith) f

is_next : (ss : List Segment) (s : Segment) (n : ℕ) (o : Origin) → o ≡ next_of s n → IsNextOfLast (ss ++ s ∷ []) n o
is_next [] s n o e = e
is_next (t ∷ []) s n o e = e
is_next (t ∷ u ∷ us) s n o e = is_next (u ∷ us) s n o e

split_end : (ss : List Segment) (d : Segment) → 0 < length ss → ss ≡ take (length ss - 1) ss ++ get_or ss (length ss - 1) d ∷ []
split_end ss d h = sym (take_all (length ss - 1 + 1) ss (omega arith)) ∙ take_more ss (length ss - 1) d (omega arith)

rise_end : (n : ℕ) (s : Segment) (ss : List Segment) (u : Segment) → RiseBelow n s (ss ++ u ∷ []) → u.from < n
rise_end n s [] u p = p.1
rise_end n s (t ∷ ts) u p = rise_end n t ts u p.1

cover_end : (n : ℕ) (ss : List Segment) (u : Segment) → Cover (ss ++ u ∷ []) n → u.from ≤ n
cover_end n [] u p = let h = p.1 in omega arith
cover_end n (s ∷ ss) u p = let h = rise_end n s ss u p.1 in omega arith

pub some_segment : (n : ℕ) {b : Bool} → b ≡ nat_eq n 0 → b ≡ false → 0 < n
some_segment n p q = let h : nat_eq n 0 ≡ false = sym p ∙ q in grind arith

-- what a test of the last segment needs, and what it says
pub last_begins : (ss : List Segment) (n : ℕ) (s : Segment) → Cover ss n → 0 < length ss → s ≡ get_or ss (length ss - 1) s → s.from ≤ n
last_begins ss n s p h e =
    let c = cover_end n (take (length ss - 1) ss) (get_or ss (length ss - 1) s) (subst (λ (r : List Segment). Cover r n) (split_end ss s h) p) in
    subst (λ (u : Segment). u.from ≤ n) (sym e) c

pub last_goes : (ss : List Segment) (n : ℕ) (s : Segment) (o : Origin) → 0 < length ss → s ≡ get_or ss (length ss - 1) s → o ≡ next_of s n → IsNextOfLast ss n o
last_goes ss n s o h e g =
    subst (λ (r : List Segment). IsNextOfLast r n o) (sym (split_end ss s h ∙ ap (λ (u : Segment). take (length ss - 1) ss ++ u ∷ []) (sym e))) (is_next (take (length ss - 1) ss) s n o g)
