-- The places of an instance, one block after the other.
use Rattle.std.proofs.Common.{◌≡◌, ℕ, zero, suc, ◌+◌, ◌-◌, ◌<◌, Some, List, [], ◌∷◌, ◌++◌, map, take, drop, ap, sym, ◌∙◌, arith}
use Rattle.std.specs.Prelude.{option_map, slice_get}

at_place : {A B : Type 0} (f : A → B) (xs : List A) (i : ℕ) (b : B) → option_map f (slice_get xs i) ≡ Some b → map f (take (suc i) xs) ≡ map f (take i xs) ++ b ∷ []
at_place f [] i b e = cc
at_place f (x ∷ xs) zero b e = let same : f x ≡ b = cc in ap (λ c. c ∷ []) same
at_place f (x ∷ xs) (suc i) b e = ap (λ bs. f x ∷ bs) (at_place f xs i b e)

-- the things behind the first, and one more of them
pub next_behind : {A B : Type 0} (f : A → B) (xs : List A) (k : ℕ) (b : B) → 0 < k → option_map f (slice_get xs k) ≡ Some b → map f (take (k + 1 - 1) (drop 1 xs)) ≡ map f (take (k - 1) (drop 1 xs)) ++ b ∷ []
next_behind f [] k b some e = cc
next_behind f (x ∷ xs) zero b some e = absurd (omega (arith, some))
next_behind f (x ∷ xs) (suc i) b some e =
    let more : suc i + 1 - 1 ≡ suc i = omega arith in
    let less : suc i - 1 ≡ i = omega arith in
    ap (λ (n : ℕ). map f (take n xs)) more ∙ at_place f xs i b e ∙ ap (λ (n : ℕ). map f (take n xs) ++ b ∷ []) (sym less)
