-- Bytes from one place on.
use Rattle.std.proofs.Common.{◌≡◌, ℕ, suc, zero, ◌+◌, ◌<◌, ◌^◌, Bool, true, false, cond, List, [], ◌∷◌, ◌++◌, length, take, drop, refl, ap, sym, ◌∙◌, arith}
use Rattle.std.specs.List.{All}
use Rattle.std.proofs.lemmas.List.Elements.{All-nil, All-cons}
use Rattle.sve_origin.specs.Origins.{Origin, marked, moved, values, HasOffset}

moved_none : (c : Bool) (a : ℕ) → a + cond c 0 0 ≡ a
moved_none true a = omega arith
moved_none false a = omega arith

pub moved-zero : (o : Origin) → moved 0 o ≡ o
moved-zero o = ap (λ (k : ℕ). record { file = o.file; offset = k; copied = o.copied }) (moved_none o.copied o.offset)

moved_more : (c : Bool) (a m n : ℕ) → (a + cond c m 0) + cond c n 0 ≡ a + cond c (m + n) 0
moved_more true a m n = omega arith
moved_more false a m n = omega arith

pub moved-add : (m n : ℕ) (o : Origin) → moved n (moved m o) ≡ moved (m + n) o
moved-add m n o = ap (λ (k : ℕ). record { file = o.file; offset = k; copied = o.copied }) (moved_more o.copied o.offset m n)

one_more : (n : ℕ) → 1 + n ≡ suc n
one_more n = omega arith

pub moved-next : (n : ℕ) (o : Origin) → moved n (moved 1 o) ≡ moved (suc n) o
moved-next n o = moved-add 1 n o ∙ ap (λ (k : ℕ). moved k o) (one_more n)

pub drop-marked : (n : ℕ) (vs : List ℕ) (o : Origin) → drop n (marked vs o) ≡ marked (drop n vs) (moved n o)
drop-marked zero vs o = ap (marked vs) (sym (moved-zero o))
drop-marked (suc n) [] o = refl
drop-marked (suc n) (v ∷ vs) o = drop-marked n vs (moved 1 o) ∙ ap (marked (drop n vs)) (moved-next n o)

pub take-marked : (n : ℕ) (vs : List ℕ) (o : Origin) → take n (marked vs o) ≡ marked (take n vs) o
take-marked zero vs o = refl
take-marked (suc n) [] o = refl
take-marked (suc n) (v ∷ vs) o = ap (λ r. (v, o) ∷ r) (take-marked n vs (moved 1 o))

pub length-marked : (vs : List ℕ) (o : Origin) → length (marked vs o) ≡ length vs
length-marked [] o = refl
length-marked (v ∷ vs) o = ap suc (length-marked vs (moved 1 o))

pub values-marked : (vs : List ℕ) (o : Origin) → values (marked vs o) ≡ vs
values-marked [] o = refl
values-marked (v ∷ vs) o = ap (λ r. v ∷ r) (values-marked vs (moved 1 o))

pub marked-append : (xs ys : List ℕ) (o : Origin) → marked (xs ++ ys) o ≡ marked xs o ++ marked ys (moved (length xs) o)
marked-append [] ys o = ap (marked ys) (sym (moved-zero o))
marked-append (x ∷ xs) ys o =
    ap (λ r. (x, o) ∷ r) (marked-append xs ys (moved 1 o) ∙ ap (λ (p : Origin). marked xs (moved 1 o) ++ marked ys p) (moved-next (length xs) o))

fits_on : (c : Bool) (a n : ℕ) → a + cond c (suc n) 0 < 2 ^ 32 → (a < 2 ^ 32) × (a + cond c 1 0 + cond c n 0 < 2 ^ 32)
fits_on true a n h = (omega arith, omega arith)
fits_on false a n h = (omega arith, omega arith)

-- no offset of a piece passes 32 bits
pub offsets-marked : (vs : List ℕ) (o : Origin) → o.offset + cond o.copied (length vs) 0 < 2 ^ 32 → All HasOffset (marked vs o)
offsets-marked [] o h = All-nil HasOffset
offsets-marked (v ∷ vs) o h =
    let f = fits_on o.copied o.offset (length vs) h in
    All-cons HasOffset (v, o) (marked vs (moved 1 o)) f.0 (offsets-marked vs (moved 1 o) f.1)
