-- Lists that begin alike, and have one more item alike.
use Rattle.std.proofs.Common.{◌≡◌, ℕ, zero, suc, ◌+◌, List, [], ◌∷◌, take, refl, ap, ◌∙◌, sym, add-one}
use Rattle.std.specs.List.{slice_get}
use Rattle.sve_index.specs.declared.def.Def.{Def}

one_more : (xs ys : List Def) (i : ℕ) → take i xs ≡ take i ys → slice_get xs i ≡ slice_get ys i → take (suc i) xs ≡ take (suc i) ys
one_more [] [] i e f = refl
one_more [] (y ∷ ys) zero e f = cc
one_more [] (y ∷ ys) (suc i) e f = cc
one_more (x ∷ xs) [] zero e f = cc
one_more (x ∷ xs) [] (suc i) e f = cc
one_more (x ∷ xs) (y ∷ ys) zero e f = let is : x ≡ y = cc in ap (λ (d : Def). d ∷ []) is
one_more (x ∷ xs) (y ∷ ys) (suc i) e f =
    let is : x ≡ y = cc in
    let rest : take i xs ≡ take i ys = cc in
    let more : take (suc i) xs ≡ take (suc i) ys = one_more xs ys i rest f in
    λ j. is j ∷ more j

pub take_more : (xs ys : List Def) (i : ℕ) → take i xs ≡ take i ys → slice_get xs i ≡ slice_get ys i → take (i + 1) xs ≡ take (i + 1) ys
take_more xs ys i e f = ap (λ (k : ℕ). take k xs) (add-one i) ∙ one_more xs ys i e f ∙ sym (ap (λ (k : ℕ). take k ys) (add-one i))
