-- Lines of one kind after another, as far as there is room for them.
use Rattle.std.proofs.Common.{◌≡◌, ℕ, zero, suc, ◌-◌, ◌≤◌, List, [], ◌∷◌, ◌++◌, length, map, take, refl, sym, ap, ◌∙◌, arith}
use Rattle.std.proofs.Math.Seq.{take_all}
use Rattle.sve_listing.specs.Lists.{max_listed}

pub all_in_room : {X : Type 0} (xs : List X) (room : ℕ) → length xs ≤ room → xs ≡ take room xs
all_in_room xs room h = sym (take_all room xs h)

-- the first of two lists one behind the other
take_both : {X Y : Type 0} (f : X → Y) (m : ℕ) (xs ys : List X) → map f (take m xs) ++ map f (take (m - length (map f (take m xs))) ys) ≡ map f (take m (xs ++ ys))
take_both f zero xs ys = refl
take_both f (suc m) [] ys = let whole : suc m - 0 ≡ suc m = omega arith in ap (λ (n : ℕ). map f (take n ys)) whole
take_both f (suc m) (x ∷ xs) ys =
    let less : suc m - length (f x ∷ map f (take m xs)) ≡ m - length (map f (take m xs)) = omega arith in
    ap (λ (n : ℕ). (f x ∷ map f (take m xs)) ++ map f (take n ys)) less ∙ ap (λ zs. f x ∷ zs) (take_both f m xs ys)

-- the texts of things, line by line
each_line : {X Y Z : Type 0} (line : Y → Z) (text : X → Y) (m : ℕ) (xs : List X) → map (λ x. line (text x)) (take m xs) ≡ map line (take m (map text xs))
each_line line text zero xs = refl
each_line line text (suc m) [] = refl
each_line line text (suc m) (x ∷ xs) = ap (λ ls. line (text x) ∷ ls) (each_line line text m xs)

-- with things more behind those whose lines are there
pub with_room : {X Y Z : Type 0} (line : Y → Z) (text : X → Y) (lines : List Z) (before : List Y) (more : List X) → lines ≡ map line (take max_listed before) → lines ++ map (λ x. line (text x)) (take (max_listed - length lines) more) ≡ map line (take max_listed (before ++ map text more))
with_room {X = X} {Y = Y} {Z = Z} line text lines before more e =
    let there : List Z = map line (take max_listed before) in
    let added : map (λ (x : X). line (text x)) (take (max_listed - length there) more) ≡ map line (take (max_listed - length there) (map text more)) = each_line line text (max_listed - length there) more in
    ap (λ (ls : List Z). ls ++ map (λ (x : X). line (text x)) (take (max_listed - length ls) more)) e ∙ ap (λ (ls : List Z). there ++ ls) added ∙ take_both line max_listed before (map text more)
