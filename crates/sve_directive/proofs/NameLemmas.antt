-- Bytes as names.
use Rattle.std.proofs.Common.{◌≡◌, ℕ, ◌<◌, ◌≤◌, min, true, false, ◌&&◌, nat_le, cond, Some, None, List, [], ◌∷◌, length, take, refl, ap, sym, ◌∙◌, arith}
use Rattle.std.proofs.lemmas.List.{length-take, take_min}
use Rattle.sve_directive.specs.declared.directive.MacroName.TheVariants.{Name, TooLong}
use Rattle.sve_directive.specs.Define.{name_of, macro_name_of}
use Rattle.sve_directive.specs.Directives.{cut}

min_flip : (a b : ℕ) → min a b ≡ min b a
min_flip a b = omega arith

too_long : (n : ℕ) → 1024 < n → (nat_le 1 n && nat_le n 1024) ≡ false
too_long n h = grind arith

fits : (n : ℕ) → 0 < n → n ≤ 1024 → (nat_le 1 n && nat_le n 1024) ≡ true
fits n h k = grind arith

pub no_long_name : (bytes : List ℕ) → 1024 < length bytes → None ≡ name_of bytes
no_long_name bytes h = ap (λ b. cond b (Some bytes) None) (sym (too_long (length bytes) h))

pub long_macro_name : (bytes : List ℕ) → 1024 < length bytes → Some TooLong ≡ macro_name_of bytes
long_macro_name [] h = absurd (omega arith)
long_macro_name (b ∷ bs) h = ap (λ v. Some (cond v (Name (b ∷ bs)) TooLong)) (sym (too_long (length (b ∷ bs)) h))

pub short_name : (bytes : List ℕ) → 0 < length bytes → length bytes ≤ 1024 → name_of bytes ≡ Some bytes
short_name bytes h k = ap (λ b. cond b (Some bytes) None) (fits (length bytes) h k)

-- the limit may stand on either side
take_min_right : (n : ℕ) (xs : List ℕ) → take (min (length xs) n) xs ≡ take n xs
take_min_right n xs = ap (λ k. take k xs) (min_flip (length xs) n) ∙ take_min n xs

-- at most 1,024 bytes
pub cut_is : (bytes : List ℕ) → name_of (take (min (length bytes) 1024) bytes) ≡ cut bytes
cut_is [] = refl
cut_is (b ∷ bs) = short_name (take (min (length (b ∷ bs)) 1024) (b ∷ bs)) (omega (arith, length-take (min (length (b ∷ bs)) 1024) (b ∷ bs))) (omega (arith, length-take (min (length (b ∷ bs)) 1024) (b ∷ bs))) ∙ ap Some (take_min_right 1024 (b ∷ bs))
