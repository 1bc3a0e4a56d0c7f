-- What `__FILE__ and `__LINE__ stand for.
use Rattle.std.proofs.Common.{refl, ◌≡◌, ℕ, ◌+◌, ◌<◌, ◌^◌, List, [], ◌∷◌, ◌++◌, length, take, Some, nat_eq, Bool, false, min, ap, ◌∙◌, arith, length-append, sym}
use Rattle.std.specs.Fmt.{decimal}
use Rattle.std.proofs.lemmas.Fmt.{length-decimal-le, decimal_nonempty}
use Rattle.sve_unread.specs.Head.{head_origin}
use Rattle.std.proofs.lemmas.List.{take_min}
use Rattle.sve_directive.specs.Directives.{cut}
use Rattle.sve_prep.specs.State.{State}
use Rattle.sve_prep.specs.Uses.{file_text}

pub file_is : (text name : List ℕ) (s : State) → text ≡ (34 ∷ name ++ 34 ∷ []) → name ≡ (head_origin s.rest).file → text ≡ file_text s
file_is text name s e h = e ∙ ap (λ (n : List ℕ). 34 ∷ n ++ 34 ∷ []) h

pub file_some : (text name : List ℕ) → text ≡ (34 ∷ name ++ 34 ∷ []) → 0 < length text
file_some text name e = omega (arith, ap length e, length-append name (34 ∷ []))

pub line_room : (text : List ℕ) (line out : ℕ) → text ≡ decimal line → line < 2 ^ 32 → out + 1026 < 2 ^ 32 → out + length text < 2 ^ 32
line_room text line out e h r = omega (arith, ap length e, length-decimal-le 10 line (omega arith) (omega arith) (omega arith))

pub cut_some : (bytes : List ℕ) → 0 < length bytes → Some (take 1024 bytes) ≡ cut bytes
cut_some [] h = absurd (omega arith)
cut_some (b ∷ bs) h = ap (λ (x : List ℕ). Some x) refl

pub some_bytes : (n : ℕ) {b : Bool} → b ≡ nat_eq n 0 → b ≡ false → 0 < n
some_bytes n p q = let h : nat_eq n 0 ≡ false = sym p ∙ q in grind arith

pub line_some : (text : List ℕ) (line : ℕ) → text ≡ decimal line → line < 2 ^ 32 → 0 < length text
line_some text line e h = omega (arith, ap length e, decimal_nonempty line (omega arith))

min_flip : (m n : ℕ) → min m n ≡ min n m
min_flip m n = omega arith

take_min_right : (n : ℕ) (xs : List ℕ) → take (min (length xs) n) xs ≡ take n xs
take_min_right n xs = ap (λ k. take k xs) (min_flip (length xs) n) ∙ take_min n xs

pub take_least : (bytes : List ℕ) → take (min (length bytes) 1024) bytes ≡ take 1024 bytes
take_least bytes = take_min_right 1024 bytes
