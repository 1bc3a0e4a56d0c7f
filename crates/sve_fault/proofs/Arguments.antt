-- What a diagnostic names.
use Rattle.std.proofs.Common.{◌≡◌, ℕ, ◌<◌, min, List, [], ◌∷◌, length, take, Some, refl, ap, ◌∙◌, sym, arith}
use Rattle.std.proofs.lemmas.List.{length-take-le, take_min}
use Rattle.sve_fault.specs.Faults.{argument_of}

argument_some : (bs : List ℕ) → 0 < length bs → argument_of bs ≡ Some (take 1024 bs)
argument_some [] h = absurd (omega arith)
argument_some (b ∷ bs) h = refl

pub argument_is : (bs : List ℕ) (n : ℕ) → n ≡ min 1024 (length bs) → 0 < length bs → Some (take n bs) ≡ argument_of bs
argument_is bs n e h = ap (λ (k : ℕ). Some (take k bs)) e ∙ ap Some (take_min 1024 bs) ∙ sym (argument_some bs h)

pub end_of : (bs : List ℕ) (n : ℕ) → n ≡ min 1024 (length bs) → length (take n bs) ≡ n
end_of bs n e = length-take-le n bs (omega arith)

pub some_bytes : (bs : List ℕ) (n : ℕ) → n ≡ min 1024 (length bs) → 0 < length bs → 0 < length (take n bs)
some_bytes bs n e h = let k = end_of bs n e in omega (arith, k)
