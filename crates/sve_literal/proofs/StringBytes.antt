-- The bytes of strings one after another.
use Rattle.std.proofs.Common.{◌≡◌, ℕ, ◌+◌, ◌-◌, ◌<◌, ◌≤◌, List, ◌++◌, length, take, drop, get_or, refl, append_assoc, arith}
use Rattle.std.proofs.lemmas.List.{drop_more, append-nil, length-take-le, length-drop}
use Rattle.sve_value.proofs.Words.{length-binary}
use Rattle.std.proofs.Math.ListN.{drop_of_length-le}
use Rattle.std.specs.Prelude.{false}
use Rattle.sve_value.specs.Vector.{Vector}
use Rattle.sve_value.specs.Numbers.{number_of}
use Rattle.sve_value.specs.Moves.{concat_of}
use Rattle.sve_literal.specs.declared.escapes.Escape.{Escape}
use Rattle.sve_literal.specs.Strings.{spelled, gives, goes_to, joined}

pub spelled_step : (cs : List ℕ) (i : ℕ) (escape : Escape) (before : List ℕ) → i < length cs →
    (before ++ gives escape (get_or cs i 0)) ++ spelled (goes_to escape (get_or cs i 0)) (drop (i + 1) cs) ≡ before ++ spelled escape (drop i cs)
unfolding spelled
spelled_step cs i escape before h = rw (drop_more cs i 0 h) (append_assoc before (gives escape (get_or cs i 0)) (spelled (goes_to escape (get_or cs i 0)) (drop (i + 1) cs)))

pub spelled_end : (cs : List ℕ) (i : ℕ) (escape : Escape) (before : List ℕ) → length cs ≤ i → before ++ spelled escape (drop i cs) ≡ before
unfolding spelled
spelled_end cs i escape before h = rw (drop_of_length-le cs h) (append-nil before)

pub joined_step : (cs : List ℕ) (i : ℕ) (v : Vector) → i < length cs → joined (concat_of v (number_of 8 false (get_or cs i 0))) (drop (i + 1) cs) ≡ joined v (drop i cs)
unfolding joined
joined_step cs i v h = rw (drop_more cs i 0 h) refl

pub joined_end : (cs : List ℕ) (i : ℕ) (v : Vector) → length cs ≤ i → joined v (drop i cs) ≡ v
unfolding joined
joined_end cs i v h = rw (drop_of_length-le cs h) refl

-- the bits of a byte, and of bytes behind the first
pub byte_bits : (b : ℕ) → length (number_of 8 false b).bits ≡ 8
byte_bits b = length-binary 8 b

pub behind_first : (bs : List ℕ) → length (take (length bs - 1) (drop 1 bs)) ≡ length bs - 1
behind_first bs = let e = length-drop 1 bs in length-take-le (length bs - 1) (drop 1 bs) (omega (arith, e))
