-- Whether two values are one: the same size, the same sign, and the same bits, x and z as such (IEEE 1800-2017, 11.4.5).
use Rattle.std.specs.Prelude.{ℕ, Bool, true, false, ◌&&◌, List, [], ◌∷◌}
use Rattle.sve_value.specs.declared.bit.Bit.{Bit}
use Rattle.sve_value.specs.declared.bit.Bit.TheVariants.{Zero, One, X, Z}
use Rattle.sve_value.specs.Vector.{Vector}

abbrev pub same_bit : Bit → Bit → Bool
same_bit Zero Zero = true
same_bit One One = true
same_bit X X = true
same_bit Z Z = true
same_bit _ _ = false

unfoldable pub same_bits : List Bit → List Bit → Bool
same_bits [] [] = true
same_bits [] (b ∷ bs) = false
same_bits (a ∷ as') [] = false
same_bits (a ∷ as') (b ∷ bs) = same_bit a b && same_bits as' bs

abbrev pub same_sign : Bool → Bool → Bool
same_sign true true = true
same_sign true false = false
same_sign false true = false
same_sign false false = true

abbrev pub same_vector : Vector → Vector → Bool
same_vector a b = same_sign a.signed b.signed && same_bits a.bits b.bits

-- The bits as digits, by which a value is found among others of its size and sign (own).
abbrev pub digit_of : Bit → ℕ
digit_of Zero = 0
digit_of One = 1
digit_of X = 2
digit_of Z = 3

unfoldable pub digits_of : List Bit → List ℕ
digits_of [] = []
digits_of (b ∷ bs) = digit_of b ∷ digits_of bs

-- those of the values of names
unfoldable pub digits_of_names : List (List ℕ × Vector) → List (List ℕ)
digits_of_names [] = []
digits_of_names (n ∷ ns) = digits_of n.1.bits ∷ digits_of_names ns
