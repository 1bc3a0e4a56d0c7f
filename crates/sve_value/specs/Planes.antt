-- The one relation between the machine words of a value and its list of bits.
use Rattle.std.specs.Prelude.{Bool, ℕ, zero, suc, ◌+◌, ◌*◌, ◌/◌, ◌%◌, List, [], ◌∷◌}
use Rattle.sve_value.specs.declared.bit.Bit.{Bit}
use Rattle.sve_value.specs.declared.bit.Bit.TheVariants.{Zero, One, X, Z}
use Rattle.sve_value.specs.Vector.{Vector}

-- what a digit of the first word and a digit of the second stand for together (own)
abbrev pub bit_of : ℕ → ℕ → Bit
bit_of zero zero = Zero
bit_of (suc one) zero = One
bit_of zero (suc unknown) = X
bit_of (suc one) (suc unknown) = Z

-- the list of bits that the lowest digits of two words stand for
unfoldable pub planes : ℕ → ℕ → ℕ → List Bit
planes zero ones unknowns = []
planes (suc width) ones unknowns = bit_of (ones % 2) (unknowns % 2) ∷ planes width (ones / 2) (unknowns / 2)

abbrev pub vector : ℕ → Bool → ℕ → ℕ → Vector
vector width signed ones unknowns = record { signed = signed; bits = planes width ones unknowns }

-- the digits of a bit in the two words, and the words of a list
abbrev pub ones_digit : Bit → ℕ
ones_digit Zero = 0
ones_digit One = 1
ones_digit X = 0
ones_digit Z = 1

abbrev pub unknowns_digit : Bit → ℕ
unknowns_digit Zero = 0
unknowns_digit One = 0
unknowns_digit X = 1
unknowns_digit Z = 1

unfoldable pub ones_word : List Bit → ℕ
ones_word [] = 0
ones_word (b ∷ bs) = ones_digit b + 2 * ones_word bs

unfoldable pub unknowns_word : List Bit → ℕ
unknowns_word [] = 0
unknowns_word (b ∷ bs) = unknowns_digit b + 2 * unknowns_word bs
