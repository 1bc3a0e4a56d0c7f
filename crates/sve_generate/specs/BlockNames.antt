-- How generate blocks without a label are named (IEEE 1800-2017, 27.6).
use Rattle.std.specs.Prelude.{ℕ, zero, suc, ◌+◌, ◌-◌, ◌<◌, ◌≡◌, ◌⊎◌, ◌++◌, Bool, true, false, if◌then◌else◌, List, [], ◌∷◌, length, is_some, codes, decimal, replicate}
use Rattle.sve_table.specs.Tables.{item_of}

-- `genblk`, zeros and a number
abbrev pub block_text : ℕ → ℕ → List ℕ
block_text zeros number = codes "genblk" ++ replicate zeros 48 ++ decimal number

-- how many zeros there may be, so that it is no longer than a name may be
abbrev pub most_zeros : ℕ → ℕ
most_zeros number = 1024 - 6 - length (decimal number)

-- the fewest zeros, from so many on, with which it is not taken, where that comes within so many tries
unfoldable pub free_zeros : (List ℕ → Bool) → ℕ → ℕ → ℕ → ℕ
free_zeros taken number zero zeros = zeros
free_zeros taken number (suc tries) zeros = if taken (block_text zeros number) then free_zeros taken number tries (suc zeros) else zeros

-- the name of the blocks of the construct with this number
abbrev pub block_name : (List ℕ → Bool) → ℕ → List ℕ
block_name taken number = block_text (free_zeros taken number (most_zeros number) 0) number

-- the names of so many constructs behind so many others; the first construct of all has number 1
unfoldable pub names_from : (List ℕ → Bool) → ℕ → ℕ → List (List ℕ)
names_from taken before zero = []
names_from taken before (suc more) = block_name taken (before + 1) ∷ names_from taken (before + 1) more

-- a name is declared
abbrev pub is_taken : {X : Type 0} → (X → List ℕ) → List X → List ℕ → Bool
is_taken called declared name = is_some (item_of called name declared)

-- `genblk`, zeros and the number: not taken, or as long as a name may be; with fewer zeros it is taken
pub record IsBlockName (taken : List ℕ → Bool) (number : ℕ) (name : List ℕ) : Type 0 where
  pub zeros : ℕ
  pub text : name ≡ block_text zeros number
  pub fewer : (z : ℕ) → z < zeros → taken (block_text z number) ≡ true
  pub free : (taken name ≡ false) ⊎ (length name ≡ 1024)
