-- Words for what a read answered (own).
use Rattle.std.specs.Prelude.{ℕ, ⊤}
use Rattle.sve_io.specs.declared.reading.Got.{Got}
use Rattle.sve_io.specs.declared.reading.Got.TheVariants.{Bytes, End, Failed}

-- how many bytes the read moved
abbrev pub bytes_moved : Got → ℕ
bytes_moved (Bytes count) = count
bytes_moved End = 0
bytes_moved Failed = 0

-- a fact of the number of bytes, where bytes came
abbrev pub IfBytes : Got → (ℕ → Type 0) → Type 0
IfBytes (Bytes count) P = P count
IfBytes End P = ⊤
IfBytes Failed P = ⊤

-- a fact where no bytes came
abbrev pub UnlessBytes : Got → Type 0 → Type 0
UnlessBytes (Bytes count) P = ⊤
UnlessBytes End P = P
UnlessBytes Failed P = P

-- a fact where the end was reached
abbrev pub OnEnd : Got → Type 0 → Type 0
OnEnd (Bytes count) P = ⊤
OnEnd End P = P
OnEnd Failed P = ⊤

-- a fact where the read failed
abbrev pub OnFailed : Got → Type 0 → Type 0
OnFailed (Bytes count) P = ⊤
OnFailed End P = ⊤
OnFailed Failed P = P

-- a fact where the read did not fail
abbrev pub UnlessFailed : Got → Type 0 → Type 0
UnlessFailed (Bytes count) P = P
UnlessFailed End P = P
UnlessFailed Failed P = ⊤
