-- The members of a structure, one after another.
use Rattle.std.proofs.Common.{◌≡◌, ℕ, zero, suc, ◌+◌, ◌≤◌, ◌<◌, List, [], ◌∷◌, length, get_or, arith}
use Rattle.sve_types.specs.DataType.{DataType}
use Rattle.sve_types.specs.View.{members_of, size_of, members_size}

-- a member holds fewer types than all members do
pub size_of_member : (ms : List (List ℕ × DataType)) (i : ℕ) (m : List ℕ × DataType) → i < length ms → m ≡ get_or ms i m → size_of m.1 + 1 ≤ members_size (members_of ms)
size_of_member [] i m h e = absurd (omega arith)
size_of_member (x ∷ ms) zero m h e = rw e (omega arith)
size_of_member (x ∷ ms) (suc i) m h e = let k : i < length ms = omega arith in omega (arith, size_of_member ms i m k e)
