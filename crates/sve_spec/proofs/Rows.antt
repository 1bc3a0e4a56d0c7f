-- What stands in a row is smaller than all that stands in it.
use Rattle.std.proofs.Common.{◌≡◌, ℕ, zero, suc, ◌+◌, ◌≤◌, ◌<◌, List, [], ◌∷◌, length, get_or, arith}
use Rattle.sve_types.specs.DataType.{DataType}
use Rattle.sve_types.specs.View.{members_of, size_of, members_size}

pub size_of_member : (ms : List (List ℕ × DataType)) (i : ℕ) (m : List ℕ × DataType) → i < length ms → m ≡ get_or ms i m → size_of m.1 + 1 ≤ members_size (members_of ms)
size_of_member [] i m within is = absurd (omega arith)
size_of_member (n ∷ ms) zero m within is = rw is (omega arith)
size_of_member (n ∷ ms) (suc i) m within is = let there : i < length ms = omega arith in omega (arith, size_of_member ms i m there is)
