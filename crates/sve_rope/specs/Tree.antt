-- The bytes that a tree holds, in order.
use Rattle.std.specs.Prelude.{◌≡◌, ◌<◌, ◌^◌, ℕ, ◌+◌, List, ◌++◌, length}
use Rattle.sve_rope.specs.declared.tree.Tree.{Tree, Leaf, Fork'}

abbrev pub bytes_in : Tree → List ℕ
bytes_in (Leaf run) = run
bytes_in (Fork' shared left right len height) = bytes_in left ++ bytes_in right

-- each fork has the length of its bytes, which fits where memory is counted
abbrev pub IsMeasured : Tree → Type 0
IsMeasured (Leaf run) = Unit {0}
IsMeasured (Fork' shared left right len height) = (len ≡ length (bytes_in left ++ bytes_in right)) × (len < 2 ^ 63) × IsMeasured left × IsMeasured right

-- how many forks a tree has
abbrev pub forks_in : Tree → ℕ
forks_in (Leaf run) = 0
forks_in (Fork' shared left right len height) = forks_in left + forks_in right + 1
